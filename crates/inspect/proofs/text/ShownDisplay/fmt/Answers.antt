use Rattle.std.proofs.Common.{rules, ◌++◌, refl, sym}
use Rattle.std.proofs.Output.{has_written_append}
use Rattle.object.specs.Names.{units_of}
use Rattle.inspect.specs.Texts.{sign_text, units_text}
use Rattle.inspect.proofs.Reading.{sign_added}
use Rattle.inspect.proofs.text.ShownDisplay.fmt.Goals as goal

pub loop-sign-preserved : goal.loop-sign-preserved
loop-sign-preserved g c plain =
    let before = c.loop-sign.invariant plain in (
      before.0 ++ sign_text c.in-Some.sign,
      has_written_append _ _ _ _ _ _ before.1 (search rules),
      sign_added before.0 (before.0 ++ sign_text c.in-Some.sign) (units_text (units_of c.args.self.now.0.now)) c.loop-sign.rest.now c.in-Some.behind.now c.in-Some.sign refl (sym c.in-Some.ensures) before.2,
    )
