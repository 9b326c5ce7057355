use Rattle.std.proofs.Common.{◌≡◌, ◌+◌, ◌-◌, ap, ◌∙◌, arith}
use Rattle.object.specs.Names.{units_in}
use Rattle.datasets.specs.ObjectInfos.{are_strings}
use Rattle.datasets.proofs.Infos.{strings_more, strings_none}
use Rattle.datasets.proofs.read.are_strings.Goals as goal

pub returns-in-None : goal.returns-in-None
returns-in-None c = strings_none (c.args.count - c.loop.counter) (omega arith) c.loop.rest.now c.in-None.ensures.value ∙ c.loop.invariant

pub loop-preserved : goal.loop-preserved
loop-preserved c =
    let one_less : c.args.count - (c.loop.counter + 1) ≡ c.args.count - c.loop.counter - 1 = omega arith in
    ap (λ n. are_strings n c.in-Some.text.rest.now) one_less
    ∙ strings_more (c.args.count - c.loop.counter) (omega arith) c.loop.rest.now (units_in c.in-Some.text.units.now) c.in-Some.text.rest.now c.in-Some.ensures.value
    ∙ c.loop.invariant
