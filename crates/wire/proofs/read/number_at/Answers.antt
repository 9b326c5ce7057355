use Rattle.std.proofs.Common.{take, drop, replicate, ap, ◌∙◌}
use Rattle.wire.proofs.Places.{number_padded}
use Rattle.wire.proofs.read.number_at.Goals as goal

pub returns : goal.returns
returns g c =
    c.from_le.ensures
    ∙ number_padded g.T.Number.WIDTH c.args.place c.args.bytes.now c.split_at.result.1.now _ c.copy_fitting.new.into c.copy_fitting.result g.met.T.Number.narrow
    (ap (λ n. take n (replicate 8 0)) c.WIDTH.ensures)
    (c.split_at.ensures.back ∙ ap (λ n. drop n c.args.bytes.now) c.min.ensures)
    c.copy_fitting.ensures
