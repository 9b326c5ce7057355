use Rattle.std.proofs.Common.{rules, arith}
use Rattle.store.proofs.Last.{past_walk, past_bound}
use Rattle.store.proofs.walk.last_number.Goals as goal

pub returns-clause-value : goal.returns-clause-value
returns-clause-value g c =
    let past = past_walk c.numbers_of.result (g.S.ReadStore.contents c.args.store.now).files c.last.result c.numbers_of.ensures c.last.ensures.ran in
    search rules

pub returns-clause-bound : goal.returns-clause-bound
returns-clause-bound g c =
    let bound = past_bound (g.S.ReadStore.contents c.args.store.now) (g.S.ReadStore.sound c.args.store.now) in
    let value = returns-clause-value g c in
    omega (arith, bound, value)
