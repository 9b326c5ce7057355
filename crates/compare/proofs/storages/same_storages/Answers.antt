use Rattle.compare.proofs.Replies.{decides_alike}
use Rattle.compare.proofs.storages.same_storages.Goals as goal

pub returns-clause-alike : goal.returns-clause-alike
returns-clause-alike g c =
    let e = c.are_equal.ensures in
    decides_alike c.args.a.now c.args.b.now c.are_equal.result e.sound.0 e.sound.1 e.equal
