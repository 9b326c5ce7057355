use Rattle.std.proofs.Common.{◌≡◌, take}
use Rattle.store.specs.Contents.{bytes_of, lookup}
use Rattle.compare.proofs.bytes.same_bytes.Given as goal

abbrev pub invariant-loop-at : goal.invariant-loop-at
invariant-loop-at g l =
    take l.at (bytes_of (lookup l.number (g.A.ReadStore.contents l.a).files)) ≡ take l.at (bytes_of (lookup l.number (g.B.ReadStore.contents l.b).files))
