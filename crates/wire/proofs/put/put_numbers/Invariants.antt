use Rattle.std.proofs.Common.{map, take}
use Rattle.wire.specs.Containers.{numbers}
use Rattle.wire.specs.Writing.{Wrote}
use Rattle.wire.proofs.put.put_numbers.Given as goal

abbrev pub invariant-loop-number : goal.invariant-loop-number
invariant-loop-number g l = Wrote l.place (numbers g.T.Number.WIDTH (take l.number-index (map g.T.Number.number l.list))) l.initial.out l.out l.next
