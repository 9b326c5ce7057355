use Rattle.std.proofs.Common.{◌-◌}
use Rattle.wire.proofs.Units.{Sofar}
use Rattle.wire.proofs.string.read_units.Given as goal

abbrev pub invariant-loop : goal.invariant-loop
invariant-loop l = Sofar l.bytes l.count l.rest (l.count - l.counter)
