use Rattle.std.proofs.Common.{◌≡◌, ◌-◌}
use Rattle.datasets.specs.ObjectInfos.{are_strings}
use Rattle.datasets.proofs.read.are_strings.Given as goal

abbrev pub invariant-loop : goal.invariant-loop
invariant-loop l = are_strings (l.count - l.counter) l.rest ≡ are_strings l.count l.bytes
