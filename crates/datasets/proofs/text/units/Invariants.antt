use Rattle.std.proofs.Common.{◌≡◌, length, take}
use Rattle.datasets.proofs.text.units.Given as goal

abbrev pub invariant-loop-i : goal.invariant-loop-i
invariant-loop-i g l = (length l.units ≡ length l.text) × (take l.i l.units ≡ take l.i l.text)
