use Rattle.std.proofs.Common.{◌≡◌, ◌++◌, map, take, drop}
use Rattle.packed.specs.Gaps.{row_after}
use Rattle.packed.proofs.changes.correct_starts.Given as goal

abbrev pub invariant-loop-place : goal.invariant-loop-place
invariant-loop-place l = l.places ≡ map (row_after l.gap) (take l.place-index l.initial.places) ++ drop l.place-index l.initial.places
