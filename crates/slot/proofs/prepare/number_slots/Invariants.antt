use Rattle.std.proofs.Common.{◌≡◌, ℕ, ◌*◌, ◌<◌, get_or}
use Rattle.store.specs.Sound.{max_length}
use Rattle.table.specs.Tables.{starts_in}
use Rattle.slot.proofs.prepare.number_slots.Given as goal

abbrev pub invariant-loop-i : goal.invariant-loop-i
invariant-loop-i l = (k : ℕ) → k < l.i → get_or (starts_in l.places) k 0 ≡ k * max_length
