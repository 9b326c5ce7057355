use Rattle.std.proofs.Common.{◌≡◌, ℕ, List, drop}
use Rattle.store.specs.Changes.{has_children}
use Rattle.table.specs.Tables.{files_in}
use Rattle.table.proofs.search.is_parent_of_any.Given as goal

abbrev pub invariant-loop-place : goal.invariant-loop-place
invariant-loop-place l =
    (bytes : List ℕ) → has_children l.number (files_in bytes l.places) ≡ has_children l.number (files_in bytes (drop l.place-index l.places))
