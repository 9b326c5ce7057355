use Rattle.std.proofs.Common.{◌≡◌, ◌++◌, map, vec_items}
use Rattle.inspect.specs.Listed.{row_fields, listed}
use Rattle.inspect.proofs.Told.{told_fields}
use Rattle.inspect.proofs.listing.rows_of.Given as goal

abbrev pub invariant-loop-number : goal.invariant-loop-number
invariant-loop-number g l =
    map row_fields (vec_items l.rows) ++ map told_fields l.number-iterator ≡ listed (g.S.ReadStore.contents l.store).files
