-- What a search in a table finds.
use Rattle.std.specs.Prelude.{◌≡◌, ℕ, ◌<◌, ◌≤◌, List, length, ◌≢◌, slice_index, slice_index_or}
use Rattle.table.specs.declared.place.Place.{Place}
use Rattle.table.specs.Tables.{numbers_in}

-- how many of these rows have a number of at most `number`: they are the first ones
pub record Ranked (ps : List Place) (number rank : ℕ) : Type 0 where
  pub bound : rank ≤ length ps
  pub below : (k : ℕ) → k < rank → slice_index (numbers_in ps) k ≤ number
  pub above : rank < length ps → number < slice_index (numbers_in ps) rank

-- the row with this number is at `index`
pub record StandsAt (ps : List Place) (number index : ℕ) : Type 0 where
  pub used : index < length ps
  pub here : slice_index_or (numbers_in ps) index 0 ≡ number

-- no row has this number
abbrev pub Missing : List Place → ℕ → Type 0
Missing ps number = (k : ℕ) → k < length ps → slice_index (numbers_in ps) k ≢ number
