-- What holds of lent memory between two calls.
use Rattle.std.specs.Prelude.{◌≡◌, ◌≤◌, ℕ, List, [], length, take}
use Rattle.store.specs.Contents.{Contents, total}
use Rattle.store.specs.Sound.{Sound}
use Rattle.lent.specs.declared.memory.Memory.{Memory}
use Rattle.table.specs.declared.place.Place.{Place}
use Rattle.table.specs.Tables.{held, Within}

-- what memory holds
abbrev pub held_in : Memory → Contents
held_in m = held m.places.now m.count m.bytes.now

-- contents of so many rows and bytes with no file
abbrev pub empty : ℕ → ℕ → Contents
empty rows bytes = record { capacity = bytes; limit = rows; files = [] }

-- the rows in use
abbrev pub rows : Memory → List Place
rows m = take m.count m.places.now

-- the rows in use are there, and their files have so many bytes
abbrev pub Counted : Memory → Type 0
Counted m = (m.count ≤ length m.places.now) × (m.total ≡ total (held_in m).files)

-- the bytes of each row in use lie in the memory
abbrev pub LiesWithin : Memory → Type 0
LiesWithin m = Within (rows m) (length m.bytes.now)

-- what the questions need
pub record Readable (m : Memory) : Type 0 where
  pub counted : Counted m
  pub sound : Sound (held_in m)
  pub within : LiesWithin m
