-- What a change does to lent memory.
use Rattle.std.specs.Prelude.{◌≡◌, ℕ, ◌+◌, List, length, slice_index_or}
use Rattle.store.specs.declared.info.NewFile.{NewFile}
use Rattle.store.specs.Infos.{with_length}
use Rattle.table.specs.declared.place.Place.{Place}
use Rattle.table.specs.Areas.{written}
use Rattle.table.specs.Found.{Ranked}
use Rattle.table.specs.Rows.{rows_with, rows_without}
use Rattle.lent.specs.declared.memory.Memory.{Memory}
use Rattle.lent.specs.Kept.{rows}

-- the row of a new file
abbrev pub new_row : ℕ → NewFile → ℕ → ℕ → Place
new_row number f length start = record { number = number; file = with_length f length; start = start }

-- a file's bytes are written from `start` on, and its row is put in at the rank of its number
pub record Put (before after : Memory) (number : ℕ) (f : NewFile) (start : ℕ) (bytes : List ℕ) : Type 0 where
  pub index : ℕ
  pub rank : Ranked (rows before) number index
  pub table : after.places.now ≡ rows_with before.places.now before.count index (new_row number f (length bytes) start)
  pub area : after.bytes.now ≡ written before.bytes.now start bytes
  pub count : after.count ≡ before.count + 1
  pub total : after.total ≡ before.total + length bytes

-- the row at `index` is taken out, and is the first of the spare ones
pub record Cut (before after : Memory) (index : ℕ) (row : Place) : Type 0 where
  pub is : row ≡ slice_index_or before.places.now index row
  pub table : after.places.now ≡ rows_without before.places.now before.count index
  pub area : after.bytes.now ≡ before.bytes.now
  pub count : after.count + 1 ≡ before.count
  pub total : after.total + row.file.length ≡ before.total
