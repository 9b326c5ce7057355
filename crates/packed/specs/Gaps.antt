-- The gap that a removal leaves, a table whose rows are corrected for it, and its closing.
use Rattle.std.specs.Prelude.{◌≡◌, ℕ, ◌+◌, ◌-◌, cond, List, ◌++◌, map, take, drop, nat_le}
use Rattle.packed.specs.declared.gap.Gap.{Gap}
use Rattle.table.specs.declared.place.Place.{Place}
use Rattle.table.specs.Areas.{closed_up}
use Rattle.lent.specs.declared.memory.Memory.{Memory}
use Rattle.lent.specs.Changed.{Cut}

-- where a file begins once the gap is closed: what lies behind the gap moves down by its length
abbrev pub start_after : Gap → ℕ → ℕ
start_after gap start = cond (nat_le (gap.start + gap.length) start) (start - gap.length) start

-- a row once the gap is closed
abbrev pub row_after : Gap → Place → Place
row_after gap p = record { number = p.number; file = p.file; start = start_after gap p.start }

-- the table with its first `count` rows corrected
abbrev pub rows_after : Gap → ℕ → List Place → List Place
rows_after gap count ps = map (row_after gap) (take count ps) ++ drop count ps

-- the rows in use are corrected for the gap. No byte changes
pub record Corrected (before after : Memory) (gap : Gap) : Type 0 where
  pub table : after.places.now ≡ rows_after gap before.count before.places.now
  pub area : after.bytes.now ≡ before.bytes.now
  pub count : after.count ≡ before.count
  pub total : after.total ≡ before.total

-- the row at `index` is taken out, the gap is where its file's bytes lie, and the rows in use are corrected for it
pub record Leaves (before after : Memory) (index : ℕ) (gap : Gap) : Type 0 where
  pub row : Place
  pub between : Memory
  pub cut : Cut before between index row
  pub begins : gap.start ≡ row.start
  pub long : gap.length ≡ row.file.length
  pub corrected : Corrected between after gap

-- the gap in front of the total is closed: the bytes behind it have moved down. No row changes
pub record Closed (before after : Memory) (gap : Gap) : Type 0 where
  pub table : after.places.now ≡ before.places.now
  pub area : after.bytes.now ≡ closed_up before.bytes.now gap.start gap.length (before.total + gap.length)
  pub count : after.count ≡ before.count
  pub total : after.total ≡ before.total
