-- What holds of memory that is divided into slots. A row's start is the slot that it has, whether the row is in use or spare.
use Rattle.std.specs.Prelude.{◌≡◌, ℕ, ◌+◌, ◌*◌, ◌%◌, ◌≤◌, Bool, true, ◌&&◌, List, length, ◌==◌, ◌≢◌, nat_le, slice_index, All, AllPairs}
use Rattle.std.specs.Borrow.{MutBor}
use Rattle.store.specs.Sound.{max_files, max_length}
use Rattle.lent.specs.declared.memory.Memory.{Memory}
use Rattle.table.specs.declared.place.Place.{Place}
use Rattle.lent.specs.Kept.{held_in, empty, Readable}
use Rattle.table.specs.Tables.{starts_in}

-- the slot of each row, as the place where it begins
abbrev pub slots : Memory → List ℕ
slots m = starts_in m.places.now

-- the slot of the first spare row
abbrev pub spare_slot : Memory → ℕ
spare_slot m = slice_index (slots m) m.count

-- a slot begins at a multiple of its size
abbrev pub Whole : List ℕ → Type 0
Whole ss = All (λ s. s % max_length ≡ 0) ss

-- a slot ends at or before `end`
abbrev pub Inside : List ℕ → ℕ → Type 0
Inside ss end = All (λ s. s + max_length ≤ end) ss

-- no two rows have one slot
abbrev pub Distinct : List ℕ → Type 0
Distinct ss = AllPairs (λ s t. s ≢ t) ss

-- the same of the slots of memory, and that there are as many as rows
abbrev pub SlotsWhole : Memory → Type 0
SlotsWhole m = Whole (slots m)

abbrev pub SlotsInside : Memory → Type 0
SlotsInside m = Inside (slots m) (length m.bytes.now)

abbrev pub SlotsDistinct : Memory → Type 0
SlotsDistinct m = Distinct (slots m)

abbrev pub SlotsFill : Memory → Type 0
SlotsFill m = length m.bytes.now ≡ length m.places.now * max_length

-- what holds between two calls
pub record Slotted (m : Memory) : Type 0 where
  pub readable : Readable m
  pub whole : SlotsWhole m
  pub inside : SlotsInside m
  pub distinct : SlotsDistinct m
  pub fill : SlotsFill m

-- so many rows and bytes suit: 1 to 1,024 rows, and a slot for each
abbrev pub suits : ℕ → ℕ → Bool
suits rows bytes = nat_le 1 rows && (nat_le rows max_files && bytes == rows * max_length)

-- memory of a new store in these rows and bytes, which are lent to it
pub record StartsIn (places : MutBor (List Place)) (bytes : MutBor (List ℕ)) (m : Memory) : Type 0 where
  pub suited : suits (length places.now) (length bytes.now) ≡ true
  pub contents : held_in m ≡ empty (length places.now) (length places.now * max_length)
  pub rows_lent : m.places.ghost_name ≡ places.ghost_name
  pub bytes_lent : m.bytes.ghost_name ≡ bytes.ghost_name
