-- How the files lie in a packed store.
use Rattle.std.specs.Prelude.{◌≡◌, ℕ, Bool, true, ◌&&◌, List, length, nat_le}
use Rattle.std.specs.Borrow.{MutBor}
use Rattle.store.specs.Changes.{legal_sizes}
use Rattle.lent.specs.declared.memory.Memory.{Memory}
use Rattle.table.specs.declared.place.Place.{Place}
use Rattle.lent.specs.Kept.{held_in, rows, empty, Readable}
use Rattle.table.specs.Rows.{lengths_in}
use Rattle.table.specs.Tables.{Within, Apart}

-- so many rows and bytes suit
abbrev pub suits : ℕ → ℕ → Bool
suits rows bytes = nat_le 1 rows && legal_sizes rows bytes

-- memory of a new store in these rows and bytes, which are lent to it as they are
pub record StartsIn (places : MutBor (List Place)) (bytes : MutBor (List ℕ)) (m : Memory) : Type 0 where
  pub suited : suits (length places.now) (length bytes.now) ≡ true
  pub contents : held_in m ≡ empty (length places.now) (length bytes.now)
  pub rows_kept : m.places.now ≡ places.now
  pub bytes_kept : m.bytes.now ≡ bytes.now
  pub rows_lent : m.places.ghost_name ≡ places.ghost_name
  pub bytes_lent : m.bytes.ghost_name ≡ bytes.ghost_name

-- where the files lie: the rows in use. The order in which they lie is free, but for the three facts that follow
abbrev pub where_files_lie : Memory → List Place
where_files_lie m = rows m

-- every file lies in front of the total
abbrev pub LiesInFront : Memory → Type 0
LiesInFront m = Within (where_files_lie m) m.total

-- no two files share a byte
abbrev pub LiesApart : Memory → Type 0
LiesApart m = Apart (where_files_lie m)

-- the files have as many bytes as there are in front of the total, so none of these is free
abbrev pub HasNoGap : Memory → Type 0
HasNoGap m = lengths_in (where_files_lie m) ≡ m.total

-- what holds of a packed store's memory between two calls
pub record Packed (m : Memory) : Type 0 where
  pub readable : Readable m
  pub in_front : LiesInFront m
  pub apart : LiesApart m
  pub no_gap : HasNoGap m
