-- What a memory is seen as, and what a store over it holds.
use Rattle.std.specs.Prelude.{ℕ, List}
use Rattle.store.specs.Contents.{Entry, Contents}

-- the files that are in it, and for how many rows and bytes in all there is memory
pub record InMemory : Type 0 where
  pub files : List Entry
  pub row_room : ℕ
  pub byte_room : ℕ

abbrev pub holding : ℕ → ℕ → List Entry → Contents
holding capacity limit files = record { capacity = capacity; limit = limit; files = files }
