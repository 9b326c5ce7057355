-- What the questions of the files in lent memory find.
use Rattle.std.specs.Prelude.{◌≡◌, ℕ, ◌≤◌, false, List, length, Some, None, Ok, Err}
use Rattle.store.specs.declared.fault.StoreFault.{StoreFault}
use Rattle.store.specs.Contents.{Contents, lookup}
use Rattle.store.specs.Changes.{removed, without, with_files, is_absent}
use Rattle.table.specs.declared.place.Place.{Place}
use Rattle.table.specs.Found.{StandsAt}
use Rattle.table.specs.Tables.{file_at, holding, end_of}
use Rattle.lent.specs.declared.files.HeldFiles.{HeldFiles}

-- what the memory holds whose files these are
abbrev pub contents_of : HeldFiles → Contents
contents_of v = holding v.places.now v.limit v.bytes.now

-- the file with this number is there, and its row is at `index`
pub record HasRow (v : HeldFiles) (number index : ℕ) : Type 0 where
  pub row : StandsAt v.places.now number index
  pub there : is_absent (lookup number (contents_of v).files) ≡ false

-- this row has the file with this number, whose bytes lie in the memory
pub record RowOf (v : HeldFiles) (number : ℕ) (p : Place) : Type 0 where
  pub found : lookup number (contents_of v).files ≡ Some (file_at v.bytes.now p)
  pub ends : end_of p ≤ length v.bytes.now

-- no row has a file with this number
abbrev pub NoRow : HeldFiles → ℕ → Type 0
NoRow v number = lookup number (contents_of v).files ≡ None

-- of contents whose files have these rows, the file with this number may be removed, and its row is at `index`
pub record Removable (ps : List Place) (c : Contents) (number index : ℕ) : Type 0 where
  pub row : StandsAt ps number index
  pub result : removed false number c ≡ Ok (with_files c (without number c.files))

-- a removal is refused
abbrev pub NotRemovable : Contents → ℕ → StoreFault → Type 0
NotRemovable c number fault = removed false number c ≡ Err fault
