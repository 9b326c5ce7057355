-- What rows and bytes hold.
use Rattle.std.specs.Prelude.{ℕ, List, [], ◌∷◌, take, drop, sum_by, Option, ◌==◌, nat_lt}
use Rattle.std.specs.List.{position, position_or_len}
use Rattle.store.specs.Contents.{File, Entry}
use Rattle.store.specs.declared.info.FileInfo.{FileInfo}
use Rattle.heap_store.specs.declared.row.Row.{Row}

-- how many bytes the rows' files have in all
abbrev pub taken : List Row → ℕ
taken rs = sum_by (λ (r : Row). r.file.length) rs

abbrev pub file_in : FileInfo → List ℕ → File
file_in f bytes = record { format = f.format; protection = f.protection; parent = f.parent; name = f.name; bytes = take f.length bytes }

-- the files: each has the first bytes that the rows before it left
abbrev pub files_in : List Row → List ℕ → List Entry
files_in [] bytes = []
files_in (r ∷ rs) bytes = record { number = r.number; file = file_in r.file bytes } ∷ files_in rs (drop r.file.length bytes)

-- which row has this number, if one does
unfoldable pub rank_of : ℕ → List Row → Option ℕ
rank_of n rs = position (λ (r : Row). r.number == n) rs

-- how many rows a new one of this number stands behind: those before the first of a larger number
unfoldable pub rank_for : ℕ → List Row → ℕ
rank_for n rs = position_or_len (λ (r : Row). nat_lt n r.number) rs
