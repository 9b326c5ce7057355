-- What the rows of a table stand for, and how their bytes lie.
use Rattle.std.specs.Prelude.{ℕ, ◌+◌, ◌<◌, ◌≤◌, List, [], ◌∷◌, map, length, take, drop, slice_index, All, AllPairs}
use Rattle.store.specs.Contents.{File, Entry, Contents}
use Rattle.table.specs.declared.place.Place.{Place}

-- the file that a row stands for, over the memory of bytes
abbrev pub file_at : List ℕ → Place → File
file_at bytes p = record {
  format = p.file.format;
  protection = p.file.protection;
  parent = p.file.parent;
  name = p.file.name;
  bytes = take p.file.length (drop p.start bytes);
}

abbrev pub entry_at : List ℕ → Place → Entry
entry_at bytes p = record { number = p.number; file = file_at bytes p }

-- the files of these rows
abbrev pub files_in : List ℕ → List Place → List Entry
files_in bytes [] = []
files_in bytes (p ∷ ps) = entry_at bytes p ∷ files_in bytes ps

-- what these rows hold over the memory of bytes, in a store for `limit` files
abbrev pub holding : List Place → ℕ → List ℕ → Contents
holding ps limit bytes = record { capacity = length bytes; limit = limit; files = files_in bytes ps }

-- what memory holds of whose table the first `count` rows are in use
abbrev pub held : List Place → ℕ → List ℕ → Contents
held places count bytes = holding (take count places) (length places) bytes

-- columns of a table: the numbers, and where each row's bytes begin
abbrev pub numbers_in : List Place → List ℕ
numbers_in ps = map (λ p. p.number) ps

abbrev pub starts_in : List Place → List ℕ
starts_in ps = map (λ p. p.start) ps

-- where a row's bytes end
abbrev pub end_of : Place → ℕ
end_of p = p.start + p.file.length

-- the numbers ascend strictly
abbrev pub Rising : List ℕ → Type 0
Rising ns = (j k : ℕ) → j < k → k < length ns → slice_index ns j < slice_index ns k

-- each row's bytes end at or before `end`
abbrev pub Within : List Place → ℕ → Type 0
Within ps end = All (λ p. end_of p ≤ end) ps

-- two rows share no byte: if the second begins before the first one's end, it ends before the first begins. This holds of the second
-- and the first too, then.
abbrev pub Clear : Place → Place → Type 0
Clear p q = q.start < end_of p → end_of q ≤ p.start

-- no two rows share a byte
abbrev pub Apart : List Place → Type 0
Apart ps = AllPairs Clear ps
