-- The two changes of a store: adding a file under a number, and removing one.
use Rattle.std.specs.Prelude.{ℕ, suc, ◌+◌, Bool, true, false, cond, not, ◌&&◌, ◌||◌, List, [], ◌∷◌, length, Some, None, Ok, Option, Result, ◌==◌, nat_le, nat_lt}
use Rattle.object.specs.Formats.{is_folder}
use Rattle.store.specs.declared.fault.StoreFault.{StoreFault}
use Rattle.store.specs.declared.fault.StoreFault.TheVariants.{ReadOnly, InvalidDataset, NumberTaken, InvalidParent, Full, Absent, HasChildren}
use Rattle.store.specs.Checks.{provided}
use Rattle.store.specs.Contents.{File, Entry, Contents, total, lookup}
use Rattle.store.specs.Sound.{is_parent, last_number, max_length, max_files, max_capacity}

-- the files with one more, in its place by number
abbrev pub inserted : ℕ → File → List Entry → List Entry
inserted n f [] = record { number = n; file = f } ∷ []
inserted n f (e ∷ es) = cond (nat_lt n e.number) (record { number = n; file = f } ∷ (e ∷ es)) (e ∷ inserted n f es)

-- the files but the one with this number
abbrev pub without : ℕ → List Entry → List Entry
without n [] = []
without n (e ∷ es) = cond (e.number == n) es (e ∷ without n es)

abbrev pub with_files : Contents → List Entry → Contents
with_files c es = record { capacity = c.capacity; limit = c.limit; files = es }

abbrev pub is_absent : Option File → Bool
is_absent None = true
is_absent (Some f) = false

-- the number is some file's parent
abbrev pub has_children : ℕ → List Entry → Bool
has_children n [] = false
has_children n (e ∷ es) = e.file.parent == n || has_children n es

-- a store may have these sizes
abbrev pub legal_sizes : ℕ → ℕ → Bool
legal_sizes limit capacity = nat_le limit max_files && nat_le capacity max_capacity

abbrev pub is_number : ℕ → Bool
is_number n = nat_le 1 n && nat_le n last_number

-- name, format and protection are legal by their types; the length remains, and that a folder has none
abbrev pub legal_length : File → Bool
legal_length f = nat_le (length f.bytes) max_length && (not (is_folder f.format) || length f.bytes == 0)

-- a place is free, and so many bytes are
abbrev pub has_room : ℕ → Contents → Bool
has_room size c = nat_lt (length c.files) c.limit && nat_le (total c.files + size) c.capacity

unfoldable pub added : Bool → ℕ → File → Contents → Result Contents StoreFault
added locked n f c =
    provided (not locked) ReadOnly
    (provided (is_number n && legal_length f) InvalidDataset
    (provided (is_absent (lookup n c.files)) NumberTaken
    (provided (is_parent f.parent c.files && nat_lt f.parent n) InvalidParent
    (provided (has_room (length f.bytes) c) Full
    (Ok (with_files c (inserted n f c.files)))))))

unfoldable pub removed : Bool → ℕ → Contents → Result Contents StoreFault
removed locked n c =
    provided (not locked) ReadOnly
    (provided (not (is_absent (lookup n c.files))) Absent
    (provided (not (has_children n c.files)) HasChildren
    (Ok (with_files c (without n c.files)))))

-- a change that a store can be asked for
pub data Change : Type 0 where
  adding : ℕ → File → Change
  removing : ℕ → Change

abbrev pub changed : Bool → Change → Contents → Result Contents StoreFault
changed locked (adding n f) c = added locked n f c
changed locked (removing n) c = removed locked n c

-- one more than the last number; n if there is none
abbrev pub past_last : ℕ → List Entry → ℕ
past_last n [] = n
past_last n (e ∷ es) = past_last (suc e.number) es
