-- What every store keeps to, when made and after each change.
use Rattle.std.specs.Prelude.{◌≡◌, ℕ, ◌<◌, ◌≤◌, Bool, true, false, ◌||◌, List, [], ◌∷◌, length, Some, None, Option, ◌==◌}
use Rattle.object.specs.Formats.{is_folder}
use Rattle.store.specs.Contents.{File, Entry, Contents, total, lookup}

abbrev pub max_capacity : ℕ
max_capacity = 33554432

abbrev pub max_files : ℕ
max_files = 1024

abbrev pub last_number : ℕ
last_number = 0x7FFFFFFE

abbrev pub max_length : ℕ
max_length = 32768

-- the numbers ascend strictly, the first one above n
abbrev pub Ascending : ℕ → List Entry → Type 0
Ascending n [] = Unit {0}
Ascending n (e ∷ es) = (n < e.number) × Ascending e.number es

abbrev pub folder_there : Option File → Bool
folder_there None = false
folder_there (Some f) = is_folder f.format

-- a parent is the root, or a folder of the store
abbrev pub is_parent : ℕ → List Entry → Bool
is_parent parent es = parent == 0 || folder_there (lookup parent es)

-- a fact of every file that is there
abbrev pub EachFile : List Entry → (ℕ → File → Type 0) → Type 0
EachFile es P = (n : ℕ) (f : File) → lookup n es ≡ Some f → P n f

-- names, formats and protections are legal by their types
pub record Sound (c : Contents) : Type 0 where
  pub capacity_bound : c.capacity ≤ max_capacity
  pub limit_bound : c.limit ≤ max_files
  pub total_fits : total c.files ≤ c.capacity
  pub count_fits : length c.files ≤ c.limit
  pub ascending : Ascending 0 c.files
  pub numbers : EachFile c.files (λ n f. n ≤ last_number)
  pub lengths : EachFile c.files (λ n f. length f.bytes ≤ max_length)
  pub folders_empty : EachFile c.files (λ n f. is_folder f.format ≡ true → length f.bytes ≡ 0)
  pub parents : EachFile c.files (λ n f. is_parent f.parent c.files ≡ true)
  pub parents_below : EachFile c.files (λ n f. f.parent < n)
