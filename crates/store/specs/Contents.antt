-- What a store holds, and its questions.
use Rattle.std.specs.Prelude.{ℕ, ◌+◌, cond, List, [], ◌∷◌, length, drop, Some, None, Option, ◌==◌, nat_lt}
use Rattle.object.specs.declared.format.Format.{Format}
use Rattle.object.specs.declared.name.Name.{Name}
use Rattle.object.specs.declared.protection.Protection.{Protection}

-- a file; its parent is a folder's number, or 0 at the root
pub record File : Type 0 where
  pub format : Format
  pub protection : Protection
  pub parent : ℕ
  pub name : Name
  pub bytes : List ℕ

pub record Entry : Type 0 where
  pub number : ℕ
  pub file : File

-- how many bytes and how many files there may be, and the files by ascending number
pub record Contents : Type 0 where
  pub capacity : ℕ
  pub limit : ℕ
  pub files : List Entry

-- the sum of the files' lengths
abbrev pub total : List Entry → ℕ
total [] = 0
total (e ∷ es) = length e.file.bytes + total es

-- the file with this number, if it is there
abbrev pub lookup : ℕ → List Entry → Option File
lookup n [] = None
lookup n (e ∷ es) = cond (e.number == n) (Some e.file) (lookup n es)

-- the first number above n, if there is one; the numbers ascend, so it is the smallest
abbrev pub next_above : ℕ → List Entry → Option ℕ
next_above n [] = None
next_above n (e ∷ es) = cond (nat_lt n e.number) (Some e.number) (next_above n es)

-- the bytes of a file that is there; else none
abbrev pub bytes_of : Option File → List ℕ
bytes_of None = []
bytes_of (Some f) = f.bytes

-- a file's bytes from an offset on
abbrev pub rest_of : ℕ → ℕ → List Entry → List ℕ
rest_of n offset es = drop offset (bytes_of (lookup n es))
