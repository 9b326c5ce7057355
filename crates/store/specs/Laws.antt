-- What holds of every store and every change of one.
use Rattle.std.specs.Prelude.{◌≡◌, ℕ, suc, ◌+◌, ◌<◌, ◌≤◌, Bool, true, false, ◌⊎◌, List, [], ◌∷◌, map, length, Some, None, Ok, Option, ◌≢◌}
use Rattle.object.specs.Formats.{is_folder}
use Rattle.store.specs.Contents.{File, Entry, Contents, total, lookup, next_above}
use Rattle.store.specs.Sound.{Sound, EachFile, folder_there, last_number, max_length}
use Rattle.store.specs.Changes.{Change, adding, removing, changed, added, past_last}

-- each number of the map is below b
abbrev pub Below : ℕ → List Entry → Type 0
Below b es = EachFile es (λ n f. n < b)

-- one map is another but for what one number finds
pub record DiffersAt (n : ℕ) (found : Option File) (before later : Contents) : Type 0 where
  pub same_capacity : later.capacity ≡ before.capacity
  pub same_limit : later.limit ≡ before.limit
  pub here : lookup n later.files ≡ found
  pub elsewhere : (m : ℕ) → (m ≢ n) → lookup m later.files ≡ lookup m before.files

-- where a change takes place, and what is found there after it
abbrev pub place : Change → ℕ
place (adding n f) = n
place (removing n) = n

abbrev pub found_after : Change → Option File
found_after (adding n f) = Some f
found_after (removing n) = None

-- every change that is not refused keeps a store sound, and differs from before in just its place
abbrev pub ChangesKeep : Type 0
ChangesKeep =
    (locked : Bool) (x : Change) (c d : Contents) → Sound c → changed locked x c ≡ Ok d → Sound d × DiffersAt (place x) (found_after x) c d

-- what a file has to keep to, to be added under a number
pub record Addable (n : ℕ) (f : File) (c : Contents) : Type 0 where
  pub positive : 1 ≤ n
  pub last : n ≤ last_number
  pub short : length f.bytes ≤ max_length
  pub folder_empty : is_folder f.format ≡ true → length f.bytes ≡ 0
  pub new : lookup n c.files ≡ None
  pub parent : (f.parent ≡ 0) ⊎ (folder_there (lookup f.parent c.files) ≡ true)
  pub parent_below : f.parent < n
  pub free_place : length c.files < c.limit
  pub free_bytes : total c.files + length f.bytes ≤ c.capacity

-- an unlocked store adds each such file, and no other
pub record AdditionsAccepted : Type 0 where
  pub taken : (n : ℕ) (f : File) (c : Contents) → Addable n f c → (d : Contents) × (added false n f c ≡ Ok d)
  pub no_other : (locked : Bool) (n : ℕ) (f : File) (c d : Contents) → added locked n f c ≡ Ok d → (locked ≡ false) × Addable n f c

-- sound contents are their capacity, their limit and what each number finds
abbrev pub ToldByLookups : Type 0
ToldByLookups =
    (c d : Contents) → Sound c → Sound d → c.capacity ≡ d.capacity → c.limit ≡ d.limit
    → ((n : ℕ) → lookup n c.files ≡ lookup n d.files) → c ≡ d

-- the least number above n of those that are there, or that there is none
pub record LeastAbove (n : ℕ) (es : List Entry) (next : Option ℕ) : Type 0 where
  pub above : (m : ℕ) → next ≡ Some m → n < m
  pub there : (m : ℕ) → next ≡ Some m → (f : File) × (lookup m es ≡ Some f)
  pub least : (m k : ℕ) → next ≡ Some m → n < k → k < m → lookup k es ≡ None
  pub else_none : (k : ℕ) → next ≡ None → n < k → lookup k es ≡ None

abbrev pub NextIsLeast : Type 0
NextIsLeast = (c : Contents) → Sound c → (n : ℕ) → LeastAbove n c.files (next_above n c.files)

-- asking for the next number again and again, from n on, gives these numbers
abbrev pub Walk : List Entry → ℕ → List ℕ → Type 0
Walk es n [] = next_above n es ≡ None
Walk es n (m ∷ ms) = (next_above n es ≡ Some m) × Walk es m ms

-- a walk from 0 gives the numbers of all files in their order
abbrev pub NumbersWalked : Type 0
NumbersWalked = (c : Contents) → Sound c → Walk c.files 0 (map (λ (e : Entry). e.number) c.files)

-- the number past the last is above every number, and one more than one that is there, or 1
pub record JustPast (es : List Entry) (n : ℕ) : Type 0 where
  pub above : Below n es
  pub least : (n ≡ 1) ⊎ ((m : ℕ) × (f : File) × (n ≡ suc m) × (lookup m es ≡ Some f))

abbrev pub PastLast : Type 0
PastLast = (c : Contents) → Sound c → JustPast c.files (past_last 1 c.files)

-- the parents of a number lead to the root, folder by folder
pub data ReachesRoot (es : List Entry) : ℕ → Type 0 where
  root : ReachesRoot es 0
  step : (n : ℕ) (f : File) → lookup n es ≡ Some f → ReachesRoot es f.parent → ReachesRoot es n

-- every parent is the root or a folder, and every chain of parents reaches the root
pub record ParentsLead : Type 0 where
  pub folders : (c : Contents) → Sound c → EachFile c.files (λ n f. (f.parent ≡ 0) ⊎ (folder_there (lookup f.parent c.files) ≡ true))
  pub chains : (c : Contents) → Sound c → EachFile c.files (λ n f. ReachesRoot c.files n)
