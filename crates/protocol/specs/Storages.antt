-- The two storages, and the handles of their objects.
use Rattle.std.specs.Prelude.{ℕ, ◌-◌, Bool, cond, ◌||◌, Option, ◌==◌, nat_lt}
use Rattle.store.specs.Contents.{File, Contents, lookup}
use Rattle.store.specs.Sound.{Sound}

-- what the first store holds and whether it is locked, and what the second holds
pub record Storages : Type 0 where
  pub first : Contents
  pub locked : Bool
  pub second : Contents

pub record SoundStorages (p : Storages) : Type 0 where
  pub first_sound : Sound p.first
  pub second_sound : Sound p.second

abbrev pub first_storage : ℕ
first_storage = 0x00010001

abbrev pub second_storage : ℕ
second_storage = 0x00020001

-- in GetObjectHandles: both storages
abbrev pub every_storage : ℕ
every_storage = 0xFFFFFFFF

-- as a folder or a parent: the root
abbrev pub root : ℕ
root = 0xFFFFFFFF

abbrev pub is_storage : ℕ → Bool
is_storage s = s == first_storage || s == second_storage

-- a handle is the file number, plus this on the second storage
abbrev pub second_base : ℕ
second_base = 0x80000000

-- the storage that a handle is on, and the file number there
abbrev pub storage_of : ℕ → ℕ
storage_of h = cond (nat_lt h second_base) first_storage second_storage

abbrev pub number_of : ℕ → ℕ
number_of h = cond (nat_lt h second_base) h (h - second_base)

-- the file with this handle, if it is there
unfoldable pub object_at : Storages → ℕ → Option File
object_at p h = cond (nat_lt h second_base) (lookup h p.first.files) (lookup (h - second_base) p.second.files)
