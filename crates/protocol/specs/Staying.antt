-- What every list of calls keeps of the stores.
use Rattle.std.specs.Prelude.{◌≡◌, ℕ, ◌⊎◌, List, Option}
use Rattle.store.specs.Contents.{File, Contents}
use Rattle.store.specs.Laws.{DiffersAt}
use Rattle.protocol.specs.Storages.{Storages, SoundStorages}
use Rattle.protocol.specs.Machine.{Call, next_state, state_after, fresh}

-- both stores are sound, and the second store, the lock, the capacity and the limit are as before
pub record Kept (before later : Storages) : Type 0 where
  pub sound : SoundStorages later
  pub same_second : later.second ≡ before.second
  pub same_lock : later.locked ≡ before.locked
  pub same_capacity : later.first.capacity ≡ before.first.capacity
  pub same_limit : later.first.limit ≡ before.first.limit

abbrev pub StoresKept : Type 0
StoresKept = (p : Storages) → SoundStorages p → (calls : List Call) → Kept p (state_after (fresh p) calls).storages

-- the same contents, or a difference in just one number
abbrev pub OneNumber : Contents → Contents → Type 0
OneNumber before later = (later ≡ before) ⊎ ((n : ℕ) × (found : Option File) × DiffersAt n found before later)

-- one call changes at most one number of the first store
abbrev pub OneAtATime : Type 0
OneAtATime =
    (p : Storages) → SoundStorages p → (calls : List Call) (x : Call)
    → OneNumber (state_after (fresh p) calls).storages.first (next_state (state_after (fresh p) calls) x).storages.first
