-- Listings: which handles an accepted GetObjectHandles sends.
use Rattle.std.specs.Prelude.{◌≡◌, ℕ, ◌+◌, ◌<◌, Bool, false, ◌⊎◌, List, [], ◌∷◌, map, Some, None, filter, Option, ◌≢◌}
use Rattle.store.specs.Contents.{File, Contents, lookup}
use Rattle.store.specs.Sound.{Sound}
use Rattle.store.specs.Laws.{Walk}
use Rattle.wire.specs.declared.command.Command.{Command}
use Rattle.wire.specs.Containers.{data_container}
use Rattle.wire.specs.Operations.{get_object_handles}
use Rattle.wire.specs.Strings.{array}
use Rattle.protocol.specs.Faults.{ok}
use Rattle.protocol.specs.Commands.{parameter}
use Rattle.protocol.specs.Storages.{Storages, SoundStorages}
use Rattle.protocol.specs.Looking.{handles_on}
use Rattle.protocol.specs.Objects.{Handle, Object, In}
use Rattle.protocol.specs.Machine.{Reply, Call, answered, state_after, fresh}

-- a storage parameter names a storage: its id does, and 0xFFFFFFFF names both
abbrev pub Names : ℕ → ℕ → Type 0
Names parameter storage = (parameter ≡ 0xFFFFFFFF) ⊎ (parameter ≡ storage)

-- a file lies where the folder parameter says: 0 is anywhere, 0xFFFFFFFF is the root, else it is the handle of the parent
abbrev pub LiesIn : ℕ → ℕ → File → Type 0
LiesIn storage folder f =
    (folder ≡ 0) ⊎ (((folder ≡ 0xFFFFFFFF) × (f.parent ≡ 0)) ⊎ ((folder ≢ 0) × (folder ≢ 0xFFFFFFFF) × Handle storage f.parent folder))

-- the handles ascend, each above n
abbrev pub Rising : ℕ → List ℕ → Type 0
Rising n [] = Unit {0}
Rising n (h ∷ hs) = (n < h) × Rising h hs

-- just the handles of the objects on a named storage that lie in the folder, ascending
pub record Lists (p : Storages) (storage folder : ℕ) (hs : List ℕ) : Type 0 where
  pub ascends : Rising 0 hs
  pub just : (h : ℕ) → In h hs → (st : ℕ) × (f : File) × Object p h st f × Names storage st × LiesIn st folder f
  pub all : (h st : ℕ) (f : File) → Object p h st f → Names storage st → LiesIn st folder f → In h hs

-- the data of a reply is such a list
pub record Listed (p : Storages) (c : Command) (r : Reply) : Type 0 where
  pub handles : List ℕ
  pub sends : r.sent ≡ data_container c.code c.transaction (array 4 handles)
  pub lists : Lists p (parameter 1 c) (parameter 3 c) handles

-- in every list of calls
abbrev pub ListingsRight : Type 0
ListingsRight =
    (p : Storages) → SoundStorages p → (calls : List Call) (c : Command) (host : List ℕ) (room : ℕ) → c.code ≡ get_object_handles
    → (answered (state_after (fresh p) calls) c host room).reply.code ≡ ok
    → Listed (state_after (fresh p) calls).storages c (answered (state_after (fresh p) calls) c host room).reply

-- a file that is there passes a test
abbrev pub passes : (File → Bool) → Option File → Bool
passes test None = false
passes test (Some f) = test f

-- a walk by the next-file question, of which the numbers are kept whose file passes, gives the handles of a store's listing
abbrev pub ListingsWalked : Type 0
ListingsWalked =
    (c : Contents) → Sound c → (base : ℕ) (test : File → Bool) (ns : List ℕ) → Walk c.files 0 ns
    → handles_on base test c.files ≡ map (λ n. base + n) (filter (λ n. passes test (lookup n c.files)) ns)
