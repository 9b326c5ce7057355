-- The laws of one pair of storages, against every other sound pair and over every list of calls.
use Rattle.std.specs.Prelude.{◌≡◌, List}
use Rattle.protocol.specs.Alike.{Alike}
use Rattle.protocol.specs.Invariant.{StateFits}
use Rattle.protocol.specs.Keeping.{Opens, Unended, BytesKept}
use Rattle.protocol.specs.Machine.{Call, event, history, next_state, state_after, fresh}
use Rattle.protocol.specs.Staying.{Kept, OneNumber}
use Rattle.protocol.specs.Storages.{Storages, SoundStorages}

pub record Lawful (p : Storages) : Type 0 where
  -- replies tell the contents, and nothing else: an equal pair replies alike, and a pair that replies alike is equal
  pub equal_alike : (q : Storages) → SoundStorages q → p ≡ q → Alike p q
  pub alike_equal : (q : Storages) → SoundStorages q → Alike p q → p ≡ q
  -- a handle keeps its bytes: in each session, after any calls, as far as it has come
  pub handles_keep_bytes :
      (before : List Call) (opening : Call) (within : List Call)
      → Opens (event (state_after (fresh p) before) opening)
      → Unended (history (next_state (state_after (fresh p) before) opening) within)
      → BytesKept (state_after (fresh p) before).storages (history (next_state (state_after (fresh p) before) opening) within)
  -- calls keep the stores sound, and the second store, the lock, the capacity and the limit as they were
  pub stores_kept : (calls : List Call) → Kept p (state_after (fresh p) calls).storages
  -- each call changes at most one number of the first store
  pub one_at_a_time : (calls : List Call) (x : Call) → OneNumber (state_after (fresh p) calls).storages.first (next_state (state_after (fresh p) calls) x).storages.first
  -- the session fits its stores
  pub session_fits : (calls : List Call) → StateFits (state_after (fresh p) calls)
