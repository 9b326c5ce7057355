-- A handle keeps its bytes: handles and the bytes bound to them in one session, over what went over the wire.
use Rattle.std.specs.Prelude.{◌≡◌, ℕ, ◌+◌, ◌≤◌, cond, ◌⊎◌, List, [], ◌∷◌, ◌++◌, length, take, drop, Some, None, Option, ◌==◌, ◌≢◌, slice_index}
use Rattle.store.specs.Contents.{Entry}
use Rattle.wire.specs.declared.command.Command.{Command}
use Rattle.wire.specs.Containers.{data_container, payload_in}
use Rattle.wire.specs.Operations.{open_session, close_session, get_object, get_partial_object, send_object_info, send_object}
use Rattle.protocol.specs.Faults.{ok}
use Rattle.protocol.specs.Commands.{parameter}
use Rattle.protocol.specs.Storages.{Storages, SoundStorages}
use Rattle.protocol.specs.Machine.{Reply, Call, Event, answers, cancels, unplugs, event, history, next_state, state_after, fresh}

-- a handle, and the bytes bound to it
pub record Binding : Type 0 where
  pub handle : ℕ
  pub bytes : List ℕ

abbrev pub bound_on : ℕ → List Entry → List Binding
bound_on base [] = []
bound_on base (e ∷ es) = record { handle = base + e.number; bytes = e.file.bytes } ∷ bound_on base es

-- at the opening each handle on a store gets its file's bytes
abbrev pub bound_at_opening : Storages → List Binding
bound_at_opening p = bound_on 0 p.first.files ++ bound_on 0x80000000 p.second.files

-- what a session has seen: the bindings so far, and the handles given so far, the latest first
pub record Seen : Type 0 where
  pub bindings : List Binding
  pub given : List ℕ

abbrev pub at_opening : Storages → Seen
at_opening p = record { bindings = bound_at_opening p; given = [] }

-- the handle that an accepted SendObjectInfo gives is the third parameter of its reply
abbrev pub handle_given : Reply → ℕ
handle_given r = slice_index r.parameters 2

-- at an accepted SendObject the handle given last gets the payload received
abbrev pub binds : List ℕ → Option (List ℕ) → List Binding → List Binding
binds [] received bs = bs
binds (h ∷ hs) None bs = bs
binds (h ∷ hs) (Some xs) bs = record { handle = h; bytes = xs } ∷ bs

abbrev pub seen_by : ℕ → Command → List ℕ → Reply → Seen → Seen
seen_by code c host r s =
    cond (code == send_object_info) (record { bindings = s.bindings; given = handle_given r ∷ s.given })
    (cond (code == send_object) (record { bindings = binds s.given (payload_in c.code c.transaction host) s.bindings; given = s.given })
    s)

abbrev pub seen_with : Seen → Event → Seen
seen_with s (answers c host r) = cond (r.code == ok) (seen_by c.code c host r s) s
seen_with s (cancels c r) = s
seen_with s unplugs = s

abbrev pub seen : Seen → List Event → Seen
seen s [] = s
seen s (e ∷ es) = seen (seen_with s e) es

-- the handle has these bytes
abbrev pub Bound : ℕ → List ℕ → List Binding → Type 0
Bound h xs [] = ⊥
Bound h xs (b ∷ bs) = ((b.handle ≡ h) × (b.bytes ≡ xs)) ⊎ Bound h xs bs

abbrev pub Unbound : ℕ → List Binding → Type 0
Unbound h [] = Unit {0}
Unbound h (b ∷ bs) = (b.handle ≢ h) × Unbound h bs

-- no handle got bytes twice
abbrev pub Once : List Binding → Type 0
Once [] = Unit {0}
Once (b ∷ bs) = Unbound b.handle bs × Once bs

abbrev pub NotAmong : ℕ → List ℕ → Type 0
NotAmong h [] = Unit {0}
NotAmong h (g ∷ gs) = (g ≢ h) × NotAmong h gs

-- what GetObject and GetPartialObject send of these bytes
abbrev pub Sends : Command → Reply → List ℕ → Type 0
Sends c r payload = r.sent ≡ data_container c.code c.transaction payload

-- what an accepted command must be, by what the session saw before it
pub record Justified (p : Storages) (s : Seen) (c : Command) (r : Reply) : Type 0 where
  -- GetObject sends the bytes of its handle
  pub whole : c.code ≡ get_object → (xs : List ℕ) × Bound (parameter 1 c) xs s.bindings × Sends c r xs
  -- GetPartialObject sends those bytes from the offset on as far as the maximum allows, and tells their count
  pub partial :
      c.code ≡ get_partial_object
      → (xs : List ℕ) × Bound (parameter 1 c) xs s.bindings × (parameter 2 c ≤ length xs)
      × Sends c r (take (parameter 3 c) (drop (parameter 2 c) xs)) × (r.parameters ≡ length (take (parameter 3 c) (drop (parameter 2 c) xs)) ∷ [])
  -- SendObjectInfo gives a handle that was on no store at the opening and was not given before
  pub new : c.code ≡ send_object_info → Unbound (handle_given r) (bound_at_opening p) × NotAmong (handle_given r) s.given
  -- SendObject follows a SendObjectInfo
  pub follows : c.code ≡ send_object → s.given ≢ []

abbrev pub Fair : Storages → Seen → Event → Type 0
Fair p s (answers c host r) = r.code ≡ ok → Justified p s c r
Fair p s (cancels c r) = Unit {0}
Fair p s unplugs = Unit {0}

-- a session begins with an accepted OpenSession, and ends with an accepted CloseSession or an unplug
abbrev pub Opens : Event → Type 0
Opens (answers c host r) = (r.code ≡ ok) × (c.code ≡ open_session)
Opens (cancels c r) = ⊥
Opens unplugs = ⊥

abbrev pub Ends : Event → Type 0
Ends (answers c host r) = (r.code ≡ ok) × (c.code ≡ close_session)
Ends (cancels c r) = ⊥
Ends unplugs = Unit {0}

abbrev pub Unended : List Event → Type 0
Unended [] = Unit {0}
Unended (e ∷ es) = (Ends e → ⊥) × Unended es

-- a session's events are right, over what was on the stores at its opening
pub record BytesKept (p : Storages) (es : List Event) : Type 0 where
  -- a handle gets bytes at most once
  pub once : Once (seen (at_opening p) es).bindings
  -- each event is fair to what went before it
  pub fair : (before : List Event) (e : Event) (later : List Event) → before ++ (e ∷ later) ≡ es → Fair p (seen (at_opening p) before) e

-- after any calls, in each session, as far as it has come
abbrev pub HandlesKeepBytes : Type 0
HandlesKeepBytes =
    (p : Storages) → SoundStorages p → (before : List Call) (opening : Call) (within : List Call)
    → Opens (event (state_after (fresh p) before) opening)
    → Unended (history (next_state (state_after (fresh p) before) opening) within)
    → BytesKept (state_after (fresh p) before).storages (history (next_state (state_after (fresh p) before) opening) within)
