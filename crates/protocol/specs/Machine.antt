-- The responder: its calls, and the steps that decide each answer.
use Rattle.std.specs.List.{list_all}
use Rattle.std.specs.Prelude.{ℕ, suc, Bool, cond, not, ◌||◌, List, [], ◌∷◌, length, drop, Some, None, Ok, Err, Option, Result, ◌==◌, nat_le}
use Rattle.store.specs.Contents.{Contents}
use Rattle.wire.specs.declared.command.Command.{Command}
use Rattle.wire.specs.declared.operation.Operation.{Operation}
use Rattle.wire.specs.Containers.{data_container, response}
use Rattle.wire.specs.Operations.{get_device_info, open_session, close_session, get_storage_ids, get_storage_info, get_object_handles, get_object_info, get_object, delete_object, send_object_info, send_object, get_partial_object, operation_of}
use Rattle.protocol.specs.declared.fault.OperationFault.{OperationFault}
use Rattle.protocol.specs.declared.fault.OperationFault.TheVariants.{GeneralError, SessionNotOpen, InvalidTransaction, OperationNotSupported, ParameterNotSupported, SessionAlreadyOpen, TransactionCancelled}
use Rattle.protocol.specs.declared.session.OpenSession.{OpenSession}
use Rattle.protocol.specs.declared.session.Session.{Session}
use Rattle.protocol.specs.declared.session.Session.TheVariants.{Closed, Open}
use Rattle.protocol.specs.Faults.{ok, operation_fault_number, parameters_of}
use Rattle.protocol.specs.Commands.{parameter}
use Rattle.protocol.specs.Storages.{Storages}
use Rattle.protocol.specs.Looking.{Shown, device_shown, storages_shown, storage_shown, handles_shown, info_shown, object_shown, part_shown}
use Rattle.protocol.specs.Acting.{Outcome, session_opened, session_closed, object_deleted, info_sent, object_sent}

-- a responder: its storages and its session
pub record State : Type 0 where
  pub storages : Storages
  pub session : Session

-- a reply; `sent` is the data container, empty if there is none
pub record Reply : Type 0 where
  pub code : ℕ
  pub transaction : ℕ
  pub parameters : List ℕ
  pub sent : List ℕ

pub record Answer : Type 0 where
  pub reply : Reply
  pub state : State

-- the response container of a reply
abbrev pub response_of : Reply → List ℕ
response_of r = response r.code r.transaction r.parameters

-- what an operation does in an open session: it only looks, or it acts
pub data Task : Type 0 where
  looks : (Storages → Command → Result Shown OperationFault) → Task
  acts : (Storages → OpenSession → Command → List ℕ → Outcome) → Task

pub record Row : Type 0 where
  pub code : ℕ
  pub task : Task

abbrev pub row : ℕ → Task → Row
row code task = record { code = code; task = task }

-- every operation but OpenSession, which an open session refuses
abbrev pub tasks : List Row
tasks =
    row get_device_info (looks (λ p c. device_shown))
    ∷ row close_session (acts (λ p s c host. session_closed p))
    ∷ row get_storage_ids (looks (λ p c. storages_shown))
    ∷ row get_storage_info (looks (λ p c. storage_shown p (parameter 1 c)))
    ∷ row get_object_handles (looks (λ p c. handles_shown p (parameter 1 c) (parameter 2 c) (parameter 3 c)))
    ∷ row get_object_info (looks (λ p c. info_shown p (parameter 1 c)))
    ∷ row get_object (looks (λ p c. object_shown p (parameter 1 c)))
    ∷ row delete_object (acts (λ p s c host. object_deleted p s (parameter 1 c) (parameter 2 c)))
    ∷ row send_object_info (acts (λ p s c host. info_sent p s c host))
    ∷ row send_object (acts (λ p s c host. object_sent p s c host))
    ∷ row get_partial_object (looks (λ p c. part_shown p (parameter 1 c) (parameter 2 c) (parameter 3 c)))
    ∷ []

abbrev pub task_in : List Row → ℕ → Option Task
task_in [] code = None
task_in (r ∷ rs) code = cond (r.code == code) (Some r.task) (task_in rs code)

unfoldable pub task_of : ℕ → Option Task
task_of code = task_in tasks code

-- after 0xFFFFFFFE comes 1
abbrev pub after : ℕ → ℕ
after transaction = cond (transaction == 0xFFFFFFFE) 1 (suc transaction)

abbrev pub moved : OpenSession → OpenSession
moved s = record { id = s.id; expected = after s.expected; next = s.next; transfer = s.transfer }

-- the session's own steps: a refusal and the session then, or that the operation follows
pub data Gate : Type 0 where
  stops : OperationFault → Session → Gate
  passes_closed : Operation → Gate
  passes_open : Operation → OpenSession → Gate

abbrev pub known_open : Option Operation → OpenSession → Gate
known_open None s = stops OperationNotSupported (Open s)
known_open (Some o) s = passes_open o s

-- what a closed responder does
abbrev pub for_closed : ℕ → Bool
for_closed code = code == get_device_info || code == open_session

abbrev pub known_closed : Option Operation → Command → Gate
known_closed None c = stops OperationNotSupported Closed
known_closed (Some o) c =
    cond (for_closed c.code) (cond (c.transaction == 0) (passes_closed o) (stops InvalidTransaction Closed)) (stops SessionNotOpen Closed)

abbrev pub gate : Session → Command → Gate
gate Closed c = known_closed (operation_of c.code) c
gate (Open s) c =
    cond (c.code == open_session) (stops (SessionAlreadyOpen s.id) (Open s))
    (cond (c.transaction == s.expected) (known_open (operation_of c.code) (moved s)) (stops InvalidTransaction (Open s)))

abbrev pub all_zero : List ℕ → Bool
all_zero = list_all (λ n. n == 0)

-- a parameter beyond the operation's count is not 0
abbrev pub has_surplus : Operation → Command → Bool
has_surplus o c = not (all_zero (drop o.parameters c.parameters))

-- a refusal sends no data, and leaves these storages and this session
abbrev pub refused : OperationFault → Storages → Session → Command → Answer
refused f p s c = record {
  reply = record { code = operation_fault_number f; transaction = c.transaction; parameters = parameters_of f; sent = [] };
  state = record { storages = p; session = s };
}

abbrev pub data_of : Command → List ℕ → List ℕ
data_of c payload = data_container c.code c.transaction payload

-- last, a data container longer than the buffer is refused
abbrev pub looked : Storages → Session → Command → ℕ → Result Shown OperationFault → Answer
looked p s c room (Err f) = refused f p s c
looked p s c room (Ok x) =
    cond (nat_le (length (data_of c x.payload)) room)
    (record {
      reply = record { code = ok; transaction = c.transaction; parameters = x.parameters; sent = data_of c x.payload };
      state = record { storages = p; session = s };
    })
    (refused GeneralError p s c)

abbrev pub with_first : Storages → Contents → Storages
with_first p first = record { first = first; locked = p.locked; second = p.second }

abbrev pub acted : Storages → Command → Outcome → Answer
acted p c o = record {
  reply = record { code = o.code; transaction = c.transaction; parameters = o.parameters; sent = [] };
  state = record { storages = with_first p o.first; session = o.session };
}

abbrev pub performed : Option Task → Storages → OpenSession → Command → List ℕ → ℕ → Answer
performed None p s c host room = refused OperationNotSupported p (Open s) c
performed (Some (looks look)) p s c host room = looked p (Open s) c room (look p c)
performed (Some (acts act)) p s c host room = acted p c (act p s c host)

abbrev pub performed_closed : Storages → Command → ℕ → Answer
performed_closed p c room =
    cond (c.code == open_session) (acted p c (session_opened p (parameter 1 c))) (looked p Closed c room device_shown)

abbrev pub served : Gate → Storages → Command → List ℕ → ℕ → Answer
served (stops f s) p c host room = refused f p s c
served (passes_closed o) p c host room = cond (has_surplus o c) (refused ParameterNotSupported p Closed c) (performed_closed p c room)
served (passes_open o s) p c host room =
    cond (has_surplus o c) (refused ParameterNotSupported p (Open s) c) (performed (task_of c.code) p s c host room)

-- a cancel does the session's own steps only
abbrev pub spared : Gate → Storages → Command → Answer
spared (stops f s) p c = refused f p s c
spared (passes_closed o) p c = refused TransactionCancelled p Closed c
spared (passes_open o s) p c = refused TransactionCancelled p (Open s) c

unfoldable pub answered : State → Command → List ℕ → ℕ → Answer
answered b c host room = served (gate b.session c) b.storages c host room

unfoldable pub cancelled : State → Command → Answer
cancelled b c = spared (gate b.session c) b.storages c

unfoldable pub unplugged : State → State
unplugged b = record { storages = b.storages; session = Closed }

-- calls: an answer is given the host's data and a buffer of a length
pub data Call : Type 0 where
  answer : Command → List ℕ → ℕ → Call
  cancel : Command → Call
  unplug : Call

abbrev pub fresh : Storages → State
fresh p = record { storages = p; session = Closed }

abbrev pub next_state : State → Call → State
next_state b (answer c host room) = (answered b c host room).state
next_state b (cancel c) = (cancelled b c).state
next_state b unplug = unplugged b

abbrev pub state_after : State → List Call → State
state_after b [] = b
state_after b (x ∷ xs) = state_after (next_state b x) xs

-- what went over the wire at a call
pub data Event : Type 0 where
  answers : Command → List ℕ → Reply → Event
  cancels : Command → Reply → Event
  unplugs : Event

abbrev pub event : State → Call → Event
event b (answer c host room) = answers c host (answered b c host room).reply
event b (cancel c) = cancels c (cancelled b c).reply
event b unplug = unplugs

abbrev pub history : State → List Call → List Event
history b [] = []
history b (x ∷ xs) = event b x ∷ history (next_state b x) xs

abbrev pub replies_in : List Event → List Reply
replies_in [] = []
replies_in (answers c host r ∷ es) = r ∷ replies_in es
replies_in (cancels c r ∷ es) = r ∷ replies_in es
replies_in (unplugs ∷ es) = replies_in es

abbrev pub replies : State → List Call → List Reply
replies b calls = replies_in (history b calls)
