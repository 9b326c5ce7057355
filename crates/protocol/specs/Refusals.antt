-- What a refusal and a cancel leave, when the expected transaction moves, and what SendObjectInfo answers.
use Rattle.std.specs.Prelude.{◌≡◌, ℕ, suc, ◌⊎◌, List, [], ◌∷◌, ◌≢◌}
use Rattle.wire.specs.declared.command.Command.{Command}
use Rattle.wire.specs.Operations.{open_session, send_object_info, send_object}
use Rattle.protocol.specs.declared.session.OpenSession.{OpenSession}
use Rattle.protocol.specs.declared.session.Session.{Session}
use Rattle.protocol.specs.declared.session.Session.TheVariants.{Closed, Open}
use Rattle.protocol.specs.declared.session.Transfer.TheVariants.{Idle}
use Rattle.protocol.specs.Faults.{ok}
use Rattle.protocol.specs.Storages.{Storages, SoundStorages}
use Rattle.protocol.specs.Objects.{In}
use Rattle.protocol.specs.Machine.{State, Reply, Answer, Call, answered, cancelled, state_after, fresh}

-- after 0xFFFFFFFE comes 1
abbrev pub Follows : ℕ → ℕ → Type 0
Follows t u = ((t ≡ 0xFFFFFFFE) × (u ≡ 1)) ⊎ ((t ≢ 0xFFFFFFFE) × (u ≡ suc t))

-- the expected transaction moves exactly if the command has it and is not OpenSession
pub record Turned (c : Command) (s t : OpenSession) : Type 0 where
  pub moves : (c.code ≢ open_session) → c.transaction ≡ s.expected → Follows s.expected t.expected
  pub held : c.code ≡ open_session → t.expected ≡ s.expected
  pub untimely : (c.transaction ≢ s.expected) → t.expected ≡ s.expected

-- a SendObject that got past the check for an announcement
pub record PastAnnouncement (c : Command) (r : Reply) : Type 0 where
  pub sends : c.code ≡ send_object
  pub timely : r.code ≡ 0x2004 → ⊥
  pub no_surplus : r.code ≡ 0x2006 → ⊥
  pub announced : r.code ≡ 0x2015 → ⊥

-- what a refusal leaves of an open session: all but the expected transaction, and the announcement that a SendObject ended
pub record LeftOpen (c : Command) (r : Reply) (s t : OpenSession) : Type 0 where
  pub same_id : t.id ≡ s.id
  pub same_next : t.next ≡ s.next
  pub turned : Turned c s t
  pub ended : PastAnnouncement c r → t.transfer ≡ Idle
  pub kept : (PastAnnouncement c r → ⊥) → t.transfer ≡ s.transfer

-- what a cancel leaves of it
pub record SparedOpen (c : Command) (s t : OpenSession) : Type 0 where
  pub same_id : t.id ≡ s.id
  pub same_next : t.next ≡ s.next
  pub turned : Turned c s t
  pub same_transfer : t.transfer ≡ s.transfer

-- a session that stays closed, or stays open as said
abbrev pub Stays : (OpenSession → OpenSession → Type 0) → Session → Session → Type 0
Stays R Closed Closed = Unit {0}
Stays R Closed (Open t) = ⊥
Stays R (Open s) Closed = ⊥
Stays R (Open s) (Open t) = R s t

-- the only parameter of a refusal: with 0x201E, the id of the session that is open
abbrev pub OnlyId : Session → Reply → Type 0
OnlyId before r = (r.parameters ≡ []) ⊎ ((s : OpenSession) × (before ≡ Open s) × (r.code ≡ 0x201E) × (r.parameters ≡ s.id ∷ []))

-- it sends nothing, and changes no store
pub record Quiet (before : State) (a : Answer) : Type 0 where
  pub no_data : a.reply.sent ≡ []
  pub only_id : OnlyId before.session a.reply
  pub same_storages : a.state.storages ≡ before.storages

-- a command in an open session, accepted or not
pub record InSession (s : OpenSession) (c : Command) (a : Answer) : Type 0 where
  pub turned : (t : OpenSession) → a.state.session ≡ Open t → Turned c s t
  pub no_second : c.code ≡ open_session → a.reply.code ≡ 0x201E
  pub out_of_turn : (c.code ≢ open_session) → (c.transaction ≢ s.expected) → a.reply.code ≡ 0x2004

pub record Refusal (before : State) (c : Command) (a : Answer) : Type 0 where
  pub quiet : Quiet before a
  pub session : Stays (LeftOpen c a.reply) before.session a.state.session

pub record Cancel (before : State) (c : Command) (a : Answer) : Type 0 where
  pub refused : a.reply.code ≡ ok → ⊥
  pub quiet : Quiet before a
  pub session : Stays (SparedOpen c) before.session a.state.session

-- in every list of calls
pub record RefusalsLeave : Type 0 where
  pub answers :
      (p : Storages) → SoundStorages p → (calls : List Call) (c : Command) (host : List ℕ) (room : ℕ)
      → ((answered (state_after (fresh p) calls) c host room).reply.code ≢ ok)
      → Refusal (state_after (fresh p) calls) c (answered (state_after (fresh p) calls) c host room)
  pub cancels :
      (p : Storages) → SoundStorages p → (calls : List Call) (c : Command)
      → Cancel (state_after (fresh p) calls) c (cancelled (state_after (fresh p) calls) c)
  pub in_session :
      (p : Storages) → SoundStorages p → (calls : List Call) (c : Command) (host : List ℕ) (room : ℕ) (s : OpenSession)
      → (state_after (fresh p) calls).session ≡ Open s → InSession s c (answered (state_after (fresh p) calls) c host room)

-- a reply has the transaction of its command
pub record SameTransaction : Type 0 where
  pub answers :
      (p : Storages) → SoundStorages p → (calls : List Call) (c : Command) (host : List ℕ) (room : ℕ)
      → (answered (state_after (fresh p) calls) c host room).reply.transaction ≡ c.transaction
  pub cancels :
      (p : Storages) → SoundStorages p → (calls : List Call) (c : Command)
      → (cancelled (state_after (fresh p) calls) c).reply.transaction ≡ c.transaction

-- the numbers that SendObjectInfo answers
abbrev pub info_answers : List ℕ
info_answers =
    0x2001 ∷ 0x2003 ∷ 0x2004 ∷ 0x2006 ∷ 0x2007 ∷ 0x2008 ∷ 0x200B ∷ 0x200C ∷ 0x200E ∷ 0x201A ∷ 0xA806 ∷ 0xA809 ∷ []

abbrev pub InfosAnswered : Type 0
InfosAnswered =
    (p : Storages) → SoundStorages p → (calls : List Call) (c : Command) (host : List ℕ) (room : ℕ) → c.code ≡ send_object_info
    → In (answered (state_after (fresh p) calls) c host room).reply.code info_answers
