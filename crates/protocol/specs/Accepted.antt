-- What accepted operations do to the first store and to the session, in every list of calls.
use Rattle.std.specs.Prelude.{◌≡◌, ℕ, suc, true, false, ◌⊎◌, List, [], ◌∷◌, length, Some, None}
use Rattle.object.specs.Formats.{format_number, is_folder}
use Rattle.object.specs.declared.protection.Protection.TheVariants.{Unprotected}
use Rattle.store.specs.Contents.{File, lookup}
use Rattle.store.specs.Laws.{DiffersAt, JustPast}
use Rattle.wire.specs.declared.command.Command.{Command}
use Rattle.wire.specs.Containers.{payload_in}
use Rattle.wire.specs.Operations.{open_session, close_session, delete_object, send_object_info, send_object}
use Rattle.datasets.specs.declared.info.ObjectInfo.{ObjectInfo}
use Rattle.datasets.specs.ObjectInfos.{object_info_in}
use Rattle.protocol.specs.declared.session.Announcement.{Announcement}
use Rattle.protocol.specs.declared.session.OpenSession.{OpenSession}
use Rattle.protocol.specs.declared.session.Session.TheVariants.{Closed, Open}
use Rattle.protocol.specs.declared.session.Transfer.TheVariants.{Idle, Announced}
use Rattle.protocol.specs.Faults.{ok}
use Rattle.protocol.specs.Commands.{parameter}
use Rattle.protocol.specs.Storages.{Storages, SoundStorages}
use Rattle.protocol.specs.Machine.{State, Answer, Call, answered, state_after, fresh}

-- a parent parameter that means the root
abbrev pub MeansRoot : ℕ → Type 0
MeansRoot n = (n ≡ 0) ⊎ (n ≡ 0xFFFFFFFF)

-- one number at the root, and another elsewhere
abbrev pub AtRootOr : ℕ → ℕ → ℕ → Type 0
AtRootOr parameter at_root n = (MeansRoot parameter × (n ≡ at_root)) ⊎ ((MeansRoot parameter → ⊥) × (n ≡ parameter))

-- an announcement is of the dataset that came with SendObjectInfo, placed by its parameters alone
pub record Announces (c : Command) (host : List ℕ) (a : Announcement) : Type 0 where
  pub payload : List ℕ
  pub info : ObjectInfo
  pub received : payload_in c.code c.transaction host ≡ Some payload
  pub read : object_info_in payload ≡ Some info
  pub format_is : format_number a.format ≡ info.format
  pub protection_is : a.protection ≡ info.protection
  pub name_is : a.name ≡ info.name
  pub size_is : a.size ≡ info.size
  pub parent_is : AtRootOr (parameter 2 c) 0 a.parent

-- the announced file with its bytes
abbrev pub announced_file : Announcement → List ℕ → File
announced_file a bytes = record { format = a.format; protection = a.protection; parent = a.parent; name = a.name; bytes = bytes }

-- OpenSession opens with its id, the first transaction and the number just past the last, and announces nothing
pub record OpensSession (before : State) (c : Command) (a : Answer) : Type 0 where
  pub session : OpenSession
  pub was_closed : before.session ≡ Closed
  pub is_open : a.state.session ≡ Open session
  pub id_is : session.id ≡ parameter 1 c
  pub expected_is : session.expected ≡ 1
  pub next_is : JustPast before.storages.first.files session.next
  pub idle : session.transfer ≡ Idle
  pub same_storages : a.state.storages ≡ before.storages

-- CloseSession closes
pub record ClosesSession (before : State) (a : Answer) : Type 0 where
  pub is_closed : a.state.session ≡ Closed
  pub same_storages : a.state.storages ≡ before.storages

-- DeleteObject loses just an unprotected file of the first storage
pub record DeletesObject (before : State) (c : Command) (a : Answer) : Type 0 where
  pub file : File
  pub was_there : lookup (parameter 1 c) before.storages.first.files ≡ Some file
  pub unprotected : file.protection ≡ Unprotected
  pub change : DiffersAt (parameter 1 c) None before.storages.first a.state.storages.first

-- SendObjectInfo gives the next number; a folder is added at once, any other file is announced
pub record AnnouncesObject (before : State) (c : Command) (host : List ℕ) (a : Answer) : Type 0 where
  pub session : OpenSession
  pub later : OpenSession
  pub announcement : Announcement
  pub was_open : before.session ≡ Open session
  pub is_open : a.state.session ≡ Open later
  pub announces : Announces c host announcement
  pub number_is : announcement.number ≡ session.next
  pub next_is : later.next ≡ suc session.next
  pub told : (parent : ℕ) × AtRootOr (parameter 2 c) 0xFFFFFFFF parent × (a.reply.parameters ≡ 0x00010001 ∷ parent ∷ session.next ∷ [])
  pub does :
      ((is_folder announcement.format ≡ true) × (later.transfer ≡ Idle)
      × DiffersAt session.next (Some (announced_file announcement [])) before.storages.first a.state.storages.first)
      ⊎ ((is_folder announcement.format ≡ false) × (later.transfer ≡ Announced announcement) × (a.state.storages ≡ before.storages))

-- SendObject gains just the announced file, with the payload received
pub record SendsObject (before : State) (c : Command) (host : List ℕ) (a : Answer) : Type 0 where
  pub session : OpenSession
  pub later : OpenSession
  pub announcement : Announcement
  pub payload : List ℕ
  pub was_open : before.session ≡ Open session
  pub is_open : a.state.session ≡ Open later
  pub was_announced : session.transfer ≡ Announced announcement
  pub received : payload_in c.code c.transaction host ≡ Some payload
  pub sized : length payload ≡ announcement.size
  pub change : DiffersAt announcement.number (Some (announced_file announcement payload)) before.storages.first a.state.storages.first
  pub idle : later.transfer ≡ Idle

-- the operations that act
pub record Acts (code : ℕ) : Type 0 where
  pub one : (code ≡ open_session) ⊎ ((code ≡ close_session) ⊎ ((code ≡ delete_object) ⊎ ((code ≡ send_object_info) ⊎ (code ≡ send_object))))

-- what an accepted command does, by its code; any other changes no store
pub record Does (before : State) (c : Command) (host : List ℕ) (a : Answer) : Type 0 where
  pub opens : c.code ≡ open_session → OpensSession before c a
  pub closes : c.code ≡ close_session → ClosesSession before a
  pub deletes : c.code ≡ delete_object → DeletesObject before c a
  pub announces : c.code ≡ send_object_info → AnnouncesObject before c host a
  pub sends : c.code ≡ send_object → SendsObject before c host a
  pub looks : (Acts c.code → ⊥) → a.state.storages ≡ before.storages

abbrev pub AcceptedDo : Type 0
AcceptedDo =
    (p : Storages) → SoundStorages p → (calls : List Call) (c : Command) (host : List ℕ) (room : ℕ)
    → (answered (state_after (fresh p) calls) c host room).reply.code ≡ ok
    → Does (state_after (fresh p) calls) c host (answered (state_after (fresh p) calls) c host room)
