-- The operations that act: each gives its outcome, with the first store and the session as they then are.
use Rattle.std.specs.Prelude.{ℕ, suc, Bool, true, false, cond, not, ◌&&◌, ◌||◌, List, [], ◌∷◌, length, Some, None, Ok, Err, Option, Result, ◌==◌, nat_le, nat_lt}
use Rattle.object.specs.Formats.{format_of, is_folder}
use Rattle.object.specs.declared.protection.Protection.{Protection}
use Rattle.object.specs.declared.protection.Protection.TheVariants.{Unprotected, ReadOnly}
use Rattle.store.specs.Checks.{provided}
use Rattle.store.specs.Contents.{File, Contents}
use Rattle.store.specs.declared.info.NewFile.{NewFile}
use Rattle.store.specs.Sound.{is_parent, last_number, max_length}
use Rattle.store.specs.Changes.{added, removed, has_room, past_last}
use Rattle.wire.specs.declared.command.Command.{Command}
use Rattle.wire.specs.Containers.{payload_in}
use Rattle.wire.specs.declared.fault.DatasetFault.{DatasetFault}
use Rattle.wire.specs.declared.fault.DatasetFault.TheVariants as datasets
use Rattle.datasets.specs.declared.info.ObjectInfo.{ObjectInfo}
use Rattle.datasets.specs.ObjectInfos.{object_info_in}
use Rattle.protocol.specs.declared.fault.OperationFault.{OperationFault}
use Rattle.protocol.specs.declared.fault.OperationFault.TheVariants.{InvalidStorage, InvalidHandle, InvalidFormat, StoreFull, ObjectProtected, StoreReadOnly, FormatNotSupported, NoObjectInfo, InvalidParent, InvalidParameter, InvalidDataset, ObjectTooLarge}
use Rattle.protocol.specs.declared.session.Announcement.{Announcement}
use Rattle.protocol.specs.declared.session.OpenSession.{OpenSession}
use Rattle.protocol.specs.declared.session.Session.{Session}
use Rattle.protocol.specs.declared.session.Session.TheVariants.{Closed, Open}
use Rattle.protocol.specs.declared.session.Transfer.{Transfer}
use Rattle.protocol.specs.declared.session.Transfer.TheVariants.{Idle, Announced}
use Rattle.protocol.specs.Checks.{present, and_then}
use Rattle.protocol.specs.Faults.{ok, operation_fault_number, parameters_of, of_store, of_dataset}
use Rattle.protocol.specs.Commands.{parameter}
use Rattle.protocol.specs.Storages.{Storages, first_storage, second_storage, root, is_storage, second_base, object_at}

pub record Outcome : Type 0 where
  pub code : ℕ
  pub parameters : List ℕ
  pub first : Contents
  pub session : Session

abbrev pub accepts : List ℕ → Contents → Session → Result Outcome OperationFault
accepts parameters first session = Ok (record { code = ok; parameters = parameters; first = first; session = session })

-- what a refusal leaves: this store and this session
abbrev pub settled : Contents → Session → Result Outcome OperationFault → Outcome
settled first session (Ok o) = o
settled first session (Err f) = record { code = operation_fault_number f; parameters = parameters_of f; first = first; session = session }

-- OpenSession
unfoldable pub session_opened : Storages → ℕ → Outcome
session_opened p id =
    settled p.first Closed
    (provided (not (id == 0)) InvalidParameter
    (accepts [] p.first (Open (record { id = id; expected = 1; next = past_last 1 p.first.files; transfer = Idle }))))

-- CloseSession
unfoldable pub session_closed : Storages → Outcome
session_closed p = settled p.first Closed (accepts [] p.first Closed)

abbrev pub is_unprotected : Protection → Bool
is_unprotected Unprotected = true
is_unprotected ReadOnly = false

-- DeleteObject
unfoldable pub object_deleted : Storages → OpenSession → ℕ → ℕ → Outcome
object_deleted p s h format =
    settled p.first (Open s)
    (provided (format == 0) FormatNotSupported
    (present (object_at p h) InvalidHandle λ f.
    provided (nat_lt h second_base) StoreReadOnly
    (provided (is_unprotected f.protection) ObjectProtected
    (and_then (removed p.locked h p.first) of_store λ c.
    accepts [] c (Open s)))))

-- the dataset in the data that a host sends with a command
abbrev pub dataset_in : Command → List ℕ → Result ObjectInfo DatasetFault
dataset_in c host =
    present (payload_in c.code c.transaction host) datasets.IncompleteTransfer λ payload.
    present (object_info_in payload) datasets.InvalidDataset λ i.
    Ok i

abbrev pub is_root : ℕ → Bool
is_root parent = parent == 0 || parent == root

-- the file number of a parent parameter, and the parent as a reply tells it
abbrev pub parent_number : ℕ → ℕ
parent_number parent = cond (is_root parent) 0 parent

abbrev pub parent_told : ℕ → ℕ
parent_told parent = cond (is_root parent) root parent

-- the session with the next number given, and with no announcement
abbrev pub given_next : OpenSession → Transfer → OpenSession
given_next s t = record { id = s.id; expected = s.expected; next = suc s.next; transfer = t }

abbrev pub at_rest : OpenSession → OpenSession
at_rest s = record { id = s.id; expected = s.expected; next = s.next; transfer = Idle }

-- the announced file, but for its number and bytes
abbrev pub new_file : Announcement → NewFile
new_file a = record { format = a.format; protection = a.protection; parent = a.parent; name = a.name }

-- the announced file, once its bytes are there
abbrev pub file_of : Announcement → List ℕ → File
file_of a bytes = record { format = a.format; protection = a.protection; parent = a.parent; name = a.name; bytes = bytes }

-- a folder is added at once, any other file is announced
abbrev pub announced : Storages → OpenSession → List ℕ → Announcement → Result Outcome OperationFault
announced p s told a =
    cond (is_folder a.format)
    (and_then (added p.locked s.next (file_of a []) p.first) of_store λ c. accepts told c (Open (given_next s Idle)))
    (accepts told p.first (Open (given_next s (Announced a))))

-- SendObjectInfo
unfoldable pub info_sent : Storages → OpenSession → Command → List ℕ → Outcome
info_sent p s c host =
    settled p.first (Open s)
    (provided (parameter 1 c == 0 || is_storage (parameter 1 c)) InvalidStorage
    (provided (not (parameter 1 c == second_storage) && not p.locked) StoreReadOnly
    (and_then (dataset_in c host) of_dataset λ i.
    present (format_of i.format) InvalidFormat λ format.
    provided (not (is_folder format) || i.size == 0) InvalidDataset
    (provided (is_parent (parent_number (parameter 2 c)) p.first.files) InvalidParent
    (provided (nat_le i.size max_length) ObjectTooLarge
    (provided (has_room i.size p.first && nat_le s.next last_number) StoreFull
    (announced p s (first_storage ∷ parent_told (parameter 2 c) ∷ s.next ∷ [])
    (record {
      number = s.next;
      format = format;
      protection = i.protection;
      parent = parent_number (parameter 2 c);
      name = i.name;
      size = i.size;
    }))))))))

-- an announcement that stands
abbrev pub announcement_in : Transfer → Option Announcement
announcement_in Idle = None
announcement_in (Announced a) = Some a

-- the payload of a command's data, if it has this size
abbrev pub payload_of_size : ℕ → Command → List ℕ → Result (List ℕ) DatasetFault
payload_of_size size c host =
    present (payload_in c.code c.transaction host) datasets.IncompleteTransfer λ payload.
    provided (length payload == size) datasets.IncompleteTransfer
    (Ok payload)

-- past the first check every answer ends the announcement
abbrev pub sent_for : Storages → OpenSession → Command → List ℕ → Option Announcement → Outcome
sent_for p s c host None = settled p.first (Open s) (Err NoObjectInfo)
sent_for p s c host (Some a) =
    settled p.first (Open (at_rest s))
    (and_then (payload_of_size a.size c host) of_dataset λ payload.
    and_then (added p.locked a.number (file_of a payload) p.first) of_store λ d.
    accepts [] d (Open (at_rest s)))

-- SendObject
unfoldable pub object_sent : Storages → OpenSession → Command → List ℕ → Outcome
object_sent p s c host = sent_for p s c host (announcement_in s.transfer)
