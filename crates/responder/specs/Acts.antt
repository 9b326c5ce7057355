-- What an operation that acts answers, and what it leaves.
use Rattle.std.specs.Prelude.{◌≡◌, ℕ, not, ◌&&◌, ◌||◌, List, Ok, Err, Result, ◌==◌, nat_le, nat_lt, cond, [], ◌∷◌}
use Rattle.object.specs.Formats.{format_of, is_folder}
use Rattle.store.specs.Changes.{has_room}
use Rattle.store.specs.Checks.{provided}
use Rattle.store.specs.Sound.{is_parent, last_number, max_length}
use Rattle.object.specs.declared.format.Format.{Format}
use Rattle.wire.specs.Parameters.{listed}
use Rattle.datasets.specs.declared.info.ObjectInfo.{ObjectInfo}
use Rattle.wire.specs.declared.command.Command.{Command}
use Rattle.wire.specs.declared.response.Parameters.{Parameters}
use Rattle.protocol.specs.declared.fault.OperationFault.{OperationFault}
use Rattle.protocol.specs.declared.fault.OperationFault.TheVariants.{InvalidStorage, InvalidHandle, InvalidFormat, StoreFull, ObjectProtected, StoreReadOnly, FormatNotSupported, InvalidParent, InvalidDataset, ObjectTooLarge}
use Rattle.protocol.specs.declared.session.Announcement.{Announcement}
use Rattle.protocol.specs.declared.session.OpenSession.{OpenSession}
use Rattle.protocol.specs.Acting.{Outcome, is_unprotected, dataset_in, parent_number, parent_told}
use Rattle.protocol.specs.Checks.{present, and_then}
use Rattle.protocol.specs.Commands.{parameter}
use Rattle.protocol.specs.Faults.{ok, operation_fault_number, parameters_of, of_dataset}
use Rattle.protocol.specs.Machine.{State, with_first}
use Rattle.protocol.specs.Storages.{Storages, first_storage, second_storage, second_base, is_storage, object_at}
use Rattle.looking.specs.Places.{storage_with}
use Rattle.datasets.specs.declared.info.StorageKind.{StorageKind}
use Rattle.datasets.specs.declared.info.StorageKind.TheVariants.{Programs}

-- the code and the parameters of a result
abbrev pub code_told : Result Parameters OperationFault → ℕ
code_told (Ok ps) = ok
code_told (Err f) = operation_fault_number f

abbrev pub parameters_told : Result Parameters OperationFault → List ℕ
parameters_told (Ok ps) = listed ps
parameters_told (Err f) = parameters_of f

-- the code answered and left what an outcome says
pub record Acted (p : Storages) (o : Outcome) (r : Result Parameters OperationFault) (b : State) : Type 0 where
  pub code : code_told r ≡ o.code
  pub parameters : parameters_told r ≡ o.parameters
  pub state : b ≡ record { storages = with_first p o.first; session = o.session }

-- an object that may be deleted, as far as the store is not asked
abbrev pub deletable : Storages → ℕ → ℕ → Result (Unit {0}) OperationFault
deletable p h format =
    provided (format == 0) FormatNotSupported
    (present (object_at p h) InvalidHandle λ f.
    provided (nat_lt h second_base) StoreReadOnly
    (provided (is_unprotected f.protection) ObjectProtected
    (Ok tt)))

-- the announcement of a file of this format
abbrev pub announced_as : Storages → OpenSession → ℕ → ObjectInfo → Format → Result Announcement OperationFault
announced_as p s parent i format =
    provided (not (is_folder format) || i.size == 0) InvalidDataset
    (provided (is_parent (parent_number parent) p.first.files) InvalidParent
    (provided (nat_le i.size max_length) ObjectTooLarge
    (provided (has_room i.size p.first && nat_le s.next last_number) StoreFull
    (Ok (record {
      number = s.next;
      format = format;
      protection = i.protection;
      parent = parent_number parent;
      name = i.name;
      size = i.size;
    })))))

-- the storage that a parameter of SendObjectInfo means, in which 0 means the first
abbrev pub storage_meant : ℕ → Result StorageKind OperationFault
storage_meant n = cond (n == 0) (Ok Programs) (storage_with n)

-- what an accepted SendObjectInfo tells
abbrev pub info_told : OpenSession → Command → List ℕ
info_told s c = first_storage ∷ parent_told (parameter 2 c) ∷ s.next ∷ []

-- the announcement that SendObjectInfo makes
abbrev pub announcement_told : Storages → OpenSession → Command → List ℕ → Result Announcement OperationFault
announcement_told p s c host =
    provided (parameter 1 c == 0 || is_storage (parameter 1 c)) InvalidStorage
    (provided (not (parameter 1 c == second_storage) && not p.locked) StoreReadOnly
    (and_then (dataset_in c host) of_dataset λ i.
    present (format_of i.format) InvalidFormat λ format.
    announced_as p s (parameter 2 c) i format))

-- what was given, seen in another way
abbrev pub each_ok : {A B E : Type 0} → (A → B) → Result A E → Result B E
each_ok see (Ok x) = Ok (see x)
each_ok see (Err f) = Err f
