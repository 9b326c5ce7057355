-- The storages and the places of objects, as the code has them.
use Rattle.std.specs.Prelude.{ℕ, ◌-◌, cond, Some, None, Ok, Err, Option, Result, ◌==◌, nat_lt}
use Rattle.datasets.specs.declared.info.StorageKind.{StorageKind}
use Rattle.datasets.specs.declared.info.StorageKind.TheVariants.{Programs, Handbook}
use Rattle.protocol.specs.declared.fault.OperationFault.{OperationFault}
use Rattle.protocol.specs.declared.fault.OperationFault.TheVariants.{InvalidStorage}
use Rattle.protocol.specs.Storages.{first_storage, second_storage, every_storage, second_base}
use Rattle.looking.specs.declared.place.Place.{Place}

abbrev pub id_of : StorageKind → ℕ
id_of Programs = first_storage
id_of Handbook = second_storage

-- what is added to a file's number there for its handle
abbrev pub base_of : StorageKind → ℕ
base_of Programs = 0
base_of Handbook = second_base

-- the storage with an id
abbrev pub storage_with : ℕ → Result StorageKind OperationFault
storage_with id = cond (id == first_storage) (Ok Programs) (cond (id == second_storage) (Ok Handbook) (Err InvalidStorage))

-- where the object with a handle is
abbrev pub place_of : ℕ → Place
place_of h = cond (nat_lt h second_base) (record { storage = Programs; number = h }) (record { storage = Handbook; number = h - second_base })

-- a storage, or both, as a parameter
abbrev pub naming : Option StorageKind → ℕ
naming None = every_storage
naming (Some storage) = id_of storage

-- what a parameter names
abbrev pub only : Result StorageKind OperationFault → Result (Option StorageKind) OperationFault
only (Ok storage) = Ok (Some storage)
only (Err f) = Err f

abbrev pub named_by : ℕ → Result (Option StorageKind) OperationFault
named_by parameter = cond (parameter == every_storage) (Ok None) (only (storage_with parameter))
