-- What an operation that looks writes, and what it hands on.
use Rattle.std.specs.Prelude.{ℕ, ◌+◌, false, cond, not, List, length, Ok, Err, Result, ◌==◌, nat_le}
use Rattle.byte_parts.specs.Parts.{over}
use Rattle.store.specs.Checks.{provided}
use Rattle.store.specs.Infos as infos
use Rattle.store.specs.declared.info.FileInfo.{FileInfo}
use Rattle.wire.specs.declared.command.Command.{Command}
use Rattle.wire.specs.declared.fault.DatasetFault.{DatasetFault}
use Rattle.datasets.specs.declared.info.ObjectInfo.{ObjectInfo}
use Rattle.datasets.specs.declared.info.StorageInfo.{StorageInfo}
use Rattle.datasets.specs.declared.info.StorageKind.{StorageKind}
use Rattle.datasets.specs.declared.info.StorageKind.TheVariants.{Programs, Handbook}
use Rattle.object.specs.Formats.{format_number, is_folder}
use Rattle.protocol.specs.declared.fault.OperationFault.{OperationFault}
use Rattle.protocol.specs.declared.fault.OperationFault.TheVariants.{GeneralError, InvalidStorage, InvalidHandle}
use Rattle.protocol.specs.Checks.{present}
use Rattle.protocol.specs.Faults.{of_dataset}
use Rattle.protocol.specs.Looking.{Shown, storage_info_of, parent_handle}
use Rattle.protocol.specs.Machine.{data_of}
use Rattle.protocol.specs.Storages.{Storages, first_storage, is_storage, second_base, storage_of, object_at}
use Rattle.looking.specs.Outcomes.{ShownLength}

-- the data container at the front of the buffer, if it holds it; else a refusal, and the buffer as it was
abbrev pub shown_in : Command → Result Shown OperationFault → List ℕ → Result ShownLength OperationFault × List ℕ
shown_in c (Err f) out = (Err f, out)
shown_in c (Ok x) out =
    cond (nat_le (length (data_of c x.payload)) (length out))
    (Ok (record { parameters = x.parameters; data_length = length (data_of c x.payload) }), over (data_of c x.payload) out)
    (Err GeneralError, out)

-- what a writer's answer comes to, with these parameters
abbrev pub shown_by : List ℕ → Result ℕ DatasetFault → Result ShownLength OperationFault
shown_by parameters (Ok n) = Ok (record { parameters = parameters; data_length = n })
shown_by parameters (Err f) = Err (of_dataset f)

-- what is told of a storage
abbrev pub storage_told : Storages → ℕ → Result StorageInfo OperationFault
storage_told p storage =
    provided (is_storage storage) InvalidStorage
    (Ok (cond (storage == first_storage) (storage_info_of Programs (not p.locked) p.first) (storage_info_of Handbook false p.second)))

-- what a store tells of the file with a handle
abbrev pub file_told : Storages → ℕ → Result FileInfo OperationFault
file_told p h = present (object_at p h) InvalidHandle (λ f. Ok (infos.info_of f))

-- the same, if the file is no folder
abbrev pub body_told : Storages → ℕ → Result FileInfo OperationFault
body_told p h =
    present (object_at p h) InvalidHandle λ f.
    provided (not (is_folder f.format)) InvalidHandle
    (Ok (infos.info_of f))

-- a parent on a storage as a handle, or 0
abbrev pub parent_on : StorageKind → ℕ → ℕ
parent_on Programs parent = parent
parent_on Handbook parent = cond (parent == 0) 0 (second_base + parent)

-- what an ObjectInfo says of that file
abbrev pub object_told : ℕ → FileInfo → ObjectInfo
object_told h f = record {
  storage = storage_of h;
  format = format_number f.format;
  protection = f.protection;
  size = f.length;
  parent = parent_handle h f.parent;
  name = f.name;
}
