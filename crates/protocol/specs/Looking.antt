-- The operations that only look: they get the storages and give parameters and a payload, so they change nothing.
use Rattle.std.specs.Prelude.{ℕ, ◌+◌, ◌-◌, Bool, true, false, cond, not, ◌&&◌, ◌||◌, List, [], ◌∷◌, ◌++◌, length, take, drop, Ok, Result, ◌==◌, nat_eq, nat_le, nat_lt}
use Rattle.object.specs.Formats.{format_number, is_folder}
use Rattle.store.specs.Checks.{provided}
use Rattle.store.specs.Contents.{File, Entry, Contents, total}
use Rattle.wire.specs.Strings.{array}
use Rattle.datasets.specs.declared.info.ObjectInfo.{ObjectInfo}
use Rattle.datasets.specs.declared.info.StorageInfo.{StorageInfo}
use Rattle.datasets.specs.declared.info.StorageKind.{StorageKind}
use Rattle.datasets.specs.declared.info.StorageKind.TheVariants.{Programs, Handbook}
use Rattle.datasets.specs.DeviceInfos.{device_info}
use Rattle.datasets.specs.ObjectInfos.{object_info}
use Rattle.datasets.specs.StorageInfos.{storage_info}
use Rattle.protocol.specs.declared.fault.OperationFault.{OperationFault}
use Rattle.protocol.specs.declared.fault.OperationFault.TheVariants.{InvalidStorage, InvalidHandle, FormatNotSupported, InvalidParent, InvalidParameter}
use Rattle.protocol.specs.Checks.{present}
use Rattle.protocol.specs.Storages.{Storages, first_storage, second_storage, every_storage, root, is_storage, second_base, storage_of, number_of, object_at}

-- what an accepted operation shows: the reply's parameters, and the payload of its data container
pub record Shown : Type 0 where
  pub parameters : List ℕ
  pub payload : List ℕ

abbrev pub shows : List ℕ → Result Shown OperationFault
shows payload = Ok (record { parameters = []; payload = payload })

-- GetDeviceInfo, and GetStorageIDs
abbrev pub device_shown : Result Shown OperationFault
device_shown = shows device_info

abbrev pub storages_shown : Result Shown OperationFault
storages_shown = shows (array 4 (first_storage ∷ second_storage ∷ []))

abbrev pub storage_info_of : StorageKind → Bool → Contents → StorageInfo
storage_info_of kind writable c =
    record { kind = kind; writable = writable; capacity = c.capacity; free_bytes = c.capacity - total c.files; free_objects = c.limit - length c.files }

-- GetStorageInfo
unfoldable pub storage_shown : Storages → ℕ → Result Shown OperationFault
storage_shown p storage =
    provided (is_storage storage) InvalidStorage
    (cond (storage == first_storage)
    (shows (storage_info (storage_info_of Programs (not p.locked) p.first)))
    (shows (storage_info (storage_info_of Handbook false p.second))))

-- the handles of the files of a store that a test picks
abbrev pub handles_on : ℕ → (File → Bool) → List Entry → List ℕ
handles_on base test [] = []
handles_on base test (e ∷ es) = cond (test e.file) ((base + e.number) ∷ handles_on base test es) (handles_on base test es)

-- a storage parameter names this storage
abbrev pub names : ℕ → ℕ → Bool
names parameter storage = parameter == every_storage || parameter == storage

abbrev pub handles_in : Storages → ℕ → (File → Bool) → List ℕ
handles_in p storage test =
    cond (names storage first_storage) (handles_on 0 test p.first.files) []
    ++ cond (names storage second_storage) (handles_on second_base test p.second.files) []

abbrev pub shows_handles : Storages → ℕ → (File → Bool) → Result Shown OperationFault
shows_handles p storage test = shows (array 4 (handles_in p storage test))

-- the objects whose parent is the folder with a handle, on its storage
abbrev pub children_shown : Storages → ℕ → ℕ → Result Shown OperationFault
children_shown p storage folder =
    present (object_at p folder) InvalidHandle λ f.
    provided (is_folder f.format && names storage (storage_of folder)) InvalidParent
    (shows_handles p (storage_of folder) (λ g. nat_eq g.parent (number_of folder)))

-- GetObjectHandles
unfoldable pub handles_shown : Storages → ℕ → ℕ → ℕ → Result Shown OperationFault
handles_shown p storage format folder =
    provided (storage == every_storage || is_storage storage) InvalidStorage
    (provided (format == 0) FormatNotSupported
    (cond (folder == 0) (shows_handles p storage (λ f. true))
    (cond (folder == root) (shows_handles p storage (λ f. nat_eq f.parent 0))
    (children_shown p storage folder))))

-- a parent on the wire: its handle, or 0
abbrev pub parent_handle : ℕ → ℕ → ℕ
parent_handle h parent = cond (nat_lt h second_base) parent (cond (parent == 0) 0 (second_base + parent))

-- what an ObjectInfo says of the file with a handle
abbrev pub info_of : ℕ → File → ObjectInfo
info_of h f = record {
  storage = storage_of h;
  format = format_number f.format;
  protection = f.protection;
  size = length f.bytes;
  parent = parent_handle h f.parent;
  name = f.name;
}

-- GetObjectInfo
unfoldable pub info_shown : Storages → ℕ → Result Shown OperationFault
info_shown p h = present (object_at p h) InvalidHandle (λ f. shows (object_info (info_of h f)))

-- GetObject
unfoldable pub object_shown : Storages → ℕ → Result Shown OperationFault
object_shown p h =
    present (object_at p h) InvalidHandle λ f.
    provided (not (is_folder f.format)) InvalidHandle
    (shows f.bytes)

-- the bytes from an offset on, as far as a maximum allows
abbrev pub part : ℕ → ℕ → List ℕ → List ℕ
part offset maximum xs = take maximum (drop offset xs)

-- GetPartialObject
unfoldable pub part_shown : Storages → ℕ → ℕ → ℕ → Result Shown OperationFault
part_shown p h offset maximum =
    present (object_at p h) InvalidHandle λ f.
    provided (not (is_folder f.format)) InvalidHandle
    (provided (nat_le offset (length f.bytes)) InvalidParameter
    (Ok (record { parameters = length (part offset maximum f.bytes) ∷ []; payload = part offset maximum f.bytes })))
