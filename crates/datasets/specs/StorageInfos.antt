-- The StorageInfo dataset.
use Rattle.std.specs.Prelude.{ℕ, Bool, cond, List, [], ◌++◌, codes}
use Rattle.byte_parts.specs.Numbers.{le}
use Rattle.wire.specs.Strings.{string}
use Rattle.datasets.specs.declared.info.StorageInfo.{StorageInfo}
use Rattle.datasets.specs.declared.info.StorageKind.{StorageKind}
use Rattle.datasets.specs.declared.info.StorageKind.TheVariants.{Programs, Handbook}

-- 3 is fixed memory that can be written, 1 is fixed read-only memory
abbrev pub storage_type : StorageKind → ℕ
storage_type Programs = 3
storage_type Handbook = 1

-- the description of a storage
abbrev pub storage_label : StorageKind → List ℕ
storage_label Programs = codes "Programs"
storage_label Handbook = codes "Handbook"

-- 1 is read-only, 0 is for reading and writing
abbrev pub access_capability : Bool → ℕ
access_capability writable = cond writable 0 1

-- storage type, filesystem type 2, access capability, capacity, free bytes, free objects, description and an
-- empty volume identifier
unfoldable pub storage_info : StorageInfo → List ℕ
storage_info i =
    le 2 (storage_type i.kind) ++ (le 2 2 ++ (le 2 (access_capability i.writable) ++ (le 8 i.capacity ++ (le 8 i.free_bytes
    ++ (le 4 i.free_objects ++ (string (storage_label i.kind) ++ string []))))))
