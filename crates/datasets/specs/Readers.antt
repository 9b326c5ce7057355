-- A reader of what the responder only writes, so that the encoding is seen to determine its record.
use Rattle.std.specs.Prelude.{ℕ, Bool, true, false, cond, ◌&&◌, List, [], ◌∷◌, length, drop, Some, None, Option, ◌==◌, nat_le}
use Rattle.object.specs.Numbered.{with_number}
use Rattle.wire.specs.Containers.{number_at}
use Rattle.datasets.specs.ObjectInfos.{are_strings}
use Rattle.datasets.specs.StorageInfos.{storage_type, access_capability}
use Rattle.datasets.specs.declared.info.StorageInfo.{StorageInfo}
use Rattle.datasets.specs.declared.info.StorageKind.{StorageKind}
use Rattle.datasets.specs.declared.info.StorageKind.TheVariants.{Programs, Handbook}

-- the storage with this type
abbrev pub kind_of : ℕ → Option StorageKind
kind_of n = with_number storage_type (Programs ∷ Handbook ∷ []) n

-- whether a storage of this access capability can be written
abbrev pub writable_of : ℕ → Option Bool
writable_of n = with_number access_capability (true ∷ false ∷ []) n

-- the record, if type and access capability are known
abbrev pub storage_from : List ℕ → Option StorageKind → Option Bool → Option StorageInfo
storage_from bs None w = None
storage_from bs (Some k) None = None
storage_from bs (Some k) (Some w) =
    Some (record { kind = k; writable = w; capacity = number_at 8 6 bs; free_bytes = number_at 8 14 bs; free_objects = number_at 4 22 bs })

-- the fixed part with filesystem type 2, two strings, and no byte beyond
unfoldable pub storage_info_in : List ℕ → Option StorageInfo
storage_info_in bs =
    cond (nat_le 26 (length bs) && (number_at 2 2 bs == 2 && are_strings 2 (drop 26 bs)))
    (storage_from bs (kind_of (number_at 2 0 bs)) (writable_of (number_at 2 4 bs))) None
