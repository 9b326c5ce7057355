-- What is written is read back: each encoding determines what it encodes.
use Rattle.std.specs.Prelude.{◌≡◌, ◌^◌, ◌<◌, Some}
use Rattle.datasets.specs.ObjectInfos.{object_info, object_info_in}
use Rattle.datasets.specs.Readers.{storage_info_in}
use Rattle.datasets.specs.StorageInfos.{storage_info}
use Rattle.datasets.specs.declared.info.ObjectInfo.{ObjectInfo}
use Rattle.datasets.specs.declared.info.StorageInfo.{StorageInfo}

-- an ObjectInfo whose numbers fit their fields
pub record ObjectInfoFits (i : ObjectInfo) : Type 0 where
  pub storage : i.storage < 2 ^ 32
  pub format : i.format < 2 ^ 16
  pub size : i.size < 2 ^ 32
  pub parent : i.parent < 2 ^ 32

-- an ObjectInfo is read as the same record
abbrev pub ObjectInfosReadBack : Type 0
ObjectInfosReadBack = (i : ObjectInfo) → ObjectInfoFits i → object_info_in (object_info i) ≡ Some i

-- the same of a StorageInfo
pub record StorageInfoFits (i : StorageInfo) : Type 0 where
  pub capacity : i.capacity < 2 ^ 64
  pub bytes : i.free_bytes < 2 ^ 64
  pub objects : i.free_objects < 2 ^ 32

-- a StorageInfo is read as the same record
abbrev pub StorageInfosReadBack : Type 0
StorageInfosReadBack = (i : StorageInfo) → StorageInfoFits i → storage_info_in (storage_info i) ≡ Some i
