-- The lengths of the datasets.
use Rattle.std.proofs.Common.{◌≡◌, ◌+◌, ◌*◌, [], ◌∷◌, length, refl, arith}
use Rattle.std.proofs.lemmas.List.{length-append}
use Rattle.object.specs.Names.{units_of}
use Rattle.object.proofs.Stored.{units_long}
use Rattle.wire.specs.Strings.{string, array}
use Rattle.wire.proofs.Puts.{length_string}
use Rattle.datasets.specs.DeviceInfos.{device_info}
use Rattle.datasets.specs.ObjectInfos.{object_info}
use Rattle.datasets.specs.StorageInfos.{storage_info}
use Rattle.datasets.specs.declared.info.ObjectInfo.{ObjectInfo}
use Rattle.datasets.specs.declared.info.StorageInfo.{StorageInfo}
use Rattle.datasets.specs.declared.info.StorageKind.{StorageKind}
use Rattle.datasets.specs.declared.info.StorageKind.TheVariants.{Programs, Handbook}

-- the fields, the name and a byte for each other string
pub length_parts : (i : ObjectInfo) → length (object_info i) ≡ 52 + (length (string (units_of i.name)) + 3)
unfolding object_info
length_parts i = let a = length-append (string (units_of i.name)) (0 ∷ 0 ∷ 0 ∷ []) in omega arith

pub length_object_info : (i : ObjectInfo) → length (object_info i) ≡ 58 + 2 * length (units_of i.name)
length_object_info i = let a = length_parts i in let b = length_string (units_of i.name) (units_long i.name) in omega arith

pub length_storage_info : (i : StorageInfo) → length (storage_info i) ≡ 46
unfolding storage_info
length_storage_info i = by i.kind
  where
    by : (k : StorageKind) → length (storage_info (record { kind = k; writable = i.writable; capacity = i.capacity; free_bytes = i.free_bytes; free_objects = i.free_objects })) ≡ 46
    by Programs = refl
    by Handbook = refl

pub length_device_info : length device_info ≡ 97
unfolding device_info array
length_device_info = refl
