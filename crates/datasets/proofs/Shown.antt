-- The samples, by computing.
use Rattle.std.proofs.Common.{refl}
use Rattle.object.specs.Legal.{legal_name, stored_name}
use Rattle.object.specs.Names.{named}
use Rattle.wire.specs.Strings.{array}
use Rattle.datasets.specs.DeviceInfos.{device_info}
use Rattle.datasets.specs.ObjectInfos.{object_info}
use Rattle.datasets.specs.Samples.{Samples}
use Rattle.datasets.specs.StorageInfos.{storage_info}

pub samples : Samples
unfolding named stored_name legal_name object_info storage_info device_info array
samples =
    record {
      folder_info = refl;
      text_info = refl;
      first_info = refl;
      second_info = refl;
      device_bytes = refl;
    }
