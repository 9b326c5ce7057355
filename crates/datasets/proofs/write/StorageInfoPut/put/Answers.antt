use Rattle.std.proofs.Common.{ap}
use Rattle.byte_parts.specs.Numbers.{le}
use Rattle.wire.specs.Strings.{string}
use Rattle.wire.proofs.Puts.{put_then, put_same}
use Rattle.datasets.specs.StorageInfos.{storage_info}
use Rattle.datasets.proofs.write.StorageInfoPut.put.Goals as goal

pub returns-clause-bytes : goal.returns-clause-bytes
unfolding storage_info
returns-clause-bytes c =
    put_then (put_same (ap (le 2) c.number.ensures) c.put_number-next.ensures) (put_then c.put_number-next-2.ensures
    (put_then (put_same (ap (le 2) c.access_capability.ensures) c.put_number-next-3.ensures) (put_then c.put_number-next-4.ensures (put_then c.put_number-next-5.ensures
    (put_then c.put_number-next-6.ensures (put_then (put_same (ap string c.label.ensures) c.put_string-next.ensures) c.put_string.ensures))))))
