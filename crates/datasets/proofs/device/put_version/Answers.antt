use Rattle.std.proofs.Common.{ap}
use Rattle.byte_parts.specs.Numbers.{le}
use Rattle.wire.proofs.Puts.{put_then, put_same}
use Rattle.datasets.proofs.device.put_version.Goals as goal

pub returns : goal.returns
returns c =
    put_then (put_same (ap (le 2) c.standard_version.ensures.value) c.put_number-next.ensures) (put_then c.put_number-next-2.ensures
    (put_then (put_same (ap (le 2) c.standard_version-2.ensures.value) c.put_number-next-3.ensures) (put_then c.put_string-next.ensures c.put_number.ensures)))
