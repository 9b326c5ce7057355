use Rattle.std.proofs.Common.{ap}
use Rattle.byte_parts.specs.Numbers.{le}
use Rattle.wire.proofs.Puts.{put_then, put_same}
use Rattle.datasets.proofs.write.put_object_fields.Goals as goal

pub returns-clause-bytes : goal.returns-clause-bytes
returns-clause-bytes c =
    put_then c.put_number-next.ensures (put_then c.put_number-next-2.ensures (put_then (put_same (ap (le 2) c.number.ensures) c.put_number-next-3.ensures)
    (put_then c.put_number-next-4.ensures (put_then c.put_bytes-next.ensures (put_then c.put_number-next-5.ensures
    (put_then (put_same (ap (le 2) c.association_type.ensures) c.put_number-next-6.ensures) c.put_bytes.ensures))))))
