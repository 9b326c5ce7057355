use Rattle.wire.proofs.Puts.{put_then}
use Rattle.datasets.specs.ObjectInfos.{object_info}
use Rattle.datasets.proofs.write.ObjectInfoPut.put.Goals as goal

pub returns-clause-bytes : goal.returns-clause-bytes
unfolding object_info
returns-clause-bytes c = put_then c.put_object_fields-next.ensures.bytes (put_then c.put_name-next.ensures c.put_bytes.ensures)
