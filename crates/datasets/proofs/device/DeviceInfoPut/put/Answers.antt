use Rattle.wire.proofs.Puts.{put_then}
use Rattle.datasets.specs.DeviceInfos.{device_info}
use Rattle.datasets.proofs.device.DeviceInfoPut.put.Goals as goal

pub returns-clause-bytes : goal.returns-clause-bytes
unfolding device_info
returns-clause-bytes c = put_then c.put_version-next.ensures (put_then c.put_codes-next.ensures c.put_texts.ensures)
