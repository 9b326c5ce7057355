use Rattle.std.proofs.Common.{ap}
use Rattle.wire.specs.Strings.{string}
use Rattle.wire.proofs.Puts.{put_then, put_same}
use Rattle.datasets.proofs.device.put_texts.Goals as goal

pub returns : goal.returns
returns c =
    put_then (put_same (ap string c.units.ensures) c.put_string-next.ensures)
    (put_then (put_same (ap string c.units-2.ensures) c.put_string-next-2.ensures)
    (put_then (put_same (ap string c.units-3.ensures) c.put_string-next-3.ensures) (put_same (ap string c.units-4.ensures) c.put_string.ensures)))
