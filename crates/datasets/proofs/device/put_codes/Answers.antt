use Rattle.std.proofs.Common.{ap, ◌∙◌}
use Rattle.std.proofs.lemmas.List.{map-id}
use Rattle.wire.specs.Strings.{array}
use Rattle.wire.proofs.Puts.{put_then, put_same}
use Rattle.datasets.proofs.device.put_codes.Goals as goal

pub returns : goal.returns
unfolding array
returns c =
    put_then (put_same (ap (array 2) (map-id _ ∙ c.operation_codes.ensures)) c.put_array-next.ensures)
    (put_then c.put_bytes-next.ensures (put_same (ap (array 2) (map-id _ ∙ c.format_numbers.ensures)) c.put_array.ensures))
