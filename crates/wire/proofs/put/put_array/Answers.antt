use Rattle.std.proofs.Common.{sym, ap}
use Rattle.byte_parts.specs.Numbers.{le}
use Rattle.std.proofs.lemmas.List.{length-map}
use Rattle.wire.specs.Strings.{array}
use Rattle.wire.proofs.Puts.{put_then, put_same}
use Rattle.wire.proofs.put.put_array.Goals as goal

pub returns : goal.returns
unfolding array
returns g c =
    put_then (put_same (ap (le 4) (sym (length-map c.args.list.now g.T.Number.number))) c.put_count-next.ensures) c.put_numbers.ensures
