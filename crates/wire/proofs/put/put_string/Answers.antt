use Rattle.std.proofs.Common.{◌≡◌, ◌+◌, ◌%◌, ◌<◌, [], ◌∷◌, length, sym, ap, arith, false-eqb}
use Rattle.std.proofs.lemmas.List.{map-id}
use Rattle.wire.specs.Containers.{numbers}
use Rattle.wire.proofs.Puts.{put_then, put_same, string_some, length_string, length_numbers, length_put}
use Rattle.wire.proofs.put.put_string.Goals as goal

pub put_numbers-next-requires : goal.put_numbers-next-requires
put_numbers-next-requires c =
    let some : 0 < length c.args.units.now = omega (arith, false-eqb _ 0 c.if-is_empty.ensures) in
    omega (arith, length_string c.args.units.now some, c.put_number-next.ensures.behind, length_put c.put_number-next.ensures)

pub put_number-requires-2 : goal.put_number-requires-2
put_number-requires-2 c =
    let some : 0 < length c.args.units.now = omega (arith, false-eqb _ 0 c.if-is_empty.ensures) in
    let same = ap (λ us. length (numbers 2 us)) (map-id c.args.units.now) in
    omega (arith, same, length_string c.args.units.now some, c.put_number-next.ensures.behind, c.put_numbers-next.ensures.behind, length_numbers 2 c.args.units.now, length_put c.put_number-next.ensures, length_put c.put_numbers-next.ensures)

pub returns : goal.returns
returns c =
    let us = c.args.units.now in
    let some : 0 < length us = omega (arith, false-eqb _ 0 c.if-is_empty.ensures) in
    let short : (length us + 1) % 256 ≡ length us + 1 = omega (arith, c.requires.short) in
    put_same (sym (string_some us some))
    (put_then (put_then (put_same (ap (λ n. n ∷ []) short) c.put_number-next.ensures) (put_same (ap (numbers 2) (map-id us)) c.put_numbers-next.ensures)) c.put_number-2.ensures)
