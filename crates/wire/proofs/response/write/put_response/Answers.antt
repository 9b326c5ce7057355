use Rattle.std.proofs.Common.{◌*◌, ◌++◌, length, sym, ◌∙◌, arith}
use Rattle.std.proofs.lemmas.List.{map-id}
use Rattle.wire.specs.Containers.{head, numbers, response_type}
use Rattle.wire.proofs.Placed.{wrote_over, length_head, head_joins}
use Rattle.wire.proofs.Puts.{put_then, put_same, length_put, length_numbers}
use Rattle.wire.proofs.response.write.put_response.Goals as goal

pub put_numbers-requires : goal.put_numbers-requires
put_numbers-requires c =
    omega (arith, length_head c.number.result c.args.heading.code c.args.heading.transaction (4 * length c.args.list.now), c.put_head-next.ensures.behind, length_put c.put_head-next.ensures)

pub returns-clause-value : goal.returns-clause-value
returns-clause-value c =
    let ps = c.args.list.now in
    let code = c.args.heading.code in
    let transaction = c.args.heading.transaction in
    wrote_over
    (put_same ((λ i. head (c.number.ensures i) code transaction (sym (length_numbers 4 ps) i) ++ numbers 4 (map-id ps i)) ∙ head_joins response_type code transaction (numbers 4 ps))
    (put_then c.put_head-next.ensures c.put_numbers.ensures))
