use Rattle.std.proofs.Common.{◌+◌, ◌*◌, ◌≤◌, length, map, sym, ap, ◌∙◌, subst, arith}
use Rattle.std.proofs.lemmas.List.{get_or-map, length-map}
use Rattle.byte_parts.specs.Numbers.{le}
use Rattle.wire.proofs.Puts.{put_none, put_same, numbers_room, numbers_more, numbers_all}
use Rattle.wire.proofs.put.put_numbers.Goals as goal

pub loop-number-init : goal.loop-number-init
loop-number-init g c = put_none c.args.place c.args.out.now (omega arith)

pub put_number-next-requires : goal.put_number-next-requires
put_number-next-requires g c =
    let n = length-map c.args.list.now g.T.Number.number in
    let room = subst (λ m. c.args.place + g.T.Number.WIDTH * m ≤ length c.args.out.now) (sym n) c.requires in
    numbers_room g.T.Number.WIDTH c.loop-number.number-index (map g.T.Number.number c.args.list.now) c.loop-number.invariant (omega arith) room

pub loop-number-preserved : goal.loop-number-preserved
loop-number-preserved g c =
    let n = length-map c.args.list.now g.T.Number.number in
    let item = get_or-map g.T.Number.number c.args.list.now c.loop-number.number-index c.number-item.result 0 c.loop-number-test.true in
    numbers_more g.T.Number.WIDTH c.loop-number.number-index (map g.T.Number.number c.args.list.now) c.loop-number.invariant (omega arith)
    (put_same (ap (le g.T.Number.WIDTH) (ap g.T.Number.number c.number-item.is ∙ sym item)) c.put_number-next.ensures)

pub returns : goal.returns
returns g c =
    let n = length-map c.args.list.now g.T.Number.number in
    numbers_all g.T.Number.WIDTH c.loop-number.number-index (map g.T.Number.number c.args.list.now) c.loop-number.invariant (omega arith)
