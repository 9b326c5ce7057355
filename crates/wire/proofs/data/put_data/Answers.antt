use Rattle.std.proofs.Common.{arith}
use Rattle.std.proofs.lemmas.Result.{err_from_is_err_and}
use Rattle.wire.proofs.Placed.{data_refused, data_room, data_placed}
use Rattle.wire.proofs.data.put_data.Goals as goal

pub returns-in_err-next-clause-value : goal.returns-in_err-next-clause-value
returns-in_err-next-clause-value g c =
    let p = err_from_is_err_and c.from_residual.result c.from_residual.ensures.1 in
    rw (p.1, p.2) (data_refused _ _ _ _ _ _ c.size.ensures _ c.in_err-next.ensures.value)

pub put-requires : goal.put-requires
put-requires g c =
    let room = data_room _ _ _ _ _ _ c.size.ensures _ c.in_ok-next.ensures.value in
    omega (arith, c.size.ensures)

pub returns-clause-value : goal.returns-clause-value
returns-clause-value g c = data_placed _ _ _ _ _ _ c.size.ensures _ c.in_ok-next.ensures.value c.put.ensures.bytes
