use Rattle.std.proofs.Common.{◌≡◌, Ok, Err, sym, ap, ◌∙◌, arith}
use Rattle.std.proofs.lemmas.Result.{err_from_is_err_and}
use Rattle.image_format.proofs.Opening.{sofar_all, sofar_full, sofar_wrong, sofar_more}
use Rattle.image_format.proofs.open.layout_in.Goals as goal

pub returns-then-is_empty : goal.returns-then-is_empty
returns-then-is_empty c = sofar_all c.loop-count.invariant (sym c.if-is_empty.ensures)

pub returns-in_err-number : goal.returns-in_err-number
returns-in_err-number c =
    let p = err_from_is_err_and c.from_residual.result c.from_residual.ensures.1 in
    p.1 ∙ ap Err p.2
    ∙ sofar_wrong c.loop-count.invariant _ (omega arith) (sym c.if-is_empty.ensures) c.in_err-number.ensures.value

pub loop-count-preserved : goal.loop-count-preserved
loop-count-preserved c =
    let x = c.in_ok-number in
    sofar_more c.loop-count.invariant x.number x.length x.behind.now (omega arith) (sym c.if-is_empty.ensures) x.ensures.bound x.ensures.value

pub returns-then-not-is_empty : goal.returns-then-not-is_empty
returns-then-not-is_empty c =
    ap (λ place. Err (record { place = place })) c.spoilt_at.ensures
    ∙ sofar_full c.loop-count.invariant (omega arith) (sym c.if-not-is_empty.ensures)

pub returns : goal.returns
returns c =
    let full : 1024 ≡ c.loop-count.count = omega arith in
    ap (λ n. Ok (record { count = n; total = c.loop-count.total })) full
    ∙ sofar_all c.loop-count.invariant (sym c.if-not-is_empty.ensures)
