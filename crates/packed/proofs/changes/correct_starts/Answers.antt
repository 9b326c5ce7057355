use Rattle.std.proofs.Common.{get_or, set, ap, ◌∙◌, arith}
use Rattle.std.proofs.lemmas.List.{get_or_default}
use Rattle.std.proofs.lemmas.List.Edits.{map_over_more}
use Rattle.table.specs.declared.place.Place.{Place}
use Rattle.packed.specs.Gaps.{row_after}
use Rattle.packed.proofs.changes.correct_starts.Goals as goal

pub loop-place-preserved : goal.loop-place-preserved
loop-place-preserved c =
    let ys = c.loop-place.places in
    let k = c.loop-place.place-index in
    let x : Place = get_or ys k c.place-item.result in
    ap (λ z. set ys k (record { number = x.number; file = x.file; start = z })) c.start_after-place.ensures
    ∙ map_over_more (row_after c.args.gap) _ ys k x c.loop-place-test.true c.loop-place.invariant
    (get_or_default ys k c.place-item.result x (omega (arith, c.loop-place.auto.places)))
