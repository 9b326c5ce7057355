use Rattle.std.proofs.Common.{sym, ◌∙◌}
use Rattle.table.proofs.Searches.{child_here, child_past, child_none}
use Rattle.table.proofs.search.is_parent_of_any.Goals as goal

pub returns-then-place-number : goal.returns-then-place-number
returns-then-place-number c = λ bytes.
    sym (c.loop-place.invariant bytes ∙ child_here c.args.number bytes c.args.places.now c.loop-place.place-index c.place-item.result c.loop-place-test.true c.place-item.is c.if-place-number.true)

pub loop-place-preserved : goal.loop-place-preserved
loop-place-preserved c = λ bytes.
    c.loop-place.invariant bytes ∙ child_past c.args.number bytes c.args.places.now c.loop-place.place-index c.place-item.result c.loop-place-test.true c.place-item.is c.if-place-number.false

pub returns : goal.returns
returns c = λ bytes.
    sym (c.loop-place.invariant bytes ∙ child_none c.args.number bytes c.args.places.now c.loop-place.place-index c.loop-place-test.false)
