use Rattle.std.proofs.Common.{◌<◌, sym, subst}
use Rattle.object.proofs.Reading.{sofar_more, too_long}
use Rattle.object.proofs.name.Name.from_bytes.Goals as goal

pub returns-then-count-gt-MAX_UNITS : goal.returns-then-count-gt-MAX_UNITS
returns-then-count-gt-MAX_UNITS c = too_long c.args.bytes.now c.if-count-gt-MAX_UNITS.true

pub loop-cell-preserved : goal.loop-cell-preserved
loop-cell-preserved c =
    sofar_more c.args.bytes.now c.loop-cell.cell-items c.loop-cell.cell-index c.loop-cell.rest.now c.loop-cell.invariant c.in_ok-cell.field-0-1.now c.in_ok-cell.field-0-0 c.in_ok-cell.ensures (subst (λ n. c.loop-cell.cell-index < n) (sym c.loop-cell.auto.cell-items) c.loop-cell-test.true)
