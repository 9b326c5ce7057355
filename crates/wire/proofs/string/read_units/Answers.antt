use Rattle.std.proofs.Common.{◌-◌, Some, sym, ap, ◌∙◌, subst, arith}
use Rattle.std.proofs.lemmas.Bool.{eqb-true, eqb-false}
use Rattle.std.specs.Option.{option_map}
use Rattle.wire.specs.Texts.{read_parts}
use Rattle.object.specs.Names.{units_in}
use Rattle.wire.proofs.Units.{Sofar, sofar_none, sofar_short, sofar_zero, sofar_more, sofar_open, sofar_closed, sofar_room}
use Rattle.wire.proofs.string.read_units.Goals as goal

pub loop-init : goal.loop-init
loop-init c = subst (Sofar c.args.bytes.now c.args.count c.args.bytes.now) (omega arith) (sofar_none c.args.bytes.now c.args.count)

pub returns-in_err-unit : goal.returns-in_err-unit
returns-in_err-unit c =
    rw c.from_residual.ensures
    (ap (option_map read_parts) (sofar_short c.args.bytes.now c.args.count c.loop.rest.now _ c.loop.invariant c.in_err-unit.ensures))

pub returns-then-is_closing : goal.returns-then-is_closing
returns-then-is_closing c =
    ap (option_map read_parts) (sofar_zero c.args.bytes.now c.args.count c.loop.rest.now _ c.loop.invariant c.in_ok-unit.unit c.in_ok-unit.after.now c.in_ok-unit.ensures (omega arith) (eqb-true _ 0 (sym c.if-is_closing.ensures)))

pub loop-preserved : goal.loop-preserved
loop-preserved c =
    subst (Sofar c.args.bytes.now c.args.count c.in_ok-unit.after.now) (omega arith)
    (sofar_more c.args.bytes.now c.args.count c.loop.rest.now (c.args.count - c.loop.counter) c.loop.invariant c.in_ok-unit.unit c.in_ok-unit.after.now c.in_ok-unit.ensures (omega arith) (eqb-false _ 0 (sym c.if-is_closing.ensures)))

pub returns-in_err-end : goal.returns-in_err-end
returns-in_err-end c =
    rw c.from_residual-in_err-end.ensures
    (ap (option_map read_parts) (sofar_short c.args.bytes.now c.args.count c.loop.rest.now _ c.loop.invariant c.in_err-end.ensures))

pub returns-then-not-is_closing : goal.returns-then-not-is_closing
returns-then-not-is_closing c =
    ap (option_map read_parts) (sofar_open c.args.bytes.now c.args.count c.loop.rest.now _ c.loop.invariant c.in_ok-end.end c.in_ok-end.behind.now c.in_ok-end.ensures (omega arith) (eqb-false _ 0 (sym c.if-not-is_closing.ensures)))

pub split_at-requires : goal.split_at-requires
split_at-requires c = sofar_room c.args.bytes.now c.args.count c.loop.rest.now _ c.loop.invariant (omega arith)

pub returns : goal.returns
returns c =
    ap (λ l. Some (units_in l, c.in_ok-end.behind.now)) c.split_at.ensures.front
    ∙ sofar_closed c.args.bytes.now c.args.count c.loop.rest.now _ c.loop.invariant c.in_ok-end.end c.in_ok-end.behind.now c.in_ok-end.ensures (omega arith) (eqb-true _ 0 (sym c.if-not-is_closing.ensures))
