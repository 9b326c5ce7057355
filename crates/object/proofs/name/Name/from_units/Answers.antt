use Rattle.std.proofs.Common.{sym}
use Rattle.object.proofs.Making.{refused, accepted, filled_stored, filled_units}
use Rattle.object.proofs.name.Name.from_units.Goals as goal

pub returns-then-not-is_legal_name : goal.returns-then-not-is_legal_name
returns-then-not-is_legal_name c = let r = refused c.args.units.now (sym c.if-not-is_legal_name.ensures.value) in record { value = r.value; legal = r.legal; units = tt }

pub invariant_of-result : goal.invariant_of-result
invariant_of-result c = record { legal = filled_stored c.args.units.now _ c.copy_from_slice.ensures.after (sym c.if-not-is_legal_name.ensures.value) }

pub returns : goal.returns
returns c =
    let e = filled_units c.args.units.now _ c.copy_from_slice.ensures.after (sym c.if-not-is_legal_name.ensures.value) in
    let a = accepted c.args.units.now _ e in
    record { value = a.value; legal = a.legal; units = e }
