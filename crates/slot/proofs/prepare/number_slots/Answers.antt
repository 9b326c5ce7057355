use Rattle.std.proofs.Common.{◌*◌, ◌<◌, length, get_or, ap, ◌∙◌, arith}
use Rattle.std.proofs.lemmas.List.{map-set}
use Rattle.std.proofs.lemmas.List.Edits.{fill_by_more}
use Rattle.store.specs.Sound.{max_length}
use Rattle.table.specs.declared.place.Place.{Place}
use Rattle.table.specs.Tables.{starts_in}
use Rattle.slot.proofs.Numbered.{numbered_whole, numbered_inside, numbered_distinct}
use Rattle.slot.proofs.Spare.{slots_length}
use Rattle.slot.proofs.prepare.number_slots.Goals as goal

pub loop-i-preserved : goal.loop-i-preserved
loop-i-preserved c = λ k h.
    let b : c.loop-i.i < length (starts_in c.loop-i.places) = omega (arith, slots_length c.loop-i.places, c.loop-i.auto.places, c.loop-i-test.true) in
    ap (λ z. get_or z k 0) (map-set (λ (q : Place). q.start) c.loop-i.places c.loop-i.i _)
    ∙ fill_by_more (λ j. j * max_length) (starts_in c.loop-i.places) c.loop-i.i 0 b c.loop-i.invariant k h

pub returns-clause-numbered : goal.returns-clause-numbered
returns-clause-numbered c = λ k h. c.loop-i.invariant k (omega (arith, c.loop-i.auto.places))

pub returns-clause-whole : goal.returns-clause-whole
returns-clause-whole c =
    numbered_whole _ _ (slots_length c.loop-i.places ∙ c.loop-i.auto.places) (λ k h. c.loop-i.invariant k (omega arith))

pub returns-clause-inside : goal.returns-clause-inside
returns-clause-inside c =
    numbered_inside _ _ (slots_length c.loop-i.places ∙ c.loop-i.auto.places) (λ k h. c.loop-i.invariant k (omega arith))

pub returns-clause-distinct : goal.returns-clause-distinct
returns-clause-distinct c =
    numbered_distinct _ _ (slots_length c.loop-i.places ∙ c.loop-i.auto.places) (λ k h. c.loop-i.invariant k (omega arith))
