use Rattle.std.proofs.Common.{ltb, refl, sym, ◌∙◌, rules}
use Rattle.std.proofs.lemmas.Iterator.Consumers.{YieldsList-from_first}
use Rattle.std.proofs.lemmas.Iterator.Search.{find_from_yields_List}
use borrow.Author.Tests.{tests}
use Rattle.image_format.specs.Walk.{plain_of, records}
use Rattle.image_format.proofs.Steps.{sought_found}
use Rattle.image_format.proofs.seek.seek_above.Goals as goal

pub returns : goal.returns
returns c =
    find_from_yields_List (λ p. ltb c.args.number p.head.number) c.find.new.self _ c.find.result c.find.ensures.ran
    (YieldsList-from_first plain_of (λ s. records s.count s.rest.now) (records c.args.count c.args.image.now) refl)
    (λ x b q k. search (rules, tests))
    ∙ sym (sought_found c.args.count c.args.image.now c.args.number)
