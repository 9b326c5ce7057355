use Rattle.std.proofs.Common.{rules}
use Rattle.std.proofs.lemmas.List.Sorted.{answers_always}
use Rattle.table.specs.declared.place.Place.{Place}
use Rattle.table.proofs.Searches.{found_by_number}
use Rattle.table.proofs.search.find.Goals as goal

pub returns-in-None : goal.returns-in-None
returns-in-None c =
    rw c.ok.ensures.value
    (found_by_number c.args.number c.args.places.now c.binary_search_by_key.result c.requires c.binary_search_by_key.ensures.bound
    (c.binary_search_by_key.ensures.position (λ (p : Place). p.number) (answers_always _ _ _ (λ f a r f' k. search rules))))
