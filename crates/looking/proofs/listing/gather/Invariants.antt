use Rattle.looking.specs.Places.{base_of}
use Rattle.looking.proofs.Listings.{SoFar}
use Rattle.looking.proofs.listing.gather.Given as goal

abbrev pub invariant-loop-number : goal.invariant-loop-number
invariant-loop-number g l =
    (goal.iterator-loop-number g).can_next l.number-iterator
    × (goal.iterator-loop-number g).is_finite l.number-iterator
    × SoFar (base_of l.storage) l.wanted (g.S.ReadStore.contents l.store).files l.initial.handles.items l.handles.items l.number-iterator
