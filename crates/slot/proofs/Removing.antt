-- Slotted memory after a removal.
use Rattle.std.proofs.Common.{◌≡◌, ℕ, false, length, ap, subst, sym}
use Rattle.std.specs.List.Sorted.{IsPermutation}
use Rattle.store.specs.Changes.{removed}
use Rattle.store.specs.Changing.{contents_after}
use Rattle.table.specs.declared.place.Place.{Place}
use Rattle.table.specs.Tables.{starts_in}
use Rattle.lent.specs.declared.memory.Memory.{Memory}
use Rattle.lent.specs.Asked.{Removable}
use Rattle.lent.specs.Changed.{Cut}
use Rattle.lent.specs.Kept.{held_in, rows}
use Rattle.lent.proofs.Changing.{below, table_cut, contents_cut, readable_cut}
use Rattle.slot.specs.Slots.{Slotted, slots}
use Rattle.slot.proofs.Keeping.{slots_without, kept}

module _ (m after : Memory) (n i : ℕ) (s : Slotted m) (e : Removable (rows m) (held_in m) n i) (c : (row : Place) × Cut m after i row) where
  turned : IsPermutation (slots m) (slots after)
  turned =
      subst (λ z. IsPermutation (slots m) (starts_in z)) (sym c.1.table)
      (slots_without m.places.now m.count i (below m after n i c.0 s.readable e c.1) s.readable.counted.0)

  pub kept_after : Slotted after
  kept_after =
      kept m after s turned (ap length c.1.area) (table_cut m after n i c.0 s.readable e c.1) (readable_cut m after n i c.0 s.readable e c.1)

  pub contents_same : held_in after ≡ contents_after (held_in m) (removed false n (held_in m))
  contents_same = contents_cut m after n i c.0 s.readable e c.1
