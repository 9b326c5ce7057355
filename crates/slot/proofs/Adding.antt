-- Slotted memory after an addition.
use Rattle.std.proofs.Common.{◌≡◌, ℕ, ◌+◌, ◌<◌, ◌≤◌, false, List, length, Ok, refl, arith, subst, sym}
use Rattle.std.specs.List.{All}
use Rattle.store.specs.declared.info.NewFile.{NewFile}
use Rattle.store.specs.Changes.{added}
use Rattle.store.specs.Changing.{file_of, result_of, contents_after}
use Rattle.table.specs.Tables.{starts_in, end_of}
use Rattle.lent.specs.declared.memory.Memory.{Memory}
use Rattle.lent.specs.Changed.{new_row, Put}
use Rattle.lent.specs.Kept.{held_in, rows}
use Rattle.lent.proofs.Changing.{Accepted, accepted, spare_row, used_length, bytes_put, table_put, contents_put, readable_put}
use Rattle.slot.specs.Slots.{Slotted, slots, spare_slot}
use Rattle.slot.proofs.Spare.{slots_length, clear_of}
use Rattle.slot.proofs.Keeping.{slots_with, kept}
use Rattle.std.specs.List.Sorted.{IsPermutation}

module _ (m : Memory) (n : ℕ) (f : NewFile) (new : List ℕ) (s : Slotted m) (e : Ok tt ≡ result_of (added false n (file_of f new) (held_in m))) where
  fits : Accepted n (file_of f new) (held_in m)
  fits = accepted n (file_of f new) (held_in m) e

  pub spare : m.count < length m.places.now
  spare = spare_row m n (file_of f new) s.readable fits

  pub slot : spare_slot m + length new ≤ length m.bytes.now
  slot = let l = slots_length m.places.now in let x = s.inside m.count 0 (let h = spare in omega arith) in omega (arith, fits.fits.short)

  module _ (after : Memory) (p : Put m after n f (spare_slot m) new) where
    clear : All (λ q. q.start < spare_slot m + length new → end_of q ≤ spare_slot m) (rows m)
    clear = clear_of m.places.now (length m.places.now) m.count (length new) m.bytes.now spare fits.fits.short s.readable.sound s.readable.within s.whole s.distinct

    turned : IsPermutation (slots m) (slots after)
    turned =
        subst (λ z. IsPermutation (slots m) (starts_in z)) (sym p.table)
        (slots_with m.places.now m.count p.index (new_row n f (length new) (spare_slot m)) (let u = used_length m s.readable in omega (arith, p.rank.bound)) spare refl)

    pub kept_after : Slotted after
    kept_after =
        kept m after s turned (bytes_put m after n f (spare_slot m) new s.readable fits slot clear p)
        (table_put m after n f (spare_slot m) new s.readable fits slot clear p) (readable_put m after n f (spare_slot m) new s.readable fits slot clear p)

    pub contents_same : held_in after ≡ contents_after (held_in m) (added false n (file_of f new) (held_in m))
    contents_same = contents_put m after n f (spare_slot m) new s.readable fits slot clear p
