-- A packed store's memory after an addition.
use Rattle.std.proofs.Common.{◌≡◌, ℕ, ◌+◌, ◌<◌, ◌≤◌, false, List, ◌∷◌, length, Ok, sym, subst, arith}
use Rattle.std.specs.List.{All, AllPairs}
use Rattle.std.specs.List.Sorted.{IsPermutation}
use Rattle.std.proofs.lemmas.List.Elements.{All-cons}
use Rattle.std.proofs.lemmas.List.Kept.{AllPairs-cons}
use Rattle.std.proofs.lemmas.List.Sorted.{All-permutation, IsPermutation-insert, sum_by_pushed}
use Rattle.store.specs.declared.info.NewFile.{NewFile}
use Rattle.store.specs.Changes.{added}
use Rattle.store.specs.Changing.{file_of, result_of, contents_after}
use Rattle.table.specs.declared.place.Place.{Place}
use Rattle.table.specs.Tables.{end_of, Within, Clear}
use Rattle.table.proofs.Pairs.{Apart-permutation}
use Rattle.lent.specs.declared.memory.Memory.{Memory}
use Rattle.lent.specs.Changed.{new_row, Put}
use Rattle.lent.specs.Kept.{held_in, rows}
use Rattle.lent.proofs.Changing.{Accepted, accepted, spare_row, rows_put, contents_put, readable_put}
use Rattle.packed.specs.Layouts.{Packed}

module _ (m : Memory) (n : ℕ) (f : NewFile) (new : List ℕ) (k : Packed m) (e : Ok tt ≡ result_of (added false n (file_of f new) (held_in m))) where
  fits : Accepted n (file_of f new) (held_in m)
  fits = accepted n (file_of f new) (held_in m) e

  pub spare : m.count < length m.places.now
  spare = spare_row m n (file_of f new) k.readable fits

  pub room : m.total + length new ≤ length m.bytes.now
  room = omega (arith, fits.fits.free_bytes, k.readable.counted.1)

  module _ (after : Memory) (p : Put m after n f m.total new) where
    abbrev place : Place
    place = new_row n f (length new) m.total

    -- every file ends in front of the new one
    clear : All (λ q. q.start < m.total + length new → end_of q ≤ m.total) (rows m)
    clear j d h l = k.in_front j d h

    one_more : IsPermutation (place ∷ rows m) (rows after)
    one_more =
        subst (IsPermutation (place ∷ rows m)) (sym (rows_put m after n f m.total new k.readable fits room clear p))
        (IsPermutation-insert (rows m) p.index place)

    in_front_after : Within (rows after) after.total
    in_front_after =
        let P : Place → Type 0 = λ q. end_of q ≤ after.total in
        All-permutation P (place ∷ rows m) (rows after) one_more
        (All-cons P place (rows m) (omega (arith, p.total)) (λ j d h. let x = k.in_front j d h in omega (arith, p.total)))

    apart_after : AllPairs Clear (rows after)
    apart_after =
        Apart-permutation (place ∷ rows m) (rows after) one_more
        (AllPairs-cons Clear place (rows m) (λ j d h l. k.in_front j d h) k.apart)

    pub packed_after : Packed after
    packed_after = record {
      readable = readable_put m after n f m.total new k.readable fits room clear p;
      in_front = in_front_after;
      apart = apart_after;
      no_gap = let s = sum_by_pushed (λ (q : Place). q.file.length) place (rows m) (rows after) one_more in omega (arith, k.no_gap, p.total);
    }

    pub contents_same : held_in after ≡ contents_after (held_in m) (added false n (file_of f new) (held_in m))
    contents_same = contents_put m after n f m.total new k.readable fits room clear p
