-- What the questions answer.
use Rattle.std.proofs.Common.{◌≡◌, ℕ, zero, suc, ◌<◌, ◌≤◌, false, List, [], ◌∷◌, length, get_or, Some, None, Option, MatchOption, sym, ap, ◌∙◌, ⊎_elim, arith}
use Rattle.std.proofs.lemmas.Bool.{cases_eq}
use Rattle.store.specs.Contents.{lookup, next_above}
use Rattle.store.specs.Changes.{is_absent}
use Rattle.store.proofs.Lookups.{lookup_here, lookup_past}
use Rattle.table.specs.declared.place.Place.{Place}
use Rattle.table.specs.Found.{StandsAt, Missing, Ranked}
use Rattle.table.specs.Tables.{entry_at, files_in, numbers_in}
use Rattle.table.proofs.Columns.{numbers_getD, lookup_at, lookup_missing, next_at, next_none}
use Rattle.lent.specs.declared.files.HeldFiles.{HeldFiles}
use Rattle.lent.specs.Asked.{RowOf, NoRow, HasRow}

-- the number of a row is not absent
pub there_at : (bs : List ℕ) (ps : List Place) (n i : ℕ) → i < length ps → get_or (numbers_in ps) i 0 ≡ n → is_absent (lookup n (files_in bs ps)) ≡ false
there_at bs [] n i h e = absurd (omega arith)
there_at bs (p ∷ ps) n zero h e = ap is_absent (lookup_here (entry_at bs p) (files_in bs ps) n e)
there_at bs (p ∷ ps) n (suc i) h e =
    ⊎_elim
    (λ (q : p.number ≡ n). ap is_absent (lookup_here (entry_at bs p) (files_in bs ps) n q))
    (λ (q : p.number ≡ n → ⊥). ap is_absent (lookup_past (entry_at bs p) (files_in bs ps) n q) ∙ there_at bs ps n i (omega arith) e)
    (cases_eq p.number n)

-- what a search by number says of the files
pub indexed : (v : HeldFiles) (n : ℕ) (r : Option ℕ) → MatchOption r (Missing v.places.now n) (λ i. StandsAt v.places.now n i)
    → MatchOption r (NoRow v n) (λ i. HasRow v n i)
indexed v n None m = lookup_missing v.bytes.now v.places.now n m
indexed v n (Some i) s = record { row = s; there = there_at v.bytes.now v.places.now n i s.used s.here }

-- the row at the index that a number was found at
pub row_at : (v : HeldFiles) (n i : ℕ) (d : Place) → HasRow v n i → RowOf v n (get_or v.places.now i d)
row_at v n i d h = record {
  found = lookup_at v.bytes.now v.places.now 0 n i d v.sound.ascending h.row.used h.row.here;
  ends = v.within i d h.row.used;
}

-- the next number above
pub above_at : (bs : List ℕ) (ps : List Place) (n r : ℕ) (d : Place) → Ranked ps n r → r < length ps → Some (get_or ps r d).number ≡ next_above n (files_in bs ps)
above_at bs ps n r d k h = sym (next_at bs ps n r h k.below (k.above h) ∙ ap Some (numbers_getD ps r d h))

pub above_none : (bs : List ℕ) (ps : List Place) (n r : ℕ) → Ranked ps n r → length ps ≤ r → None ≡ next_above n (files_in bs ps)
above_none bs ps n r k h = sym (next_none bs ps n (λ j l. k.below j (omega arith)))
