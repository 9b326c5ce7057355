-- What the searches of the library find in a table.
use Rattle.std.proofs.Common.{◌≡◌, ℕ, suc, ◌+◌, ◌<◌, ◌≤◌, true, false, ◌||◌, eqb, leb, List, [], ◌∷◌, length, get_or, drop, Ok, Err, Result, sym, refl, ap, ◌∙◌, ⊎_elim, add-one, arith, drop-cons}
use Rattle.std.specs.List.{list_any}
use Rattle.std.specs.List.Sorted.{IsNonDecreasingBy, IsPartitionPoint, IsBinarySearchResult, IsSearchInRange}
use Rattle.std.specs.Option.{MatchOption}
use Rattle.std.specs.Ordering.{ordering_index, nat_cmp}
use Rattle.std.specs.Result.{result_ok}
use Rattle.std.proofs.lemmas.Bool.{cases_eq, cases_lt, leb-true, eq-eqb, ne_eqb}
use Rattle.std.proofs.lemmas.List.{drop_all}
use Rattle.std.proofs.lemmas.Bool.Decides.{nat_tests}
use Rattle.store.specs.Changes.{has_children}
use Rattle.table.specs.declared.place.Place.{Place}
use Rattle.table.specs.Found.{Ranked, StandsAt, Missing}
use Rattle.table.specs.Tables.{files_in, numbers_in, Rising}
use Rattle.table.proofs.Columns.{numbers_getD, numbers_length}
use Rattle.std.specs.declared.cmp.Ordering.TheVariants.{Less, Equal, Greater}

pub ascending_rows : (ps : List Place) → Rising (numbers_in ps) → IsNonDecreasingBy (λ (p : Place). p.number) ps
ascending_rows ps asc i j d h l =
    let a = numbers_getD ps i d (omega arith) in
    let b = numbers_getD ps j d l in
    let len = numbers_length ps in
    ⊎_elim
    (λ (e : i ≡ j). let s = ap (λ k. (get_or ps k d).number) e in omega arith)
    (λ (e : i ≡ j → ⊥). let s = asc i j (omega arith) (omega arith) in omega arith)
    (cases_eq i j)

-- the rows up to a partition point by number
pub ranked_at : (ps : List Place) (n i : ℕ) → i ≤ length ps → IsPartitionPoint (λ (p : Place). leb p.number n ≡ true) (λ (p : Place). leb p.number n ≡ false) ps i
    → Ranked ps n i
ranked_at [] n i b h = record { bound = b; below = λ k l. absurd (omega arith); above = λ l. absurd (omega arith) }
ranked_at (p ∷ ps) n i b h = record {
  bound = b;
  below = λ k l. let e = numbers_getD (p ∷ ps) k p (omega arith) in let t = leb-true (get_or (p ∷ ps) k p).number n (h.0 k p (omega arith) l) in omega arith;
  above = λ l. let e = numbers_getD (p ∷ ps) i p l in above (get_or (p ∷ ps) i p).number _ n e (h.1 i p (omega arith) l);
}
  where
    above : (a c n : ℕ) → c ≡ a → leb a n ≡ false → n < c
    above a c n e t = grind (arith, nat_tests)

module _ (n : ℕ) where
  is_equal : (a : ℕ) → nat_cmp a n ≡ Equal → a ≡ n
  is_equal a h = grind (arith, nat_tests)

  is_less : (a : ℕ) → nat_cmp a n ≡ Less → a < n
  is_less a h = grind (arith, nat_tests)

  is_greater : (a : ℕ) → nat_cmp a n ≡ Greater → n < a
  is_greater a h = grind (arith, nat_tests)

  rises : (a b : ℕ) → a ≤ b → ordering_index (nat_cmp a n) ≤ ordering_index (nat_cmp b n)
  rises a b h = grind (arith, nat_tests)

  -- a search by number finds the row that has it, or none has it
  pub found_by_number : (ps : List Place) (r : Result ℕ ℕ) → Rising (numbers_in ps) → IsSearchInRange r (length ps)
      → IsBinarySearchResult (λ (p : Place). nat_cmp p.number n) ps r
      → MatchOption (result_ok r) (Missing ps n) (λ i. StandsAt ps n i)
  found_by_number [] (Ok i) asc b h = absurd (omega arith)
  found_by_number (p ∷ ps) (Ok i) asc b h = record { used = b; here = numbers_getD (p ∷ ps) i p b ∙ is_equal _ (h p) }
  found_by_number [] (Err i) asc b h = λ k l e. omega arith
  found_by_number (p ∷ ps) (Err i) asc b h =
      let rows : List Place = p ∷ ps in
      let parted = h (λ j k d l m. rises (get_or rows j d).number (get_or rows k d).number (ascending_rows rows asc j k d l m)) in
      λ k l e.
      let at = numbers_getD rows k p l in
      ⊎_elim
      (λ (q : k < i). let x = is_less (get_or rows k p).number (parted.0 k p (omega arith) q) in omega arith)
      (λ (q : i ≤ k). let x = is_greater (get_or rows k p).number (parted.1 k p q l) in omega arith)
      (cases_lt k i)

-- the children of a number, from a row on
pub child_here : (n : ℕ) (bs : List ℕ) (ps : List Place) (i : ℕ) (p : Place) → i < length ps → p ≡ get_or ps i p → p.file.parent ≡ n
    → has_children n (files_in bs (drop i ps)) ≡ true
child_here n bs ps i p h e q =
    let r : (get_or ps i p).file.parent ≡ n = ap (λ (x : Place). x.file.parent) (sym e) ∙ q in
    ap (λ z. has_children n (files_in bs z)) (drop-cons ps i p h)
    ∙ ap (λ t. t || has_children n (files_in bs (drop (suc i) ps))) (eq-eqb (get_or ps i p).file.parent n r)

pub child_past : (n : ℕ) (bs : List ℕ) (ps : List Place) (i : ℕ) (p : Place) → i < length ps → p ≡ get_or ps i p → (p.file.parent ≡ n → ⊥)
    → has_children n (files_in bs (drop i ps)) ≡ has_children n (files_in bs (drop (i + 1) ps))
child_past n bs ps i p h e q =
    let r : (get_or ps i p).file.parent ≡ n → ⊥ = λ x. q (ap (λ (y : Place). y.file.parent) e ∙ x) in
    let s : suc i ≡ i + 1 = sym (add-one i) in
    ap (λ z. has_children n (files_in bs z)) (drop-cons ps i p h)
    ∙ ap (λ t. t || has_children n (files_in bs (drop (suc i) ps))) (ne_eqb (get_or ps i p).file.parent n r)
    ∙ ap (λ k. has_children n (files_in bs (drop k ps))) s

pub child_none : (n : ℕ) (bs : List ℕ) (ps : List Place) (i : ℕ) → length ps ≤ i → has_children n (files_in bs (drop i ps)) ≡ false
child_none n bs ps i h = ap (λ z. has_children n (files_in bs z)) (drop_all i ps h)

-- the children of a number, row by row
pub any_child : (n : ℕ) (bs : List ℕ) (ps : List Place) → list_any (λ (p : Place). eqb p.file.parent n) ps ≡ has_children n (files_in bs ps)
any_child n bs [] = refl
any_child n bs (p ∷ ps) = ap (λ t. eqb p.file.parent n || t) (any_child n bs ps)
