-- Pairs of a list, for a relation that holds both ways, and rows that share no byte.
use Rattle.std.proofs.Common.{◌≡◌, ℕ, ◌<◌, ◌≤◌, suc, cond, eqb, List, [], ◌∷◌, map, length, get_or, sym, refl, subst, ⊎_elim, arith}
use Rattle.std.specs.List.{All, AllPairs, swap}
use Rattle.std.specs.List.Sorted.{IsPermutation}
use Rattle.std.proofs.lemmas.Bool.{cases_lt, cases_order}
use Rattle.std.proofs.lemmas.Bool.Decides.{nat_tests}
use Rattle.std.proofs.lemmas.List.{get_or-map, length-map}
use Rattle.std.proofs.lemmas.List.Edits.{length-swap, Swapped, swapped_from_swap}
use Rattle.std.proofs.lemmas.List.Sorted.{IsPermutation-keeps}
use Rattle.table.specs.declared.place.Place.{Place}
use Rattle.table.specs.Tables.{end_of, Clear, Apart}

module _ {X : Type 0} (R : X → X → Type 0) where
  pub AllPairs-head : (x : X) (xs : List X) → AllPairs R (x ∷ xs) → All (R x) xs
  AllPairs-head x xs a k d h = a 0 (suc k) d (omega arith) (omega arith)

  pub AllPairs-tail : (x : X) (xs : List X) → AllPairs R (x ∷ xs) → AllPairs R xs
  AllPairs-tail x xs a i j d h l = a (suc i) (suc j) d (omega arith) (omega arith)

  pub AllPairs-map : {Y : Type 0} (f : Y → X) (ys : List Y) → AllPairs (λ x y. R (f x) (f y)) ys → AllPairs R (map f ys)
  AllPairs-map f [] a i j d h l = absurd (omega arith)
  AllPairs-map {Y} f (y ∷ ys) a i j d h l =
      let n = length-map (y ∷ ys) f in
      subst (λ x. R x (get_or (map f (y ∷ ys)) j d)) (sym (get_or-map f (y ∷ ys) i y d (omega arith)))
      (subst (R (f (get_or (y ∷ ys) i y))) (sym (get_or-map f (y ∷ ys) j y d (omega arith))) (a i j y h (omega arith)))

  module _ (flips : (x y : X) → R x y → R y x) where
    any_two : (xs : List X) → AllPairs R xs → (i j : ℕ) (d : X) → (i ≡ j → ⊥) → i < length xs → j < length xs → R (get_or xs i d) (get_or xs j d)
    any_two xs a i j d n h l =
        ⊎_elim
        (λ (e : i ≡ j). absurd (n e))
        (⊎_elim (λ (b : i < j). a i j d b l) (λ (b : j < i). flips _ _ (a j i d b h)))
        (cases_order i j)

    -- where the element at k was before those at a and b were swapped
    from : ℕ → ℕ → ℕ → ℕ
    from a b k = cond (eqb k a) b (cond (eqb k b) a k)

    from_apart : (a b i j : ℕ) → i < j → from a b i ≡ from a b j → ⊥
    unfolding from
    from_apart a b i j h e = grind (arith, nat_tests)

    from_within : (a b k n : ℕ) → a < n → b < n → k < n → from a b k < n
    unfolding from
    from_within a b k n h l m = grind (arith, nat_tests)

    was : (f g : ℕ → X) (a b k : ℕ) → Swapped f g a b → g k ≡ f (from a b k)
    unfolding from
    was f g a b k s = grind (arith, nat_tests, s.0, s.1, s.2)

    -- pairs hold in any order of the list
    pub AllPairs-permutation : (xs ys : List X) → IsPermutation xs ys → AllPairs R xs → AllPairs R ys
    AllPairs-permutation xs ys p a = IsPermutation-keeps xs (AllPairs R) a step ys p
      where
        step : (l : List X) (i j : ℕ) → i < length l → j < length l → AllPairs R l → AllPairs R (swap l i j)
        step l a b h k pairs i j d less within =
            let n = length-swap l a b in
            let s = swapped_from_swap l (swap l a b) a b d h k refl in
            subst (λ x. R x (get_or (swap l a b) j d)) (sym (was _ _ a b i s))
            (subst (R (get_or l (from a b i) d)) (sym (was _ _ a b j s))
            (any_two l pairs (from a b i) (from a b j) d (from_apart a b i j less) (from_within a b i (length l) h k (omega arith)) (from_within a b j (length l) h k (omega arith))))

-- if the second row is clear of the first, the first is clear of the second
clear_flips : (p q : Place) → Clear p q → Clear q p
clear_flips p q c h =
    ⊎_elim
    (λ (l : q.start < end_of p). let e = c l in absurd (omega arith))
    (λ (l : end_of p ≤ q.start). l)
    (cases_lt q.start (end_of p))

pub Apart-permutation : (ps qs : List Place) → IsPermutation ps qs → Apart ps → Apart qs
Apart-permutation = AllPairs-permutation Clear clear_flips
