-- What `map` makes of an array, by a closure that gives a function's value and stays as it was.
use Rattle.std.proofs.Common.{◌≡◌, ℕ, zero, suc, ◌+◌, List, ◌∷◌, length, map, drop, sym, ap, ◌∙◌, subst, arith}
use Rattle.std.proofs.lemmas.List.{at_drop_more, at_drop_all}
use Rattle.std.specs.Array.{IsMapOf, MapsFrom}
use Rattle.std.specs.Fn.{Called}
use denote.Param.Members.{Mut}

module _ {F A B : Type 0} (g : Mut F (A × Unit {0}) B) (h : A → B) (f : F) (step : (x : A) (y : B) (f' : F) → Called g f (x, tt) y f' → (y ≡ h x) × (f' ≡ f)) where
  mapped_from : (xs : List A) (ys : List B) (i n : ℕ) → length xs ≡ i + n → length ys ≡ i + n → MapsFrom g f xs ys i n → drop i ys ≡ map h (drop i xs)
  mapped_from xs ys i zero a b m = at_drop_all (λ l. l) ys i (omega arith) ∙ ap (map h) (sym (at_drop_all (λ l. l) xs i (omega arith)))
  mapped_from xs ys i (suc n) a b (q, x, y, at_x, at_y, called, more) =
      let s = step x y q called in
      let rest = mapped_from xs ys (i + 1) n (omega arith) (omega arith) (subst (λ r. MapsFrom g r xs ys (i + 1) n) s.1 more) in
      at_drop_more (λ l. l) ys i y (omega arith)
      ∙ (λ j. (at_y.0 ∙ s.0 ∙ ap h (sym at_x.0)) j ∷ rest j)
      ∙ ap (map h) (sym (at_drop_more (λ l. l) xs i x (omega arith)))

  pub mapped : (xs : List A) (ys : List B) → IsMapOf g f xs ys (length xs) → ys ≡ map h xs
  mapped xs ys m = mapped_from xs ys 0 (length xs) (omega arith) (omega (arith, m.long)) m.each
