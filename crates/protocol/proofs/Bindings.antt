-- Lists of bindings: who is bound, and to what.
use Rattle.std.proofs.Common.{◌≡◌, ℕ, ◌+◌, ◌<◌, ◌≤◌, ◌⊎◌, List, [], ◌∷◌, ◌++◌, Some, sym, refl, ap, ◌∙◌, inl, inr, arith}
use Rattle.std.specs.List.{AllByRecursion}
use Rattle.std.proofs.lemmas.Bool.{cases_eq}
use Rattle.byte_parts.proofs.Cutting.{none_some, some_same}
use Rattle.store.specs.Contents.{File, Entry, lookup}
use Rattle.store.specs.Sound.{Ascending}
use Rattle.store.specs.Laws.{Below}
use Rattle.store.proofs.Lookups.{lookup_here, lookup_past}
use Rattle.protocol.specs.Storages.{second_base}
use Rattle.protocol.specs.Keeping.{Binding, bound_on, Bound, Unbound, Once, NotAmong}

-- handles below a number, or on the second storage
abbrev pub Apart : ℕ → List Binding → Type 0
Apart n bs = AllByRecursion (λ (b : Binding). (b.handle < n) ⊎ (second_base ≤ b.handle)) bs

pub apart_more : (a b : ℕ) (bs : List Binding) → a ≤ b → Apart a bs → Apart b bs
apart_more a b [] h k = tt
apart_more a b (x ∷ bs) h k = (by k.0, apart_more a b bs h k.1)
  where
    by : (x.handle < a) ⊎ (second_base ≤ x.handle) → (x.handle < b) ⊎ (second_base ≤ x.handle)
    by (inl l) = inl (omega arith)
    by (inr l) = inr l

pub below_more : (a b : ℕ) (ns : List ℕ) → a ≤ b → AllByRecursion (λ n. n < a) ns → AllByRecursion (λ n. n < b) ns
below_more a b [] h k = tt
below_more a b (n ∷ ns) h k = (omega (arith, k.0), below_more a b ns h k.1)

pub apart_unbound : (n : ℕ) (bs : List Binding) → n < second_base → Apart n bs → Unbound n bs
apart_unbound n [] h k = tt
apart_unbound n (b ∷ bs) h k = (by k.0, apart_unbound n bs h k.1)
  where
    by : (b.handle < n) ⊎ (second_base ≤ b.handle) → b.handle ≡ n → ⊥
    by (inl l) e = omega arith
    by (inr l) e = omega arith

pub below_not_among : (n : ℕ) (ns : List ℕ) → AllByRecursion (λ m. m < n) ns → NotAmong n ns
below_not_among n [] k = tt
below_not_among n (m ∷ ns) k = ((λ e. omega (arith, k.0)), below_not_among n ns k.1)

-- at the opening
pub bound_found : (base n : ℕ) (f : File) (es : List Entry) → lookup n es ≡ Some f → Bound (base + n) f.bytes (bound_on base es)
bound_found base n f [] e = absurd (none_some e)
bound_found base n f (x ∷ es) e = by (λ r. bound_found base n f es r) (cases_eq x.number n)
  where
    by : (lookup n es ≡ Some f → Bound (base + n) f.bytes (bound_on base es)) → (x.number ≡ n) ⊎ (x.number ≡ n → ⊥)
        → Bound (base + n) f.bytes (bound_on base (x ∷ es))
    by rest (inl q) = inl (omega arith, ap (λ (g : File). g.bytes) (some_same (sym (lookup_here x es n q) ∙ e)))
    by rest (inr q) = inr (rest (sym (lookup_past x es n q) ∙ e))

pub bound_left : (h : ℕ) (xs : List ℕ) (bs ds : List Binding) → Bound h xs bs → Bound h xs (bs ++ ds)
bound_left h xs [] ds k = absurd k
bound_left h xs (b ∷ bs) ds (inl e) = inl e
bound_left h xs (b ∷ bs) ds (inr k) = inr (bound_left h xs bs ds k)

pub bound_right : (h : ℕ) (xs : List ℕ) (bs ds : List Binding) → Bound h xs ds → Bound h xs (bs ++ ds)
bound_right h xs [] ds k = k
bound_right h xs (b ∷ bs) ds k = inr (bound_right h xs bs ds k)

unbound_low : (h base lo : ℕ) (es : List Entry) → Ascending lo es → h ≤ base + lo → Unbound h (bound_on base es)
unbound_low h base lo [] k l = tt
unbound_low h base lo (x ∷ es) k l = ((λ e. omega (arith, k.0)), unbound_low h base x.number es k.1 (omega (arith, k.0)))

once_on : (base lo : ℕ) (es : List Entry) → Ascending lo es → Once (bound_on base es)
once_on base lo [] k = tt
once_on base lo (x ∷ es) k = (unbound_low (base + x.number) base x.number es k.1 (omega arith), once_on base x.number es k.1)

unbound_both : (h lo : ℕ) (es : List Entry) (ds : List Binding) → Ascending lo es → h ≤ lo → Unbound h ds → Unbound h (bound_on 0 es ++ ds)
unbound_both h lo [] ds k l m = m
unbound_both h lo (x ∷ es) ds k l m = ((λ e. omega (arith, k.0)), unbound_both h x.number es ds k.1 (omega (arith, k.0)) m)

-- what is below a bound in a list is below it in its rest
below_rest : (b lo : ℕ) (x : Entry) (es : List Entry) → Ascending lo (x ∷ es) → Below b (x ∷ es) → (x.number < b) × Below b es
below_rest b lo x es a k = (k x.number x.file (lookup_here x es x.number refl), rest)
  where
    rest : Below b es
    rest n f e = by (cases_eq x.number n)
      where
        by : (x.number ≡ n) ⊎ (x.number ≡ n → ⊥) → n < b
        by (inl q) = absurd (none_some (sym (Rattle.store.proofs.Lookups.lookup_low x.number n es a.1 (omega arith)) ∙ e))
        by (inr q) = k n f (lookup_past x es n q ∙ e)

pub once_both : (lo : ℕ) (es gs : List Entry) → Ascending lo es → Below second_base es → Ascending 0 gs → Once (bound_on 0 es ++ bound_on second_base gs)
once_both lo [] gs k b g = once_on second_base 0 gs g
once_both lo (x ∷ es) gs k b g =
    let r = below_rest second_base lo x es k b in (
      unbound_both (0 + x.number) x.number es (bound_on second_base gs) k.1 (omega arith)
          (unbound_low (0 + x.number) second_base 0 gs g (omega (arith, r.0))),
      once_both x.number es gs k.1 r.1 g,
    )

apart_high : (n : ℕ) (gs : List Entry) → Apart n (bound_on second_base gs)
apart_high n [] = tt
apart_high n (x ∷ gs) = (inr (omega arith), apart_high n gs)

pub apart_both : (n lo : ℕ) (es gs : List Entry) → Ascending lo es → Below n es → Apart n (bound_on 0 es ++ bound_on second_base gs)
apart_both n lo [] gs a b = apart_high n gs
apart_both n lo (x ∷ es) gs a b = let r = below_rest n lo x es a b in (inl (omega (arith, r.0)), apart_both n x.number es gs a.1 r.1)
