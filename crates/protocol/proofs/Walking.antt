-- Listings by the next-file question.
use Rattle.std.proofs.Common.{◌≡◌, ℕ, ◌+◌, ◌≤◌, Bool, true, false, cond, List, [], ◌∷◌, map, filter, sym, refl, ap, ◌∙◌, subst, arith}
use Rattle.byte_parts.proofs.Cutting.{none_some, some_same}
use Rattle.store.specs.Contents.{File, Entry, lookup}
use Rattle.store.specs.Sound.{Ascending}
use Rattle.store.specs.Laws.{Walk}
use Rattle.store.proofs.Lookups.{lookup_here, lookup_past}
use Rattle.store.proofs.Told.{numbers_walked}
use Rattle.protocol.specs.Looking.{handles_on}
use Rattle.protocol.specs.Listing.{passes, ListingsWalked}

-- a walk gives just one list
walk_same : (es : List Entry) (n : ℕ) (ms ks : List ℕ) → Walk es n ms → Walk es n ks → ms ≡ ks
walk_same es n [] [] v w = refl
walk_same es n [] (k ∷ ks) v w = absurd (none_some (sym v ∙ w.0))
walk_same es n (m ∷ ms) [] v w = absurd (none_some (sym w ∙ v.0))
walk_same es n (m ∷ ms) (k ∷ ks) v w =
    let e : m ≡ k = some_same (sym v.0 ∙ w.0) in
    let r = walk_same es m ms ks v.1 (subst (λ i. Walk es i ks) (sym e) w.1) in
    λ i. e i ∷ r i

abbrev numbers : List Entry → List ℕ
numbers es = map (λ (e : Entry). e.number) es

-- what is kept by lookups in a longer list is kept by those in the rest, if the numbers are above the first
kept_rest : (test : File → Bool) (x : Entry) (whole es : List Entry) (lo : ℕ) → x.number ≤ lo → Ascending lo es
    → filter (λ n. passes test (lookup n (x ∷ whole))) (numbers es) ≡ filter (λ n. passes test (lookup n whole)) (numbers es)
kept_rest test x whole [] lo l a = refl
kept_rest test x whole (y ∷ es) lo l a =
    let r = kept_rest test x whole es y.number (omega (arith, a.0)) a.1 in
    let e : passes test (lookup y.number (x ∷ whole)) ≡ passes test (lookup y.number whole) = ap (passes test) (lookup_past x whole y.number (λ q. omega (arith, a.0))) in
    λ i. cond (e i) (y.number ∷ r i) (r i)

kept_listed : (base : ℕ) (test : File → Bool) (lo : ℕ) (es : List Entry) → Ascending lo es
    → handles_on base test es ≡ map (λ n. base + n) (filter (λ n. passes test (lookup n es)) (numbers es))
kept_listed base test lo [] a = refl
kept_listed base test lo (x ∷ es) a =
    let r = kept_listed base test x.number es a.1 in
    let k = kept_rest test x es es x.number (omega arith) a.1 in
    let e : passes test (lookup x.number (x ∷ es)) ≡ test x.file = ap (passes test) (lookup_here x es x.number refl) in
    (λ i. cond (test x.file) ((base + x.number) ∷ r i) (r i))
    ∙ by (test x.file) (filter (λ n. passes test (lookup n es)) (numbers es))
    ∙ λ i. map (λ n. base + n) (cond (sym e i) (x.number ∷ sym k i) (sym k i))
  where
    by : (t : Bool) (ks : List ℕ) → cond t ((base + x.number) ∷ map (λ n. base + n) ks) (map (λ n. base + n) ks) ≡ map (λ n. base + n) (cond t (x.number ∷ ks) ks)
    by true ks = refl
    by false ks = refl

pub listings_walked : ListingsWalked
listings_walked c s base test ns w =
    kept_listed base test 0 c.files s.ascending
    ∙ ap (λ ms. map (λ n. base + n) (filter (λ n. passes test (lookup n c.files)) ms)) (walk_same c.files 0 (numbers c.files) ns (numbers_walked c s) w)
