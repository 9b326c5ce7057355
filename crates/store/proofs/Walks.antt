-- What lies above a number, and the step that the next-file question takes there.
use Rattle.std.proofs.Common.{◌≡◌, ℕ, ◌<◌, Bool, true, false, cond, eqb, ltb, List, [], ◌∷◌, Some, None, Option, sym, refl, ap, ◌∙◌, arith}
use Rattle.std.proofs.lemmas.Bool.{ltb-true, ltb-false, lt-ltb, le-ltb, eq-eqb, ne_eqb, cond-true, cond-false}
use Rattle.store.specs.Contents.{File, Entry, lookup, next_above}
use Rattle.store.specs.Sound.{Ascending}
use Rattle.store.specs.Walks.{above}

pub above_all : (n : ℕ) (es : List Entry) → Ascending n es → above n es ≡ es
above_all n [] a = refl
above_all n (e ∷ es) a = cond-true (ltb n e.number) (e ∷ es) (above n es) (lt-ltb n e.number a.0)

pub none_above : (n : ℕ) (es : List Entry) → None ≡ next_above n es → above n es ≡ []
none_above n [] q = refl
none_above n (e ∷ es) q = by (ltb n e.number) refl q (none_above n es)
  where
    by : (t : Bool) → ltb n e.number ≡ t → ◌≡◌ {A = Option ℕ} None (cond t (Some e.number) (next_above n es)) → (None ≡ next_above n es → above n es ≡ []) → cond t (e ∷ es) (above n es) ≡ []
    by true w q ih = let z : ◌≡◌ {A = ℕ} 0 1 = cc in absurd (omega arith)
    by false w q ih = ih q

-- the file that the question finds, and what lies above it
pub record Step (n m : ℕ) (es : List Entry) : Type 0 where
  pub file : File
  pub higher : n < m
  pub there : lookup m es ≡ Some file
  pub first : above n es ≡ record { number = m; file = file } ∷ above m es

pub step : (low n m : ℕ) (es : List Entry) → Ascending low es → Some m ≡ next_above n es → Step n m es
step low n m [] a q = let z : ◌≡◌ {A = ℕ} 0 1 = cc in absurd (omega arith)
step low n m (e ∷ es) a q = by (ltb n e.number) refl q (step e.number n m es a.1)
  where
    by : (t : Bool) → ltb n e.number ≡ t → ◌≡◌ {A = Option ℕ} (Some m) (cond t (Some e.number) (next_above n es))
        → (Some m ≡ next_above n es → Step n m es) → Step n m (e ∷ es)
    by true w q ih =
        let same : m ≡ e.number = cc in
        let l = ltb-true n e.number w in
        record {
          file = e.file;
          higher = omega arith;
          there = cond-true (eqb e.number m) (Some e.file) (lookup m es) (eq-eqb e.number m (sym same));
          first =
              ap (λ t. cond t (e ∷ es) (above n es)) w
              ∙ ap (λ k. record { number = k; file = e.file } ∷ es) (sym same)
              ∙ ap (λ z. record { number = m; file = e.file } ∷ z)
              (sym (cond-false (ltb m e.number) (e ∷ es) (above m es) (le-ltb m e.number (omega arith))
              ∙ ap (λ k. above k es) same ∙ above_all e.number es a.1));
        }
    by false w q ih =
        let s = ih q in
        let l = ltb-false n e.number w in
        let h = s.higher in
        record {
          file = s.file;
          higher = h;
          there = cond-false (eqb e.number m) (Some e.file) (lookup m es) (ne_eqb e.number m (λ (x : e.number ≡ m). omega arith)) ∙ s.there;
          first =
              ap (λ t. cond t (e ∷ es) (above n es)) w ∙ s.first
              ∙ ap (λ z. record { number = m; file = s.file } ∷ z) (sym (cond-false (ltb m e.number) (e ∷ es) (above m es) (le-ltb m e.number (omega arith))));
        }
