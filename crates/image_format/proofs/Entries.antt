-- Lists of files that grow at the end.
use Rattle.std.proofs.Common.{◌≡◌, ℕ, ◌+◌, ◌-◌, ◌<◌, ◌≤◌, Bool, true, false, cond, eqb, ltb, List, [], ◌∷◌, ◌++◌, length, Some, None, Option, sym, refl, ap, ◌∙◌, arith}
use Rattle.std.proofs.lemmas.Bool.{eqb-true, ltb-true, ltb-false}
use Rattle.store.specs.Contents.{File, Entry, total, lookup, next_above}
use Rattle.store.specs.Sound.{Ascending}
use Rattle.image_format.specs.Parsed.{last_of}

pub last_push : (n : ℕ) (es : List Entry) (e : Entry) → last_of n (es ++ (e ∷ [])) ≡ e.number
last_push n [] e = refl
last_push n (x ∷ es) e = last_push x.number es e

pub total_push : (es : List Entry) (e : Entry) → total (es ++ (e ∷ [])) ≡ total es + length e.file.bytes
total_push [] e = omega arith
total_push (x ∷ es) e = omega (arith, total_push es e)

-- the first file whose number is above n
abbrev pub first_above : ℕ → List Entry → Option Entry
first_above n [] = None
first_above n (e ∷ es) = cond (ltb n e.number) (Some e) (first_above n es)

abbrev pub number_of : Option Entry → Option ℕ
number_of None = None
number_of (Some e) = Some e.number

pub next_first : (n : ℕ) (es : List Entry) → next_above n es ≡ number_of (first_above n es)
next_first n [] = refl
next_first n (e ∷ es) = by (next_first n es) (ltb n e.number)
  where
    by : next_above n es ≡ number_of (first_above n es) → (t : Bool) → cond t (Some e.number) (next_above n es) ≡ number_of (cond t (Some e) (first_above n es))
    by rest true = refl
    by rest false = rest

-- the file of this number, if it is the one
abbrev pub file_numbered : ℕ → Option Entry → Option File
file_numbered n None = None
file_numbered n (Some e) = cond (eqb e.number n) (Some e.file) None

-- a number at or below the bound is not there
pub lookup_low : (n m : ℕ) (es : List Entry) → Ascending n es → m ≤ n → lookup m es ≡ None
lookup_low n m [] k h = refl
lookup_low n m (x ∷ es) k h = by (lookup_low x.number m es k.1 (omega arith)) (eqb x.number m) refl
  where
    by : lookup m es ≡ None → (t : Bool) → eqb x.number m ≡ t → cond t (Some x.file) (lookup m es) ≡ None
    by rest true q = absurd (omega (arith, eqb-true x.number m q))
    by rest false q = rest

-- looking up goes to the first file that is not below the number
pub lookup_first : (lo n : ℕ) (es : List Entry) → Ascending lo es → lookup n es ≡ file_numbered n (first_above (n - 1) es)
lookup_first lo n [] k = refl
lookup_first lo n (x ∷ es) k =
    by (lookup_first x.number n es k.1) (λ l. lookup_low x.number n es k.1 l) (ltb (n - 1) x.number) refl (eqb x.number n) refl
  where
    by : lookup n es ≡ file_numbered n (first_above (n - 1) es) → (n ≤ x.number → lookup n es ≡ None)
        → (t : Bool) → ltb (n - 1) x.number ≡ t → (u : Bool) → eqb x.number n ≡ u
        → cond (eqb x.number n) (Some x.file) (lookup n es) ≡ file_numbered n (cond t (Some x) (first_above (n - 1) es))
    by rest low true q true r =
        ap (λ v. cond v (Some x.file) (lookup n es)) r ∙ sym (ap (λ v. cond v (Some x.file) None) r)
    by rest low true q false r =
        ap (λ v. cond v (Some x.file) (lookup n es)) r ∙ low (omega (arith, ltb-true (n - 1) x.number q)) ∙ sym (ap (λ v. cond v (Some x.file) None) r)
    by rest low false q true r = absurd (omega (arith, k.0, ltb-false (n - 1) x.number q, eqb-true x.number n r))
    by rest low false q false r = ap (λ v. cond v (Some x.file) (lookup n es)) r ∙ rest

-- a larger number at the end keeps the order
pub ascending_push : (n : ℕ) (es : List Entry) (e : Entry) → Ascending n es → last_of n es < e.number → Ascending n (es ++ (e ∷ []))
ascending_push n [] e a l = (l, tt)
ascending_push n (x ∷ es) e a l = (a.0, ascending_push x.number es e a.1 l)
