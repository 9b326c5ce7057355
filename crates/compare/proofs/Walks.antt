-- Two ascending lists of files that have as many files, each of which is found in the other.
use Rattle.std.proofs.Common.{◌≡◌, ℕ, ◌<◌, ◌≤◌, Bool, true, false, List, [], ◌∷◌, length, Some, Decides, sym, refl, ap, ◌∙◌, subst, ⊎_elim, arith}
use Rattle.std.specs.Bool.{MatchBool}
use Rattle.std.specs.List.{AllByRecursion, AllWithin, HoldsAt}
use Rattle.std.proofs.lemmas.Bool.{cases_eq, cases_order}
use Rattle.std.proofs.lemmas.List.Elements.{All-from_all_within, recursion_from_All}
use Rattle.byte_parts.proofs.Cutting.{none_some, some_same}
use Rattle.store.specs.Contents.{File, Entry, lookup}
use Rattle.store.specs.Sound.{Ascending}
use Rattle.store.specs.Walks.{numbers}
use Rattle.store.proofs.Lookups.{lookup_here, lookup_past, lookup_low, found_above}

-- what one list finds, the other finds
abbrev Finds : List Entry → List Entry → Type 0
Finds xs ys = (n : ℕ) (f : File) → lookup n xs ≡ Some f → lookup n ys ≡ Some f

-- the numbers of a list are those that it finds
walked : (P : ℕ → Type 0) (xs : List Entry) → AllByRecursion P (numbers xs) → (n : ℕ) (f : File) → lookup n xs ≡ Some f → P n
walked P [] a n f e = absurd (none_some e)
walked P (x ∷ xs) a n f e =
    ⊎_elim
    (λ (q : x.number ≡ n). subst P q a.0)
    (λ (q : x.number ≡ n → ⊥). walked P xs a.1 n f (sym (lookup_past x xs n q) ∙ e))
    (cases_eq x.number n)

-- what the first of one list finds, in the rest of the other
behind : (lo : ℕ) (x : Entry) (xs ys : List Entry) → Ascending lo xs → Finds xs (x ∷ ys) → x.number ≤ lo → Finds xs ys
behind lo x xs ys a h low n f e =
    let up = found_above lo n f xs a e in
    sym (lookup_past x ys n (λ (q : x.number ≡ n). omega arith)) ∙ h n f e

not_first : (x y : Entry) (xs ys : List Entry) → Finds (x ∷ xs) (y ∷ ys) → Ascending y.number ys → x.number < y.number → ⊥
not_first x y xs ys h b l = none_some (sym (lookup_low x.number x.number (y ∷ ys) (l, b) (omega arith)) ∙ h x.number x.file (lookup_here x xs x.number refl))

tails : (x y : Entry) (xs ys : List Entry) → Ascending x.number xs → Finds (x ∷ xs) (y ∷ ys) → x.number ≡ y.number → Finds xs ys
tails x y xs ys a h q =
    behind x.number y xs ys a
    (λ n f e. h n f (let up = found_above x.number n f xs a e in lookup_past x xs n (λ (s : x.number ≡ n). omega arith) ∙ e))
    (omega arith)

no_more : (xs ys : List Entry) (lo low : ℕ) → Ascending lo xs → Ascending low ys → Finds xs ys → length xs ≤ length ys
no_more [] ys lo low a b h = omega arith
no_more (x ∷ xs) [] lo low a b h = absurd (none_some (h x.number x.file (lookup_here x xs x.number refl)))
no_more (x ∷ xs) (y ∷ ys) lo low a b h =
    ⊎_elim
    (λ (q : x.number ≡ y.number). let l = no_more xs ys x.number y.number a.1 b.1 (tails x y xs ys a.1 h q) in omega arith)
    (⊎_elim
    (λ (l : x.number < y.number). absurd (not_first x y xs ys h b.1 l))
    (λ (l : y.number < x.number). let m = no_more (x ∷ xs) ys y.number y.number (l, a.1) b.1 (behind y.number y (x ∷ xs) ys (l, a.1) h (omega arith)) in omega arith))
    (cases_order x.number y.number)

same : (xs ys : List Entry) (lo low : ℕ) → Ascending lo xs → Ascending low ys → Finds xs ys → length xs ≡ length ys → xs ≡ ys
same [] [] lo low a b h e = refl
same [] (y ∷ ys) lo low a b h e = absurd (omega arith)
same (x ∷ xs) [] lo low a b h e = absurd (omega arith)
same (x ∷ xs) (y ∷ ys) lo low a b h e =
    ⊎_elim
    (λ (q : x.number ≡ y.number).
    let f : x.file ≡ y.file = some_same (sym (h x.number x.file (lookup_here x xs x.number refl)) ∙ lookup_here y ys x.number (sym q)) in
    let rest = same xs ys x.number y.number a.1 b.1 (tails x y xs ys a.1 h q) (omega arith) in
    (λ i. record { number = q i; file = f i } ∷ rest i))
    (⊎_elim
    (λ (l : x.number < y.number). absurd (not_first x y xs ys h b.1 l))
    (λ (l : y.number < x.number).
    let m = no_more (x ∷ xs) ys y.number y.number (l, a.1) b.1 (behind y.number y (x ∷ xs) ys (l, a.1) h (omega arith)) in
    absurd (omega arith)))
    (cases_order x.number y.number)

-- a walk over the numbers of one list, which asks of each whether the other finds the same
pub walk_decides : (xs ys : List Entry) → Ascending 0 xs → Ascending 0 ys → length xs ≡ length ys → (left : List ℕ) → left ≡ numbers xs → (r : Bool)
    → MatchBool r (AllWithin (λ n. lookup n xs ≡ lookup n ys) left 0 (length left)) ((k : ℕ) × (k < length left) × HoldsAt (λ n. lookup n xs ≡ lookup n ys → ⊥) left k)
    → Decides r (xs ≡ ys)
walk_decides xs ys a b count left is true all = (
  (λ _. same xs ys 0 0 a b (λ n f e. sym (walked (λ m. lookup m xs ≡ lookup m ys) xs each n f e) ∙ e) count),
  (λ _. refl),
)
  where
    each : AllByRecursion (λ m. lookup m xs ≡ lookup m ys) (numbers xs)
    each = subst (AllByRecursion (λ m. lookup m xs ≡ lookup m ys)) is (recursion_from_All (λ m. lookup m xs ≡ lookup m ys) left (All-from_all_within (λ m. lookup m xs ≡ lookup m ys) left all))
walk_decides xs ys a b count left is false (k, inside, other) = ((λ e. absurd (cc)), (λ e. absurd (other 0 (ap (lookup _) e))))
