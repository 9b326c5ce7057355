-- Ascending lists of files: what looking up, inserting and leaving out do to them.
use Rattle.std.proofs.Common.{◌≡◌, ℕ, suc, ◌+◌, ◌<◌, ◌≤◌, Bool, true, false, cond, eqb, ltb, ◌⊎◌, List, [], ◌∷◌, length, Some, None, Option, sym, refl, ap, ◌∙◌, subst, inl, inr, arith}
use Rattle.std.specs.List.{AllByRecursion}
use Rattle.std.proofs.lemmas.Bool.{eqb-true, eqb-false, ltb-true, ltb-false, eq-eqb, ne_eqb, cases_eq, cases_order, or_parts}
use Rattle.byte_parts.proofs.Cutting.{none_some, some_same}
use Rattle.store.specs.Contents.{File, Entry, total, lookup}
use Rattle.store.specs.Sound.{Ascending, EachFile}
use Rattle.store.specs.Changes.{inserted, without, has_children}

abbrev pub entry : ℕ → File → Entry
entry n f = record { number = n; file = f }

pub lookup_here : (x : Entry) (xs : List Entry) (n : ℕ) → x.number ≡ n → lookup n (x ∷ xs) ≡ Some x.file
lookup_here x xs n e = subst (λ t. cond t (Some x.file) (lookup n xs) ≡ Some x.file) (sym (eq-eqb x.number n e)) refl

pub lookup_past : (x : Entry) (xs : List Entry) (n : ℕ) → (x.number ≡ n → ⊥) → lookup n (x ∷ xs) ≡ lookup n xs
lookup_past x xs n e = subst (λ t. cond t (Some x.file) (lookup n xs) ≡ lookup n xs) (sym (ne_eqb x.number n e)) refl

pub ascending_less : (a b : ℕ) (es : List Entry) → a ≤ b → Ascending b es → Ascending a es
ascending_less a b [] h k = tt
ascending_less a b (e ∷ es) h k = (omega (arith, k.0), k.1)

-- nothing is found below the first
pub lookup_low : (n m : ℕ) (es : List Entry) → Ascending n es → m ≤ n → lookup m es ≡ None
lookup_low n m [] k h = refl
lookup_low n m (x ∷ es) k h =
    lookup_past x es m (λ e. omega (arith, k.0)) ∙ lookup_low x.number m es k.1 (omega (arith, k.0))

-- what is found is above the bound
pub found_above : (lo n : ℕ) (f : File) (es : List Entry) → Ascending lo es → lookup n es ≡ Some f → lo < n
found_above lo n f [] k e = absurd (none_some e)
found_above lo n f (x ∷ es) k e = by (cases_eq x.number n) (found_above x.number n f es k.1)
  where
    by : (x.number ≡ n) ⊎ (x.number ≡ n → ⊥) → (lookup n es ≡ Some f → x.number < n) → lo < n
    by (inl q) rest = omega (arith, k.0)
    by (inr q) rest = let l = rest (sym (lookup_past x es n q) ∙ e) in omega (arith, k.0)

-- inserting
pub find_added : (n : ℕ) (f : File) (es : List Entry) → lookup n es ≡ None → lookup n (inserted n f es) ≡ Some f
find_added n f [] e = lookup_here (entry n f) [] n refl
find_added n f (x ∷ es) e = by (λ k. find_added n f es k) (ltb n x.number) (cases_eq x.number n)
  where
    by : (lookup n es ≡ None → lookup n (inserted n f es) ≡ Some f) → (t : Bool) → (x.number ≡ n) ⊎ (x.number ≡ n → ⊥)
        → lookup n (cond t (entry n f ∷ (x ∷ es)) (x ∷ inserted n f es)) ≡ Some f
    by h true o = lookup_here (entry n f) (x ∷ es) n refl
    by h false (inl q) = absurd (none_some (sym e ∙ lookup_here x es n q))
    by h false (inr q) = lookup_past x (inserted n f es) n q ∙ h (sym (lookup_past x es n q) ∙ e)

pub find_other : (n m : ℕ) (f : File) (es : List Entry) → (m ≡ n → ⊥) → lookup m (inserted n f es) ≡ lookup m es
find_other n m f [] q = lookup_past (entry n f) [] m (λ e. q (sym e))
find_other n m f (x ∷ es) q = by (find_other n m f es q) (ltb n x.number)
  where
    by : lookup m (inserted n f es) ≡ lookup m es → (t : Bool) → lookup m (cond t (entry n f ∷ (x ∷ es)) (x ∷ inserted n f es)) ≡ lookup m (x ∷ es)
    by h true = lookup_past (entry n f) (x ∷ es) m (λ e. q (sym e))
    by h false = ap (λ (o : Option File). cond (eqb x.number m) (Some x.file) o) h

pub ascending_inserted : (n : ℕ) (f : File) (lo : ℕ) (es : List Entry) → Ascending lo es → lo < n → lookup n es ≡ None → Ascending lo (inserted n f es)
ascending_inserted n f lo [] k h e = (h, tt)
ascending_inserted n f lo (x ∷ es) k h e =
    by (λ a b. ascending_inserted n f x.number es k.1 a b) (ltb n x.number) refl (cases_eq x.number n)
  where
    by : (x.number < n → lookup n es ≡ None → Ascending x.number (inserted n f es)) → (t : Bool) → ltb n x.number ≡ t
        → (x.number ≡ n) ⊎ (x.number ≡ n → ⊥) → Ascending lo (cond t (entry n f ∷ (x ∷ es)) (x ∷ inserted n f es))
    by rest true q o = (h, (ltb-true n x.number q, k.1))
    by rest false q (inl r) = absurd (none_some (sym e ∙ lookup_here x es n r))
    by rest false q (inr r) =
        let l : x.number < n = by_order (cases_order x.number n) r (ltb-false n x.number q) in
        (k.0, rest l (sym (lookup_past x es n r) ∙ e))
      where
        by_order : (x.number ≡ n) ⊎ ((x.number < n) ⊎ (n < x.number)) → (x.number ≡ n → ⊥) → x.number ≤ n → x.number < n
        by_order (inl e) r l = absurd (r e)
        by_order (inr (inl h)) r l = h
        by_order (inr (inr h)) r l = absurd (omega arith)

pub length_inserted : (n : ℕ) (f : File) (es : List Entry) → length (inserted n f es) ≡ suc (length es)
length_inserted n f [] = refl
length_inserted n f (x ∷ es) = by (length_inserted n f es) (ltb n x.number)
  where
    by : length (inserted n f es) ≡ suc (length es) → (t : Bool) → length (cond t (entry n f ∷ (x ∷ es)) (x ∷ inserted n f es)) ≡ suc (suc (length es))
    by h true = refl
    by h false = ap suc h

pub total_inserted : (n : ℕ) (f : File) (es : List Entry) → total (inserted n f es) ≡ total es + length f.bytes
total_inserted n f [] = omega arith
total_inserted n f (x ∷ es) = by (total_inserted n f es) (ltb n x.number)
  where
    by : total (inserted n f es) ≡ total es + length f.bytes → (t : Bool)
        → total (cond t (entry n f ∷ (x ∷ es)) (x ∷ inserted n f es)) ≡ (length x.file.bytes + total es) + length f.bytes
    by h true = omega arith
    by h false = omega arith

-- leaving out
pub find_removed : (n lo : ℕ) (es : List Entry) → Ascending lo es → lookup n (without n es) ≡ None
find_removed n lo [] k = refl
find_removed n lo (x ∷ es) k = by (find_removed n x.number es k.1) (eqb x.number n) refl
  where
    by : lookup n (without n es) ≡ None → (t : Bool) → eqb x.number n ≡ t → lookup n (cond t es (x ∷ without n es)) ≡ None
    by h true q = lookup_low x.number n es k.1 (omega (arith, eqb-true x.number n q))
    by h false q = lookup_past x (without n es) n (eqb-false x.number n q) ∙ h

pub find_kept : (n m : ℕ) (es : List Entry) → (m ≡ n → ⊥) → lookup m (without n es) ≡ lookup m es
find_kept n m [] q = refl
find_kept n m (x ∷ es) q = by (find_kept n m es q) (eqb x.number n) refl
  where
    by : lookup m (without n es) ≡ lookup m es → (t : Bool) → eqb x.number n ≡ t → lookup m (cond t es (x ∷ without n es)) ≡ lookup m (x ∷ es)
    by h true u = sym (lookup_past x es m (λ e. q (sym e ∙ eqb-true x.number n u)))
    by h false u = ap (λ (o : Option File). cond (eqb x.number m) (Some x.file) o) h

pub ascending_without : (n lo : ℕ) (es : List Entry) → Ascending lo es → Ascending lo (without n es)
ascending_without n lo [] k = tt
ascending_without n lo (x ∷ es) k = by (ascending_without n x.number es k.1) (eqb x.number n)
  where
    by : Ascending x.number (without n es) → (t : Bool) → Ascending lo (cond t es (x ∷ without n es))
    by rest true = ascending_less lo x.number es (omega (arith, k.0)) k.1
    by rest false = (k.0, rest)

pub sizes_without : (n : ℕ) (es : List Entry) → (length (without n es) ≤ length es) × (total (without n es) ≤ total es)
sizes_without n [] = (omega arith, omega arith)
sizes_without n (x ∷ es) = by (sizes_without n es) (eqb x.number n)
  where
    by : (length (without n es) ≤ length es) × (total (without n es) ≤ total es) → (t : Bool)
        → (length (cond t es (x ∷ without n es)) ≤ suc (length es)) × (total (cond t es (x ∷ without n es)) ≤ length x.file.bytes + total es)
    by h true = (omega arith, omega arith)
    by h false = (omega (arith, h.0), omega (arith, h.1))

-- a number without children is no file's parent
pub childless : (n m : ℕ) (f : File) (es : List Entry) → has_children n es ≡ false → lookup m es ≡ Some f → f.parent ≡ n → ⊥
childless n m f [] h e q = absurd (none_some e)
childless n m f (x ∷ es) h e q =
    let p = or_parts (eqb x.file.parent n) (has_children n es) h in
    by p.0 (childless n m f es p.1) (cases_eq x.number m)
  where
    by : eqb x.file.parent n ≡ false → (lookup m es ≡ Some f → f.parent ≡ n → ⊥) → (x.number ≡ m) ⊎ (x.number ≡ m → ⊥) → ⊥
    by a rest (inl r) =
        let g : x.file ≡ f = some_same (sym (lookup_here x es m r) ∙ e) in
        eqb-false x.file.parent n a (ap (λ (y : File). y.parent) g ∙ q)
    by a rest (inr r) = rest (sym (lookup_past x es m r) ∙ e) q

-- two ascending lists in which each number finds the same are one list
abbrev pub SameFinds : List Entry → List Entry → Type 0
SameFinds xs ys = (n : ℕ) → lookup n xs ≡ lookup n ys

same_first : (x y : Entry) (xs ys : List Entry) → Ascending y.number ys → SameFinds (x ∷ xs) (y ∷ ys) → x.number < y.number → ⊥
same_first x y xs ys b s l =
    none_some (sym (lookup_low x.number x.number (y ∷ ys) (l, b) (omega arith)) ∙ sym (s x.number) ∙ lookup_here x xs x.number refl)

same_rest : (x y : Entry) (xs ys : List Entry) → Ascending x.number xs → Ascending y.number ys → x.number ≡ y.number → SameFinds (x ∷ xs) (y ∷ ys) → SameFinds xs ys
same_rest x y xs ys a b e s n = by (cases_eq x.number n)
  where
    by : (x.number ≡ n) ⊎ (x.number ≡ n → ⊥) → lookup n xs ≡ lookup n ys
    by (inl h) = lookup_low x.number n xs a (omega arith) ∙ sym (lookup_low y.number n ys b (omega arith))
    by (inr h) = sym (lookup_past x xs n h) ∙ s n ∙ lookup_past y ys n (λ k. h (e ∙ k))

pub same_files : (lo : ℕ) (xs ys : List Entry) → Ascending lo xs → Ascending lo ys → SameFinds xs ys → xs ≡ ys
same_files lo [] [] a b s = refl
same_files lo [] (y ∷ ys) a b s = absurd (none_some (s y.number ∙ lookup_here y ys y.number refl))
same_files lo (x ∷ xs) [] a b s = absurd (none_some (sym (s x.number) ∙ lookup_here x xs x.number refl))
same_files lo (x ∷ xs) (y ∷ ys) a b s =
    let e : x.number ≡ y.number = by (cases_order x.number y.number) in
    let f : x.file ≡ y.file = some_same (sym (lookup_here x xs x.number refl) ∙ s x.number ∙ lookup_here y ys x.number (sym e)) in
    let r : xs ≡ ys = same_files x.number xs ys a.1 (subst (λ m. Ascending m ys) (sym e) b.1) (same_rest x y xs ys a.1 b.1 e s) in
    λ i. record { number = e i; file = f i } ∷ r i
  where
    by : (x.number ≡ y.number) ⊎ ((x.number < y.number) ⊎ (y.number < x.number)) → x.number ≡ y.number
    by (inl e) = e
    by (inr (inl l)) = absurd (same_first x y xs ys b.1 s l)
    by (inr (inr l)) = absurd (same_first y x ys xs a.1 (λ n. sym (s n)) l)

-- a fact of each entry is one of every file
pub each_from : (P : ℕ → File → Type 0) (es : List Entry) → AllByRecursion (λ (e : Entry). P e.number e.file) es → EachFile es P
each_from P [] a n f e = absurd (none_some e)
each_from P (x ∷ es) a n f e = by (each_from P es a.1 n f) (cases_eq x.number n)
  where
    by : (lookup n es ≡ Some f → P n f) → (x.number ≡ n) ⊎ (x.number ≡ n → ⊥) → P n f
    by rest (inl q) = subst (λ m. P m f) q (subst (λ g. P x.number g) (some_same (sym (lookup_here x es n q) ∙ e)) a.0)
    by rest (inr q) = rest (sym (lookup_past x es n q) ∙ e)
