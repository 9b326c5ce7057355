-- What lookups tell of a store, and what the next number above another is.
use Rattle.std.proofs.Common.{◌≡◌, ℕ, suc, ◌<◌, ◌≤◌, ltb, ◌⊎◌, List, [], ◌∷◌, map, Some, None, Option, sym, refl, ◌∙◌, subst, inl, inr, arith}
use Rattle.std.proofs.lemmas.Bool.{lt-ltb, le-ltb, cases_eq, cases_lt, cond-true, cond-false}
use Rattle.byte_parts.proofs.Cutting.{none_some, some_same}
use Rattle.store.specs.Contents.{File, Entry, Contents, lookup, next_above}
use Rattle.store.specs.Sound.{Sound, Ascending}
use Rattle.store.specs.Changes.{past_last}
use Rattle.store.specs.Laws.{Below, ToldByLookups, LeastAbove, NextIsLeast, Walk, NumbersWalked, JustPast, PastLast}
use Rattle.store.proofs.Lookups.{same_files, lookup_here, lookup_past, lookup_low, found_above}

pub told_by_lookups : ToldByLookups
told_by_lookups c d sc sd e f s =
    let g = same_files 0 c.files d.files sc.ascending sd.ascending s in
    λ i. record { capacity = e i; limit = f i; files = g i }

-- the next number above n: the first, if that is above n, and else that of the rest
above_first : (n : ℕ) (x : Entry) (es : List Entry) → n < x.number → next_above n (x ∷ es) ≡ Some x.number
above_first n x es h = cond-true (ltb n x.number) _ _ (lt-ltb n x.number h)

above_rest : (n : ℕ) (x : Entry) (es : List Entry) → x.number ≤ n → next_above n (x ∷ es) ≡ next_above n es
above_rest n x es h = cond-false (ltb n x.number) _ _ (le-ltb n x.number h)

least_nil : (n : ℕ) → LeastAbove n [] None
least_nil n = record {
  above = λ m e. absurd (none_some e);
  there = λ m e. absurd (none_some e);
  least = λ m k e _ _. refl;
  else_none = λ k e _. refl;
}

least_first : (n : ℕ) (x : Entry) (es : List Entry) → Ascending x.number es → n < x.number → LeastAbove n (x ∷ es) (Some x.number)
least_first n x es a h = record {
  above = λ m e. let q : x.number ≡ m = some_same e in omega arith;
  there = λ m e. (x.file, lookup_here x es m (some_same e));
  least = λ m k e l g.
      let q : x.number ≡ m = some_same e in
      lookup_past x es k (λ r. omega arith) ∙ lookup_low x.number k es a (omega arith);
  else_none = λ k e l. absurd (none_some (sym e));
}

least_rest : (n : ℕ) (x : Entry) (es : List Entry) (o : Option ℕ) → x.number ≤ n → LeastAbove n es o → LeastAbove n (x ∷ es) o
least_rest n x es o h r = record {
  above = r.above;
  there = λ m e. let l = r.above m e in let t = r.there m e in (t.0, lookup_past x es m (λ q. omega arith) ∙ t.1);
  least = λ m k e l g. lookup_past x es k (λ q. omega arith) ∙ r.least m k e l g;
  else_none = λ k e l. lookup_past x es k (λ q. omega arith) ∙ r.else_none k e l;
}

least_above : (n lo : ℕ) (es : List Entry) → Ascending lo es → LeastAbove n es (next_above n es)
least_above n lo [] a = least_nil n
least_above n lo (x ∷ es) a = by (least_above n x.number es a.1) (cases_lt n x.number)
  where
    by : LeastAbove n es (next_above n es) → (n < x.number) ⊎ (x.number ≤ n) → LeastAbove n (x ∷ es) (next_above n (x ∷ es))
    by rest (inl h) = subst (λ o. LeastAbove n (x ∷ es) o) (sym (above_first n x es h)) (least_first n x es a.1 h)
    by rest (inr h) = subst (λ o. LeastAbove n (x ∷ es) o) (sym (above_rest n x es h)) (least_rest n x es (next_above n es) h rest)

pub next_is_least : NextIsLeast
next_is_least c s n = least_above n 0 c.files s.ascending

-- a walk above the first file is a walk over the rest
walk_rest : (x : Entry) (es : List Entry) (lo n : ℕ) (ms : List ℕ) → Ascending lo es → x.number ≤ n → Walk es n ms → Walk (x ∷ es) n ms
walk_rest x es lo n [] a h w = above_rest n x es h ∙ w
walk_rest x es lo n (m ∷ ms) a h w =
    let l = (least_above n lo es a).above m w.0 in
    (above_rest n x es h ∙ w.0, walk_rest x es lo m ms a (omega arith) w.1)

walked : (lo : ℕ) (es : List Entry) → Ascending lo es → Walk es lo (map (λ (e : Entry). e.number) es)
walked lo [] a = refl
walked lo (x ∷ es) a = (above_first lo x es a.0, walk_rest x es x.number x.number (map (λ (e : Entry). e.number) es) a.1 (omega arith) (walked x.number es a.1))

pub numbers_walked : NumbersWalked
numbers_walked c s = walked 0 c.files s.ascending

-- the number past the last
past_above : (lo : ℕ) (es : List Entry) → Ascending lo es → (lo < past_last (suc lo) es) × Below (past_last (suc lo) es) es
past_above lo [] a = (omega arith, λ n f e. absurd (none_some e))
past_above lo (x ∷ es) a =
    let r = past_above x.number es a.1 in
    (omega (arith, r.0, a.0), below r)
  where
    below : (x.number < past_last (suc x.number) es) × Below (past_last (suc x.number) es) es → Below (past_last (suc x.number) es) (x ∷ es)
    below r n f e = by (cases_eq x.number n)
      where
        by : (x.number ≡ n) ⊎ (x.number ≡ n → ⊥) → n < past_last (suc x.number) es
        by (inl q) = omega (arith, r.0)
        by (inr q) = r.1 n f (sym (lookup_past x es n q) ∙ e)

-- it is one more than the number before, or than one that is there
past_found : (lo : ℕ) (es : List Entry) → Ascending lo es
    → (past_last (suc lo) es ≡ suc lo) ⊎ ((m : ℕ) × (f : File) × (past_last (suc lo) es ≡ suc m) × (lookup m es ≡ Some f))
past_found lo [] a = inl refl
past_found lo (x ∷ es) a = by (past_found x.number es a.1)
  where
    by : (past_last (suc x.number) es ≡ suc x.number) ⊎ ((m : ℕ) × (f : File) × (past_last (suc x.number) es ≡ suc m) × (lookup m es ≡ Some f))
        → (past_last (suc x.number) es ≡ suc lo) ⊎ ((m : ℕ) × (f : File) × (past_last (suc x.number) es ≡ suc m) × (lookup m (x ∷ es) ≡ Some f))
    by (inl e) = inr (x.number, x.file, e, lookup_here x es x.number refl)
    by (inr (m, f, e, l)) = let g = found_above x.number m f es a.1 l in inr (m, f, e, lookup_past x es m (λ q. omega arith) ∙ l)

pub past_is : (c : Contents) → Sound c → JustPast c.files (past_last 1 c.files)
past_is c s = record { above = (past_above 0 c.files s.ascending).1; least = past_found 0 c.files s.ascending }

pub past_last_law : PastLast
past_last_law = past_is
