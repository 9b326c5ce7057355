-- What the files are that rows and bytes hold, question by question.
use Rattle.std.proofs.Common.{◌≡◌, ℕ, suc, ◌+◌, ◌-◌, ◌<◌, ◌≤◌, Bool, true, false, cond, not, ◌||◌, eqb, ltb, List, [], ◌∷◌, length, get_or, take, drop, map, Some, None, Option, sym, refl, ap, ◌∙◌, arith, length-drop, length-take-le, drop-drop}
use Rattle.std.specs.List.{find, list_any, position, position_or_len}
use Rattle.std.proofs.lemmas.List.Sums.{sum_by-cons, sum_by_more, sum_by_more_le}
use Rattle.std.specs.Option.{option_map}
use Rattle.std.proofs.lemmas.Bool.{ltb-true, ltb-false}
use Rattle.byte_parts.proofs.Cutting.{none_some, through}
use Rattle.store.specs.Contents.{Entry, total, lookup, next_above, bytes_of}
use Rattle.store.specs.Infos.{info_of, described}
use Rattle.store.specs.declared.info.FileInfo.{FileInfo}
use Rattle.store.specs.Changes.{without, has_children}
use Rattle.heap_store.specs.Rows.{taken, file_in, files_in, rank_of}
use Rattle.heap_store.specs.declared.row.Row.{Row}

-- a row has this number
abbrev pub has : ℕ → Row → Bool
has n r = eqb r.number n

pub taken_cons : (r : Row) (rs : List Row) → taken (r ∷ rs) ≡ r.file.length + taken rs
taken_cons r rs = sum_by-cons (λ (x : Row). x.file.length) r rs

pub count_files : (rs : List Row) (bs : List ℕ) → length (files_in rs bs) ≡ length rs
count_files [] bs = refl
count_files (r ∷ rs) bs = ap suc (count_files rs (drop r.file.length bs))

pub total_files : (rs : List Row) (bs : List ℕ) → taken rs ≤ length bs → total (files_in rs bs) ≡ taken rs
total_files [] bs h = refl
total_files (r ∷ rs) bs h =
    let n : ℕ = r.file.length in
    let more = taken_cons r rs in
    let rest : total (files_in rs (drop n bs)) ≡ taken rs = total_files rs (drop n bs) (omega (arith, length-drop n bs)) in
    omega (arith, length-take-le n bs (omega arith))

pub above_files : (n : ℕ) (rs : List Row) (bs : List ℕ) → next_above n (files_in rs bs) ≡ find (λ m. ltb n m) (map (λ (r : Row). r.number) rs)
above_files n [] bs = refl
above_files n (r ∷ rs) bs = ap (λ (o : Option ℕ). cond (ltb n r.number) (Some r.number) o) (above_files n rs (drop r.file.length bs))

pub children_files : (n : ℕ) (rs : List Row) (bs : List ℕ) → has_children n (files_in rs bs) ≡ list_any (λ (r : Row). eqb r.file.parent n) rs
children_files n [] bs = refl
children_files n (r ∷ rs) bs = ap (λ t. eqb r.file.parent n || t) (children_files n rs (drop r.file.length bs))

-- the file of the first row with a number has the bytes behind those of the rows before it
pub lookup_at : (n : ℕ) (rs : List Row) (bs : List ℕ) (d : Row) → position_or_len (has n) rs < length rs
    → lookup n (files_in rs bs) ≡ Some (file_in (get_or rs (position_or_len (has n) rs) d).file (drop (taken (take (position_or_len (has n) rs) rs)) bs))
lookup_at n [] bs d h = absurd (omega arith)
lookup_at n (r ∷ rs) bs d h = by (eqb r.number n) (1 + position_or_len (has n) rs) (omega arith) h (lookup_at n rs (drop r.file.length bs) d)
  where
    i : ℕ
    i = position_or_len (has n) rs

    by : (t : Bool) (j : ℕ) → j ≡ suc i → cond (not t) j 0 < suc (length rs)
        → (i < length rs → lookup n (files_in rs (drop r.file.length bs)) ≡ Some (file_in (get_or rs i d).file (drop (taken (take i rs)) (drop r.file.length bs))))
        → cond t (Some (file_in r.file bs)) (lookup n (files_in rs (drop r.file.length bs)))
        ≡ Some (file_in (get_or (r ∷ rs) (cond (not t) j 0) d).file (drop (taken (take (cond (not t) j 0) (r ∷ rs))) bs))
    by true j e h k = refl
    by false j e h k =
        rw e (k (omega arith)
        ∙ ap (λ z. Some (file_in (get_or rs i d).file z)) (drop-drop (taken (take i rs)) r.file.length bs ∙ ap (λ m. drop m bs) (sym (taken_cons r (take i rs)))))

pub lookup_absent : (n : ℕ) (rs : List Row) (bs : List ℕ) → length rs ≤ position_or_len (has n) rs → lookup n (files_in rs bs) ≡ None
lookup_absent n [] bs h = refl
lookup_absent n (r ∷ rs) bs h = by (eqb r.number n) h (lookup_absent n rs (drop r.file.length bs))
  where
    by : (t : Bool) → suc (length rs) ≤ cond (not t) (1 + position_or_len (has n) rs) 0
        → (length rs ≤ position_or_len (has n) rs → lookup n (files_in rs (drop r.file.length bs)) ≡ None)
        → cond t (Some (file_in r.file bs)) (lookup n (files_in rs (drop r.file.length bs))) ≡ None
    by true h k = absurd (omega arith)
    by false h k = k (omega arith)

pub without_absent : (n : ℕ) (rs : List Row) (bs : List ℕ) → length rs ≤ position_or_len (has n) rs → without n (files_in rs bs) ≡ files_in rs bs
without_absent n [] bs h = refl
without_absent n (r ∷ rs) bs h = by (eqb r.number n) h (without_absent n rs (drop r.file.length bs))
  where
    front : Entry
    front = record { number = r.number; file = file_in r.file bs }

    by : (t : Bool) → suc (length rs) ≤ cond (not t) (1 + position_or_len (has n) rs) 0
        → (length rs ≤ position_or_len (has n) rs → without n (files_in rs (drop r.file.length bs)) ≡ files_in rs (drop r.file.length bs))
        → cond t (files_in rs (drop r.file.length bs)) (front ∷ without n (files_in rs (drop r.file.length bs))) ≡ front ∷ files_in rs (drop r.file.length bs)
    by true h k = absurd (omega arith)
    by false h k = ap (λ z. front ∷ z) (k (omega arith))

-- what a position tells: where the first row with a number is, or that there is none
pub at_first : {X : Type 0} (p : X → Bool) (xs : List X) (i : ℕ) → position p xs ≡ Some i → (position_or_len p xs ≡ i) × (position_or_len p xs < length xs)
at_first p xs i e =
    let r = through (ltb (position_or_len p xs) (length xs)) (position_or_len p xs) i e in
    (r.1, ltb-true (position_or_len p xs) (length xs) r.0)

nowhere : {X : Type 0} (p : X → Bool) (xs : List X) → position p xs ≡ None → length xs ≤ position_or_len p xs
nowhere p xs e = by (ltb (position_or_len p xs) (length xs)) refl e
  where
    by : (t : Bool) → ltb (position_or_len p xs) (length xs) ≡ t → cond t (Some (position_or_len p xs)) None ≡ None → length xs ≤ position_or_len p xs
    by true q e = absurd (none_some (sym e))
    by false q e = ltb-false (position_or_len p xs) (length xs) q

-- the files that the rows and the bytes hold, asked for a number
module _ (n : ℕ) (rs : List Row) (bs : List ℕ) where
  found_at : (i : ℕ) (d : Row) → rank_of n rs ≡ Some i
      → (i < length rs) × (lookup n (files_in rs bs) ≡ Some (file_in (get_or rs i d).file (drop (taken (take i rs)) bs)))
  unfolding rank_of
  found_at i d e = let (at, within) = at_first (has n) rs i e in rw (← at) (within, lookup_at n rs bs d within)

  found_nowhere : rank_of n rs ≡ None → lookup n (files_in rs bs) ≡ None
  unfolding rank_of
  found_nowhere e = lookup_absent n rs bs (nowhere (has n) rs e)

  pub described_at : (i : ℕ) (d : Row) → taken rs ≤ length bs → rank_of n rs ≡ Some i → described n (files_in rs bs) ≡ Some (get_or rs i d).file
  described_at i d h e =
      let (within, is) = found_at i d e in
      let f : FileInfo = (get_or rs i d).file in
      let room = sum_by_more_le (λ (r : Row). r.file.length) rs i d within in
      let long : length (take f.length (drop (taken (take i rs)) bs)) ≡ f.length =
      length-take-le f.length (drop (taken (take i rs)) bs) (omega (arith, length-drop (taken (take i rs)) bs)) in
      ap (option_map info_of) is ∙ (λ k. Some (record { format = f.format; protection = f.protection; parent = f.parent; name = f.name; length = long k }))

  pub described_nowhere : rank_of n rs ≡ None → described n (files_in rs bs) ≡ None
  described_nowhere e = ap (option_map info_of) (found_nowhere e)

  pub bytes_at : (i start end : ℕ) (d : Row) → rank_of n rs ≡ Some i → start ≡ taken (take i rs) → end ≡ taken (take (i + 1) rs)
      → bytes_of (lookup n (files_in rs bs)) ≡ take (end - start) (drop start bs)
  bytes_at i start end d e s t =
      let (within, is) = found_at i d e in
      let more = sum_by_more (λ (r : Row). r.file.length) rs i d within in
      let size : end - start ≡ (get_or rs i d).file.length = omega arith in
      ap bytes_of is ∙ rw (size, s) refl

  pub bytes_nowhere : rank_of n rs ≡ None → bytes_of (lookup n (files_in rs bs)) ≡ []
  bytes_nowhere e = ap bytes_of (found_nowhere e)

  pub nothing_goes : rank_of n rs ≡ None → without n (files_in rs bs) ≡ files_in rs bs
  unfolding rank_of
  nothing_goes e = without_absent n rs bs (nowhere (has n) rs e)
