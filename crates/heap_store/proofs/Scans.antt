-- Going through the rows up to the one that is sought.
use Rattle.std.proofs.Common.{◌≡◌, ℕ, ◌+◌, ◌<◌, ◌≤◌, Bool, true, false, cond, not, ltb, List, length, get_or, take, Some, None, sym, ap, ◌∙◌, ⊎_elim, arith}
use Rattle.std.specs.List.{position_or_len}
use Rattle.std.proofs.lemmas.Bool.{eq-eqb, ne_eqb, lt-ltb, le-ltb, cases_lt}
use Rattle.std.proofs.lemmas.List.Sums.{prefix_len-le-length, fails_before_first, passes_at_first, sum_by_more, sum_by_more_le}
use Rattle.heap_store.specs.Rows.{taken, rank_of, rank_for}
use Rattle.heap_store.specs.declared.row.Row.{Row}
use Rattle.heap_store.proofs.Files.{has}

-- the first that passes is the one at which a search stops
stops : {X : Type 0} (p : X → Bool) (xs : List X) (i : ℕ) (d : X) → i ≤ position_or_len p xs → p (get_or xs i d) ≡ true → position_or_len p xs ≡ i
stops p xs i d b t = ⊎_elim (λ h. let f = fails_before_first p xs i d h in cc) (λ h. omega arith) (cases_lt i (position_or_len p xs))

-- else it stands further on
goes_on : {X : Type 0} (p : X → Bool) (xs : List X) (i : ℕ) (d : X) → i ≤ position_or_len p xs → i < length xs → p (get_or xs i d) ≡ false → i + 1 ≤ position_or_len p xs
goes_on p xs i d b h f = ⊎_elim (λ k. omega arith) (λ k. at (omega arith)) (cases_lt i (position_or_len p xs))
  where
    at : position_or_len p xs ≡ i → i + 1 ≤ position_or_len p xs
    at e =
        let t : p (get_or xs (position_or_len p xs) d) ≡ true = passes_at_first p xs d (omega arith) in
        let u : p (get_or xs i d) ≡ true = ap (λ k. p (get_or xs k d)) (sym e) ∙ t in
        cc

-- the bytes of the rows so far, and of one more
pub taken_next : (rs : List Row) (i : ℕ) (r : Row) → i < length rs → r ≡ get_or rs i r
    → (taken (take (i + 1) rs) ≡ taken (take i rs) + r.file.length) × (taken (take i rs) + r.file.length ≤ taken rs)
taken_next rs i r h e =
    let same : r.file.length ≡ (get_or rs i r).file.length = ap (λ (x : Row). x.file.length) e in
    let more = sum_by_more (λ (x : Row). x.file.length) rs i r h in
    let below = sum_by_more_le (λ (x : Row). x.file.length) rs i r h in
    (omega arith, omega arith)

-- the row with a number
pub sought_here : (n : ℕ) (rs : List Row) (i : ℕ) (r : Row) → i ≤ position_or_len (has n) rs → i < length rs → r ≡ get_or rs i r → r.number ≡ n → rank_of n rs ≡ Some i
unfolding rank_of
sought_here n rs i r b h e q =
    ap (λ k. cond (ltb k (length rs)) (Some k) None) (stops (has n) rs i r b (ap (has n) (sym e) ∙ eq-eqb r.number n q))
    ∙ ap (λ t. cond t (Some i) None) (lt-ltb i (length rs) h)

pub sought_later : (n : ℕ) (rs : List Row) (i : ℕ) (r : Row) → i ≤ position_or_len (has n) rs → i < length rs → r ≡ get_or rs i r → (r.number ≡ n → ⊥)
    → i + 1 ≤ position_or_len (has n) rs
sought_later n rs i r b h e q = goes_on (has n) rs i r b h (ap (has n) (sym e) ∙ ne_eqb r.number n q)

pub sought_nowhere : (n : ℕ) (rs : List Row) (i : ℕ) → i ≤ position_or_len (has n) rs → length rs ≤ i → rank_of n rs ≡ None
unfolding rank_of
sought_nowhere n rs i b h = ap (λ t. cond t (Some (position_or_len (has n) rs)) None) (le-ltb (position_or_len (has n) rs) (length rs) (omega arith))

-- the place of a new row
abbrev pub above : ℕ → Row → Bool
above n r = ltb n r.number

pub place_here : (n : ℕ) (rs : List Row) (i : ℕ) (r : Row) → i ≤ position_or_len (above n) rs → r ≡ get_or rs i r → n < r.number → i ≡ rank_for n rs
unfolding rank_for
place_here n rs i r b e q = sym (stops (above n) rs i r b (ap (above n) (sym e) ∙ lt-ltb n r.number q))

pub place_later : (n : ℕ) (rs : List Row) (i : ℕ) (r : Row) → i ≤ position_or_len (above n) rs → i < length rs → r ≡ get_or rs i r → r.number ≤ n
    → i + 1 ≤ position_or_len (above n) rs
place_later n rs i r b h e q = goes_on (above n) rs i r b h (ap (above n) (sym e) ∙ le-ltb n r.number q)

pub place_last : (n : ℕ) (rs : List Row) (i : ℕ) → i ≤ position_or_len (above n) rs → length rs ≤ i → length rs ≡ rank_for n rs
unfolding rank_for
place_last n rs i b h = omega (arith, prefix_len-le-length (λ r. not (above n r)) rs)

pub ruleset sought = (taken_next, sought_here, sought_later, sought_nowhere)

pub ruleset placed = (taken_next, place_here, place_later, place_last)
