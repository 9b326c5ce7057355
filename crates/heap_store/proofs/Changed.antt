-- What rows and bytes hold after a file is put in or taken out.
use Rattle.std.proofs.Common.{◌≡◌, ℕ, suc, ◌+◌, ◌<◌, ◌≤◌, Bool, true, false, cond, not, eqb, ltb, List, [], ◌∷◌, ◌++◌, length, get_or, take, drop, Some, sym, refl, ap, ◌∙◌, subst, add_assoc, arith, length-append, length-drop, length-take-le, take-take, drop-drop, take_at, drop_at}
use lib.Seq.{take-append-le}
use Rattle.std.specs.List.{insert, remove, position_or_len}
use Rattle.std.proofs.lemmas.List.{drop-take, drop-append-le}
use Rattle.std.proofs.lemmas.List.Sums.{sum_by-take-le, sum_by-remove, sum_by_more, sum_by_more_le}
use Rattle.store.specs.Contents.{File, Entry}
use Rattle.store.specs.Changes.{inserted, without}
use Rattle.store.specs.Changing.{file_of}
use Rattle.store.specs.Infos.{with_length}
use Rattle.store.specs.declared.info.FileInfo.{FileInfo}
use Rattle.store.specs.declared.info.NewFile.{NewFile}
use Rattle.heap_store.specs.Rows.{taken, file_in, files_in, rank_of, rank_for}
use Rattle.heap_store.specs.declared.row.Row.{Row}
use Rattle.heap_store.proofs.Files.{has, taken_cons, at_first}

-- the front row keeps its bytes, and the others see what lies behind them
past_front : (r : Row) (rs : List Row) (s : ℕ) (bs tail : List ℕ) → r.file.length + s ≤ length bs
    → files_in (r ∷ rs) (take (r.file.length + s) bs ++ tail)
    ≡ record { number = r.number; file = file_in r.file bs } ∷ files_in rs (take s (drop r.file.length bs) ++ tail)
past_front r rs s bs tail h =
    let l : ℕ = r.file.length in
    let front : List ℕ = take (l + s) bs in
    let n : l ≤ length front = omega (arith, length-take-le (l + s) bs h) in
    let here : take l (front ++ tail) ≡ take l bs = take-append-le l front tail n ∙ take-take l (l + s) bs (omega arith) in
    let there : drop l (front ++ tail) ≡ take s (drop l bs) ++ tail = drop-append-le l front tail n ∙ ap (λ x. x ++ tail) (drop-take l s bs) in
    λ i. record {
      number = r.number;
      file = record { format = r.file.format; protection = r.file.protection; parent = r.file.parent; name = r.file.name; bytes = here i };
    } ∷ files_in rs (there i)

abbrev pub whole : FileInfo → List ℕ → File
whole f bytes = record { format = f.format; protection = f.protection; parent = f.parent; name = f.name; bytes = bytes }

new_front : (r : Row) (rs : List Row) (new bs : List ℕ) → r.file.length ≡ length new
    → files_in (r ∷ rs) (new ++ bs) ≡ record { number = r.number; file = whole r.file new } ∷ files_in rs bs
new_front r rs new bs e =
    let here : take r.file.length (new ++ bs) ≡ new = take_at new bs r.file.length (sym e) in
    let there : drop r.file.length (new ++ bs) ≡ bs = drop_at new bs r.file.length (sym e) in
    λ i. record { number = r.number; file = whole r.file (here i) } ∷ files_in rs (there i)

-- a row goes before the first of a larger number, and its file's bytes go behind those of the rows before it
pub files_added : (r : Row) (new : List ℕ) (rs : List Row) (bs : List ℕ) → r.file.length ≡ length new → taken rs ≤ length bs
    → let i = position_or_len (λ (x : Row). ltb r.number x.number) rs in
    files_in (take i rs ++ r ∷ drop i rs) (take (taken (take i rs)) bs ++ (new ++ drop (taken (take i rs)) bs)) ≡ inserted r.number (whole r.file new) (files_in rs bs)
files_added r new [] bs e h = new_front r [] new bs e
files_added r new (x ∷ rs) bs e h =
    let more = taken_cons x rs in
    by (ltb r.number x.number) (1 + i) (omega arith) (files_added r new rs (drop l bs) e (omega (arith, length-drop l bs)))
  where
    l : ℕ
    l = x.file.length

    i : ℕ
    i = position_or_len (λ (y : Row). ltb r.number y.number) rs

    s : ℕ
    s = taken (take i rs)

    rest : List Entry
    rest = files_in rs (drop l bs)

    front : Entry
    front = record { number = x.number; file = file_in x.file bs }

    new_file : File
    new_file = whole r.file new

    by : (t : Bool) (j : ℕ) → j ≡ suc i → files_in (take i rs ++ r ∷ drop i rs) (take s (drop l bs) ++ (new ++ drop s (drop l bs))) ≡ inserted r.number new_file rest
        → let k = cond (not t) j 0 in
        files_in (take k (x ∷ rs) ++ r ∷ drop k (x ∷ rs)) (take (taken (take k (x ∷ rs))) bs ++ (new ++ drop (taken (take k (x ∷ rs))) bs))
        ≡ cond t (record { number = r.number; file = new_file } ∷ (front ∷ rest)) (front ∷ inserted r.number new_file rest)
    by true j q k = new_front r (x ∷ rs) new bs e
    by false j q k =
        let more = taken_cons x rs in
        rw (q, taken_cons x (take i rs))
        (past_front x (take i rs ++ r ∷ drop i rs) s bs (new ++ drop (l + s) bs) (omega (arith, sum_by-take-le (λ (y : Row). y.file.length) rs i))
        ∙ ap (λ z. front ∷ files_in (take i rs ++ r ∷ drop i rs) (take s (drop l bs) ++ (new ++ z))) (sym (drop-drop s l bs))
        ∙ ap (λ z. front ∷ z) k)

-- a row goes out, and its file's bytes with it
pub files_removed : (n : ℕ) (rs : List Row) (bs : List ℕ) (d : Row) → taken rs ≤ length bs
    → let i = position_or_len (has n) rs in
    i < length rs
    → files_in (take i rs ++ drop (suc i) rs) (take (taken (take i rs)) bs ++ drop (taken (take i rs) + (get_or rs i d).file.length) bs) ≡ without n (files_in rs bs)
files_removed n [] bs d h b = absurd (omega arith)
files_removed n (x ∷ rs) bs d h b =
    let more = taken_cons x rs in
    by (eqb x.number n) (1 + i) (omega arith) b (files_removed n rs (drop l bs) d (omega (arith, length-drop l bs)))
  where
    l : ℕ
    l = x.file.length

    i : ℕ
    i = position_or_len (has n) rs

    s : ℕ
    s = taken (take i rs)

    rest : List Entry
    rest = files_in rs (drop l bs)

    front : Entry
    front = record { number = x.number; file = file_in x.file bs }

    by : (t : Bool) (j : ℕ) → j ≡ suc i → cond (not t) j 0 < suc (length rs)
        → (i < length rs → files_in (take i rs ++ drop (suc i) rs) (take s (drop l bs) ++ drop (s + (get_or rs i d).file.length) (drop l bs)) ≡ without n rest)
        → let k = cond (not t) j 0 in
        files_in (take k (x ∷ rs) ++ drop (suc k) (x ∷ rs)) (take (taken (take k (x ∷ rs))) bs ++ drop (taken (take k (x ∷ rs)) + (get_or (x ∷ rs) k d).file.length) bs)
        ≡ cond t rest (front ∷ without n rest)
    by true j q b k = let e : 0 + l ≡ l = omega arith in ap (λ m. files_in rs (drop m bs)) e
    by false j q b k =
        let m : ℕ = (get_or rs i d).file.length in
        let more = taken_cons x rs in
        let below = sum_by_more_le (λ (y : Row). y.file.length) rs i d (omega arith) in
        rw (q, taken_cons x (take i rs))
        (past_front x (take i rs ++ drop (suc i) rs) s bs (drop (l + s + m) bs) (omega arith)
        ∙ ap (λ z. front ∷ files_in (take i rs ++ drop (suc i) rs) (take s (drop l bs) ++ z)) (ap (λ z. drop z bs) (add_assoc l s m) ∙ sym (drop-drop (s + m) l bs))
        ∙ ap (λ z. front ∷ z) (k (omega arith)))

-- the same, as the memory does it
pub goes_in : (n : ℕ) (f : NewFile) (run : List ℕ) (rs : List Row) (bs : List ℕ) (i start : ℕ) → taken rs ≤ length bs
    → i ≡ rank_for n rs → start ≡ taken (take i rs)
    → files_in (insert rs i (record { number = n; file = with_length f (length run) })) (take start bs ++ (run ++ drop start bs)) ≡ inserted n (file_of f run) (files_in rs bs)
unfolding rank_for
goes_in n f run rs bs i start h e s = rw (s, e) (files_added (record { number = n; file = with_length f (length run) }) run rs bs refl h)

pub goes_out : (n : ℕ) (rs : List Row) (bs : List ℕ) (i start end : ℕ) (d : Row) → taken rs ≤ length bs → rank_of n rs ≡ Some i
    → start ≡ taken (take i rs) → end ≡ taken (take (i + 1) rs) → files_in (remove rs i) (take start bs ++ drop end bs) ≡ without n (files_in rs bs)
unfolding rank_of
goes_out n rs bs i start end d h e s t =
    let (at, within) = at_first (has n) rs i e in
    let more = sum_by_more (λ (r : Row). r.file.length) rs i d (subst (λ k. k < length rs) at within) in
    let stop : end ≡ taken (take i rs) + (get_or rs i d).file.length = omega arith in
    rw (s, stop, ← at) (files_removed n rs bs d h within)

-- what is left has as many bytes as its rows say
pub stays_filled : (rs : List Row) (bs : List ℕ) (i start end : ℕ) (d : Row) → taken rs ≡ length bs → i < length rs
    → start ≡ taken (take i rs) → end ≡ taken (take (i + 1) rs) → taken (remove rs i) ≡ length (take start bs ++ drop end bs)
stays_filled rs bs i start end d h b s t =
    let more = sum_by_more (λ (r : Row). r.file.length) rs i d b in
    let below = sum_by_more_le (λ (r : Row). r.file.length) rs i d b in
    let left = sum_by-remove (λ (r : Row). r.file.length) rs i d b in
    omega (arith, length-append (take start bs) (drop end bs), length-drop end bs, length-take-le start bs (omega arith))
