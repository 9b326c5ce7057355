-- The files of a table after a row is put in or taken out, and after bytes are written.
use Rattle.std.proofs.Common.{◌≡◌, ℕ, zero, suc, ◌+◌, ◌-◌, ◌<◌, ◌≤◌, eqb, ltb, List, [], ◌∷◌, length, get_or, take, drop, sym, refl, ap, ◌∙◌, arith, length-drop, length-take-le, take-take, rules}
use Rattle.std.proofs.lemmas.List.{places, same_lists, drop-take}
use Rattle.std.proofs.lemmas.List.Sums.{sum_by-cons}
use Rattle.std.proofs.lemmas.Bool.{lt-ltb, le-ltb, eq-eqb, ne_eqb, cond-true, cond-false}
use Rattle.std.specs.List.{insert as put_in, remove as cut_out}
use Rattle.store.specs.Contents.{total}
use Rattle.store.specs.Changes.{inserted, without}
use Rattle.store.specs.Sound.{Ascending}
use Rattle.table.specs.declared.place.Place.{Place}
use Rattle.table.specs.Found.{Ranked, StandsAt}
use Rattle.table.specs.Rows.{rows_with, rows_without, lengths_in}
use Rattle.table.specs.Tables.{file_at, entry_at, files_in, numbers_in, Within}
use Rattle.table.proofs.Columns.{rising_from, numbers_length}

-- the rows in use after one is put in
pub used_with : (ps : List Place) (count i : ℕ) (p : Place) → i ≤ count → count < length ps → take (count + 1) (rows_with ps count i p) ≡ put_in (take count ps) i p
used_with ps count i p h l = same_lists _ _ (search (rules, places)) (λ k d b. grind (arith, places))

-- the rows in use after one is taken out
pub used_without : (ps : List Place) (count i : ℕ) → i < count → count ≤ length ps → take (count - 1) (rows_without ps count i) ≡ cut_out (take count ps) i
used_without ps count i h l = same_lists _ _ (search (rules, places)) (λ k d b. grind (arith, places))

-- a row put in at its rank puts its file in by number
put_file : (bs : List ℕ) (ps : List Place) (i : ℕ) (p : Place) → i ≤ length ps → ((k : ℕ) → k < i → get_or (numbers_in ps) k 0 ≤ p.number)
    → (i < length ps → p.number < get_or (numbers_in ps) i 0)
    → files_in bs (put_in ps i p) ≡ inserted p.number (file_at bs p) (files_in bs ps)
put_file bs [] zero p l lo hi = refl
put_file bs [] (suc i) p l lo hi = absurd (omega arith)
put_file bs (x ∷ ps) zero p l lo hi = sym (cond-true (ltb p.number x.number) _ _ (lt-ltb p.number x.number (hi (omega arith))))
put_file bs (x ∷ ps) (suc i) p l lo hi =
    ap (λ z. entry_at bs x ∷ z) (put_file bs ps i p (omega arith) (λ k h. lo (suc k) (omega arith)) (λ h. hi (omega arith)))
    ∙ sym (cond-false (ltb p.number x.number) _ _ (le-ltb p.number x.number (lo 0 (omega arith))))

pub files_with : (bs : List ℕ) (ps : List Place) (i : ℕ) (p : Place) → Ranked ps p.number i → files_in bs (put_in ps i p) ≡ inserted p.number (file_at bs p) (files_in bs ps)
files_with bs ps i p r = put_file bs ps i p r.bound r.below r.above

-- a row taken out takes its file out by number
cut_file : (bs : List ℕ) (ps : List Place) (n i : ℕ) → i < length ps → get_or (numbers_in ps) i 0 ≡ n → ((k : ℕ) → k < i → get_or (numbers_in ps) k 0 ≡ n → ⊥)
    → files_in bs (cut_out ps i) ≡ without n (files_in bs ps)
cut_file bs [] n i h e before = absurd (omega arith)
cut_file bs (x ∷ ps) n zero h e before = sym (cond-true (eqb x.number n) _ _ (eq-eqb x.number n e))
cut_file bs (x ∷ ps) n (suc i) h e before =
    ap (λ z. entry_at bs x ∷ z) (cut_file bs ps n i (omega arith) e (λ k l. before (suc k) (omega arith)))
    ∙ sym (cond-false (eqb x.number n) _ _ (ne_eqb x.number n (before 0 (omega arith))))

pub files_without : (bs : List ℕ) (ps : List Place) (n i : ℕ) → Ascending 0 (files_in bs ps) → StandsAt ps n i → files_in bs (cut_out ps i) ≡ without n (files_in bs ps)
files_without bs ps n i a s =
    let l = numbers_length ps in
    cut_file bs ps n i s.used s.here (λ k h e. let r = rising_from bs ps 0 a k i h (omega (arith, s.used)) in omega (arith, s.here))

-- over other bytes, the files are the same if each row's bytes are
pub files_same : (bs cs : List ℕ) (ps : List Place) → ((k : ℕ) (d : Place) → k < length ps → (file_at cs (get_or ps k d)).bytes ≡ (file_at bs (get_or ps k d)).bytes) → files_in cs ps ≡ files_in bs ps
files_same bs cs [] same = refl
files_same bs cs (p ∷ ps) same =
    ap (λ z. record { number = p.number; file = record { format = p.file.format; protection = p.file.protection; parent = p.file.parent; name = p.file.name; bytes = z } } ∷ files_in cs ps) (same 0 p (omega arith))
    ∙ ap (λ z. entry_at bs p ∷ z) (files_same bs cs ps (λ k d h. same (suc k) d (omega arith)))

-- a part that ends within two lists' common front is the same in both
pub part_same : (bs cs : List ℕ) (front start len : ℕ) → take front cs ≡ take front bs → start + len ≤ front → take len (drop start cs) ≡ take len (drop start bs)
part_same bs cs front start len e h =
    sym (drop-take start len cs) ∙ ap (drop start) (sym (take-take (start + len) front cs h)) ∙ ap (λ z. drop start (take (start + len) z)) e
    ∙ ap (drop start) (take-take (start + len) front bs h) ∙ drop-take start len bs

-- the files have as many bytes as the rows say
pub total_files : (bs : List ℕ) (ps : List Place) → Within ps (length bs) → total (files_in bs ps) ≡ lengths_in ps
total_files bs [] w = refl
total_files bs (p ∷ ps) w =
    let here = w 0 p (omega arith) in
    let ld = length-drop p.start bs in
    let lt : length (take p.file.length (drop p.start bs)) ≡ p.file.length = length-take-le p.file.length (drop p.start bs) (omega arith) in
    let rest = total_files bs ps (λ k d h. w (suc k) d (omega arith)) in
    let sum = sum_by-cons (λ (q : Place). q.file.length) p ps in
    omega arith

-- the table is as long after a row is put in or taken out
pub length_with : (ps : List Place) (count i : ℕ) (p : Place) → i ≤ count → count < length ps → length (rows_with ps count i p) ≡ length ps
length_with ps count i p h l = search (rules, places)

pub length_without : (ps : List Place) (count i : ℕ) → i < count → count ≤ length ps → length (rows_without ps count i) ≡ length ps
length_without ps count i h l = search (rules, places)
