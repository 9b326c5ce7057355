-- Changes give the slots to other rows, and no slot to two.
use Rattle.std.proofs.Common.{◌≡◌, ℕ, ◌+◌, ◌-◌, ◌*◌, ◌%◌, ◌<◌, ◌≤◌, ◌≢◌, List, ◌∷◌, ◌++◌, length, get_or, take, drop, sym, ap, ◌∙◌, subst, append_assoc, arith, drop-drop, take-take, rules}
use Rattle.std.specs.List.Sorted.{IsPermutation}
use Rattle.std.proofs.lemmas.List.{drop-take, map-append, places, same_lists, take-append-drop}
use Rattle.std.proofs.lemmas.List.Sorted.{All-permutation, IsPermutation-append_comm, IsPermutation-append_left, IsPermutation-append_right, IsPermutation-map, IsPermutation-middle}
use Rattle.store.specs.Sound.{max_length}
use Rattle.table.specs.declared.place.Place.{Place}
use Rattle.table.specs.Rows.{rows_with, rows_without}
use Rattle.table.specs.Tables.{starts_in}
use Rattle.table.proofs.Pairs.{AllPairs-permutation}
use Rattle.lent.specs.declared.memory.Memory.{Memory}
use Rattle.lent.specs.Kept.{Readable}
use Rattle.slot.specs.Slots.{Slotted, slots}
use Rattle.slot.proofs.Spare.{slot_at}

-- the slot of the row at n goes with a row that is put in
pub slots_with : (ps : List Place) (n i : ℕ) (p : Place) → i ≤ n → n < length ps → p.start ≡ get_or (starts_in ps) n 0
    → IsPermutation (starts_in ps) (starts_in (rows_with ps n i p))
slots_with ps n i p h l e =
    let f : Place → ℕ = λ q. q.start in
    let q : Place = get_or ps n p in
    let mid : List Place = drop i (take n ps) in
    let rest : List Place = drop (n + 1) ps in
    let apart : ps ≡ take i ps ++ (mid ++ (q ∷ rest)) = same_lists _ _ (search (rules, places)) (λ k d b. grind (arith, places)) in
    let moved = IsPermutation-map f _ _ (IsPermutation-append_right (take i ps) (mid ++ (q ∷ rest)) (q ∷ (mid ++ rest)) (IsPermutation-middle mid q rest)) in
    let same : starts_in (take i ps ++ (q ∷ (mid ++ rest))) ≡ starts_in (rows_with ps n i p) =
    map-append f (take i ps) (q ∷ (mid ++ rest))
    ∙ ap (λ s. starts_in (take i ps) ++ (s ∷ starts_in (mid ++ rest))) (sym (e ∙ slot_at ps n p l))
    ∙ sym (map-append f (take i ps) (p ∷ (mid ++ rest))) in
    subst (λ z. IsPermutation (starts_in z) (starts_in (rows_with ps n i p))) (sym apart)
    (subst (IsPermutation (starts_in (take i ps ++ (mid ++ (q ∷ rest))))) same moved)

-- a row that is taken out keeps its slot
pub slots_without : (ps : List Place) (n i : ℕ) → i < n → n ≤ length ps → IsPermutation (starts_in ps) (starts_in (rows_without ps n i))
slots_without ps n i h l =
    let f : Place → ℕ = λ q. q.start in
    let one : List Place = take 1 (drop i ps) in
    let mid : List Place = drop (i + 1) (take n ps) in
    let s : i + (n - i) ≡ n = omega arith in
    let first : take 1 (drop i (take n ps)) ≡ one =
    ap (take 1) (ap (λ k. drop i (take k ps)) (sym s) ∙ drop-take i (n - i) ps) ∙ take-take 1 (n - i) (drop i ps) (omega arith) in
    let part : drop i (take n ps) ≡ one ++ mid =
    sym (take-append-drop 1 (drop i (take n ps))) ∙ ap (λ z. z ++ drop 1 (drop i (take n ps))) first ∙ ap (λ z. one ++ z) (drop-drop 1 i (take n ps)) in
    let apart : ps ≡ take i ps ++ ((one ++ mid) ++ drop n ps) =
    same_lists ps (take i ps ++ (drop i (take n ps) ++ drop n ps)) (search (rules, places)) (λ k d b. grind (arith, places))
    ∙ ap (λ z. take i ps ++ (z ++ drop n ps)) part in
    let moved =
    IsPermutation-map f _ _ (IsPermutation-append_right (take i ps) _ _ (IsPermutation-append_left (drop n ps) (one ++ mid) (mid ++ one) (IsPermutation-append_comm one mid))) in
    subst (λ z. IsPermutation (starts_in z) (starts_in (rows_without ps n i))) (sym apart)
    (subst (λ z. IsPermutation (starts_in (take i ps ++ ((one ++ mid) ++ drop n ps))) (starts_in (take i ps ++ z))) (append_assoc mid one (drop n ps)) moved)

-- what holds of slots in any order
module _ (m after : Memory) (s : Slotted m) (p : IsPermutation (slots m) (slots after)) (bytes : length after.bytes.now ≡ length m.bytes.now)
    (table : length after.places.now ≡ length m.places.now) (r : Readable after) where
  pub kept : Slotted after
  kept = record {
    readable = r;
    whole = let P : ℕ → Type 0 = λ x. x % max_length ≡ 0 in All-permutation P (slots m) (slots after) p s.whole;
    inside =
        let P : ℕ → Type 0 = λ x. x + max_length ≤ length after.bytes.now in
        All-permutation P (slots m) (slots after) p (λ k d h. let x = s.inside k d h in omega arith);
    distinct = AllPairs-permutation (λ x y. x ≢ y) (λ x y n e. n (sym e)) (slots m) (slots after) p s.distinct;
    fill = bytes ∙ s.fill ∙ ap (λ n. n * max_length) (sym table);
  }
