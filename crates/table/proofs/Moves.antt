-- A part of a list that is moved by one.
use Rattle.std.proofs.Common.{◌≡◌, ℕ, ◌+◌, ◌-◌, ◌<◌, ◌≤◌, List, ◌∷◌, ◌++◌, length, take, drop, set, sym, ap, ◌∙◌, append_assoc, arith, drop-drop, take-take, rules}
use borrow.Rule.Slice.PartMut.{put_mid}
use lib.Seq.{paste}
use Rattle.std.proofs.lemmas.Bool.{cases_eq}
use Rattle.std.proofs.lemmas.List.{drop-take, get_or-set_same, places, same_lists}

-- the first of a part comes last in it
pub first_put_last : {X : Type 0} (ps ys : List X) (n i : ℕ) → i < n → n ≤ length ps → ys ≡ drop 1 (take (n - i) (drop i ps)) ++ take 1 (take (n - i) (drop i ps))
    → put_mid i (n - i) ps ys ≡ take i ps ++ (drop (i + 1) (take n ps) ++ (take 1 (drop i ps) ++ drop n ps))
first_put_last {X} ps ys n i h l e =
    let s : i + (n - i) ≡ n = omega arith in
    let m : take (n - i) (drop i ps) ≡ drop i (take n ps) = sym (drop-take i (n - i) ps) ∙ ap (λ k. drop i (take k ps)) s in
    let turned : ys ≡ drop (i + 1) (take n ps) ++ take 1 (drop i ps) =
    e ∙ ap (λ z. drop 1 z ++ take 1 (take (n - i) (drop i ps))) m
    ∙ ap (λ z. z ++ take 1 (take (n - i) (drop i ps))) (drop-drop 1 i (take n ps))
    ∙ ap (λ z. drop (i + 1) (take n ps) ++ z) (take-take 1 (n - i) (drop i ps) (omega arith)) in
    ap (λ z. take i ps ++ (z ++ drop (n - i) (drop i ps))) turned
    ∙ ap (λ z. take i ps ++ ((drop (i + 1) (take n ps) ++ take 1 (drop i ps)) ++ z)) (drop-drop (n - i) i ps ∙ ap (λ k. drop k ps) s)
    ∙ ap (λ z. take i ps ++ z) (append_assoc (drop (i + 1) (take n ps)) (take 1 (drop i ps)) (drop n ps))

-- from i on up to n each is one further, and p is at i
pub put_first : {X : Type 0} (ps qs : List X) (n i : ℕ) (p : X) → i ≤ n → n < length ps → qs ≡ paste ps (i + 1) (drop i ps) (n - i)
    → set qs i p ≡ take i ps ++ (p ∷ (drop i (take n ps) ++ drop (n + 1) ps))
put_first ps qs n i p h l e =
    ap (λ z. set z i p) e ∙ same_lists _ _ (search (rules, places)) (λ k d b. grind (arith, places, get_or-set_same, cases_eq k i))
