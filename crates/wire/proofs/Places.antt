-- The number at a place, read from what is there with zeros behind it.
use Rattle.std.proofs.Common.{◌≡◌, ℕ, zero, suc, ◌+◌, ◌-◌, ◌*◌, ◌≤◌, min, List, [], ◌∷◌, ◌++◌, length, take, drop, replicate, refl, ap, ◌∙◌, arith}
use Rattle.std.proofs.lemmas.List.{length-replicate, take-replicate, drop-replicate, drop_min}
use Rattle.byte_parts.specs.Numbers.{value}
use Rattle.byte_parts.specs.Parts.{Copied}
use Rattle.wire.specs.Containers.{number_at}

value_padded : (xs : List ℕ) (n : ℕ) → value (xs ++ replicate n 0) ≡ value xs
value_padded [] zero = refl
value_padded [] (suc n) = omega (arith, value_padded [] n)
value_padded (x ∷ xs) n = ap (λ v. x + 256 * v) (value_padded xs n)

-- as much as fits of what lies behind the place, over zeros
pub number_padded : (k place : ℕ) (bs behind cells filled : List ℕ) (count : ℕ) → k ≤ 8 → cells ≡ take k (replicate 8 0) → behind ≡ drop (min place (length bs)) bs → Copied behind cells filled count → value filled ≡ number_at k place bs
number_padded k place bs behind cells filled count h zeros back copied =
    let is : cells ≡ replicate k 0 = zeros ∙ take-replicate k 8 0 h in
    let long : length cells ≡ k = ap length is ∙ length-replicate k 0 in
    let front = take k behind in
    ap value
    (copied.bytes ∙ (λ i. take (long i) behind ++ drop (length (take (long i) behind)) (is i)) ∙ ap (λ l. front ++ l) (drop-replicate (length front) k 0))
    ∙ value_padded front (k - length front) ∙ ap (λ l. value (take k l)) (back ∙ drop_min place bs)
