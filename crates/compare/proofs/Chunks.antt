-- Lists compared chunk by chunk.
use Rattle.std.proofs.Common.{◌≡◌, ℕ, zero, suc, ◌+◌, ◌-◌, ◌≤◌, Bool, List, [], ◌∷◌, ◌++◌, length, take, drop, Decides, sym, ap, ◌∙◌, arith, length-drop, take-append-drop, take_all}
use lib.Seq.{take-append_seam}
use Rattle.byte_parts.specs.Parts.{over}

-- two copies over the same memory are equal exactly if as much was copied and that is equal
pub chunk : {r : Bool} {x y : List ℕ} (p q z : List ℕ) (m n : ℕ) → Decides r (x ≡ y) → x ≡ over p z → y ≡ over q z
    → m ≡ length p → n ≡ length q → m ≡ n → Decides r (p ≡ q)
chunk {r} {x} {y} p q z m n d ex ey em en e = (
  (λ t. sym (take-append_seam p (drop (length p) z)) ∙ ap (take (length p)) (sym ex ∙ d.0 t ∙ ey)
      ∙ ap (λ k. take k (over q z)) (sym em ∙ e ∙ en) ∙ take-append_seam q (drop (length q) z)),
  (λ pq. d.1 (ex ∙ ap (λ w. over w z) pq ∙ sym ey)),
)

take_more : (n m : ℕ) (xs : List ℕ) → take (n + m) xs ≡ take n xs ++ take m (drop n xs)
take_more zero m xs = let on : zero + m ≡ m = omega arith in ap (λ k. take k xs) on
take_more (suc n) m [] = let on : suc n + m ≡ suc (n + m) = omega arith in ap (λ k. take k []) on ∙ sym (take_all m [] (omega arith))
take_more (suc n) m (x ∷ xs) = let on : suc n + m ≡ suc (n + m) = omega arith in ap (λ k. take k (x ∷ xs)) on ∙ ap (λ z. x ∷ z) (take_more n m xs)

-- one more chunk that is equal
pub grown : (size at : ℕ) (xs ys : List ℕ) → take at xs ≡ take at ys → take size (drop at xs) ≡ take size (drop at ys) → take (at + size) xs ≡ take (at + size) ys
grown size at xs ys e f = take_more at size xs ∙ ap (λ z. z ++ take size (drop at xs)) e ∙ ap (λ z. take at ys ++ z) f ∙ sym (take_more at size ys)

-- the last chunk
pub whole : (size at n : ℕ) (xs ys : List ℕ) → length xs ≡ n → length ys ≡ n → n - at ≤ size → take at xs ≡ take at ys → take size (drop at xs) ≡ take size (drop at ys) → xs ≡ ys
whole size at n xs ys lx ly h e f =
    let dx = length-drop at xs in
    let dy = length-drop at ys in
    sym (take-append-drop at xs) ∙ ap (λ z. z ++ drop at xs) e
    ∙ ap (λ z. take at ys ++ z) (sym (take_all size (drop at xs) (omega arith)) ∙ f ∙ take_all size (drop at ys) (omega arith))
    ∙ take-append-drop at ys
