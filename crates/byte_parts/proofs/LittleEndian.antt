-- Little-endian numbers read back.
use Rattle.std.proofs.Common.{◌≡◌, ℕ, zero, suc, ◌+◌, ◌*◌, ◌/◌, ◌%◌, ◌^◌, ◌<◌, List, [], ◌∷◌, length, refl, ap, ◌∙◌, pow-suc, arith}
use native.Mathlib.Nat.{pow-zero}
use Rattle.byte_parts.specs.Numbers.{Bytes, le, value}

pub length_le : (k n : ℕ) → length (le k n) ≡ k
length_le zero n = refl
length_le (suc k) n = ap suc (length_le k (n / 256))

pub bytes_le : (k n : ℕ) → Bytes (le k n)
bytes_le zero n = tt
bytes_le (suc k) n = (omega arith, bytes_le k (n / 256))

pub value_le : (k n : ℕ) → n < 256 ^ k → value (le k n) ≡ n
value_le zero n h = let e = pow-zero 256 in omega arith
value_le (suc k) n h =
    let p = pow-suc 256 k in
    let r : value (le k (n / 256)) ≡ n / 256 = value_le k (n / 256) (omega arith) in
    omega arith

pub value_bound : (bs : List ℕ) → Bytes bs → value bs < 256 ^ length bs
value_bound [] h = let e = pow-zero 256 in omega arith
value_bound (b ∷ bs) h = let p = pow-suc 256 (length bs) in let r = value_bound bs h.1 in omega arith

pub le_value : (bs : List ℕ) → Bytes bs → le (length bs) (value bs) ≡ bs
le_value [] h = refl
le_value (b ∷ bs) h =
    let low : (b + 256 * value bs) % 256 ≡ b = omega (arith, h.0) in
    let high : (b + 256 * value bs) / 256 ≡ value bs = omega (arith, h.0) in
    let r = le_value bs h.1 in
    λ i. low i ∷ (ap (le (length bs)) high ∙ r) i
