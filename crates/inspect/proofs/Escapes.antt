-- What a format writes of a unit in four hexadecimal digits.
use Rattle.std.proofs.Common.{◌≡◌, ℕ, suc, ◌+◌, ◌-◌, ◌/◌, ◌%◌, ◌^◌, ◌<◌, ◌≤◌, Bool, true, false, cond, ltb, List, [], ◌∷◌, ◌++◌, ◌∙◌, arith}
use Rattle.std.proofs.Math.Logic.{⊎_elim}
use Rattle.std.proofs.lemmas.Bool.{cond-true, cond-false, eq-eqb, ne_eqb, cases_lt}
use Rattle.std.proofs.lemmas.Str.{encode_ascii}
use Rattle.std.specs.Prelude.{codes}
use Rattle.std.specs.Fmt.{digits, digits_onto, digit_glyph, padded_integral, char_count, format_spec}
use lib.Utf8.{encode}
use Rattle.inspect.specs.Texts.{hex_digit, escape}

-- the lowest digit as a byte
abbrev glyph : ℕ → ℕ
glyph n = digit_glyph false (n % 16)

last : (k n : ℕ) (behind : List ℕ) → n < 16 → digits_onto (suc k) 16 false n behind ≡ glyph n ∷ behind
last k n behind small = cond-true _ _ _ (eq-eqb (n / 16) 0 (omega arith))

more : (k n : ℕ) (behind : List ℕ) → 16 ≤ n → digits_onto (suc k) 16 false n behind ≡ digits_onto k 16 false (n / 16) (glyph n ∷ behind)
more k n behind large = cond-false _ _ _ (ne_eqb (n / 16) 0 (λ e. omega arith))

one : (n : ℕ) → n < 16 → digits 16 false n ≡ glyph n ∷ []
unfolding digits
one n small = last 63 n [] small

two : (n : ℕ) → 16 ≤ n → n < 256 → digits 16 false n ≡ glyph (n / 16) ∷ glyph n ∷ []
unfolding digits
two n large small = more 63 n [] large ∙ last 62 (n / 16) (glyph n ∷ []) (omega arith)

three : (n : ℕ) → 256 ≤ n → n < 4096 → digits 16 false n ≡ glyph (n / 16 / 16) ∷ glyph (n / 16) ∷ glyph n ∷ []
unfolding digits
three n large small =
    more 63 n [] (omega arith) ∙ more 62 (n / 16) (glyph n ∷ []) (omega arith) ∙ last 61 (n / 16 / 16) (glyph (n / 16) ∷ glyph n ∷ []) (omega arith)

four : (n : ℕ) → 4096 ≤ n → n < 65536 → digits 16 false n ≡ glyph (n / 16 / 16 / 16) ∷ glyph (n / 16 / 16) ∷ glyph (n / 16) ∷ glyph n ∷ []
unfolding digits
four n large small =
    more 63 n [] (omega arith) ∙ more 62 (n / 16) (glyph n ∷ []) (omega arith) ∙ more 61 (n / 16 / 16) (glyph (n / 16) ∷ glyph n ∷ []) (omega arith)
    ∙ last 60 (n / 16 / 16 / 16) (glyph (n / 16 / 16) ∷ glyph (n / 16) ∷ glyph n ∷ []) (omega arith)

-- what `{:04x}` writes
abbrev padded : ℕ → List ℕ
padded n = padded_integral (format_spec 32 0 4 4 (2 ^ 64 - 1)) false [] (digits 16 false n)

padded_four : (n : ℕ) → n < 65536 → padded n ≡ glyph (n / 16 / 16 / 16) ∷ glyph (n / 16 / 16) ∷ glyph (n / 16) ∷ glyph n ∷ []
unfolding padded_integral char_count
padded_four n small = ⊎_elim
    (λ h. let a : n / 16 ≡ 0 = omega arith in rw (one n h, a))
    (λ l. ⊎_elim
    (λ h. let a : n / 16 / 16 ≡ 0 = omega arith in rw (two n l h, a))
    (λ l. ⊎_elim
    (λ h. let a : n / 16 / 16 / 16 ≡ 0 = omega arith in rw (three n l h, a))
    (λ l. rw (four n l small))
    (cases_lt n 4096))
    (cases_lt n 256))
    (cases_lt n 16)

glyph_ascii : (n : ℕ) → encode (hex_digit n) ≡ glyph n ∷ []
glyph_ascii n = encode_ascii (hex_digit n) (by (ltb (n % 16) 10))
  where
    by : (t : Bool) → cond t (48 + n % 16) (87 + n % 16) < 128
    by true = omega arith
    by false = omega arith

-- a unit that is escaped, as the format writes it
pub escape_written : (n : ℕ) → n < 65536 → codes "\\u{" ++ (padded n ++ codes "}") ≡ escape n
escape_written n small =
    let a : n / 16 / 16 / 16 ≡ n / 4096 = omega arith in
    let b : n / 16 / 16 ≡ n / 256 = omega arith in
    rw (padded_four n small, a, b, glyph_ascii (n / 4096), glyph_ascii (n / 256), glyph_ascii (n / 16), glyph_ascii n)
