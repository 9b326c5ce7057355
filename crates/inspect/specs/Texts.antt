-- The text of a name.
use Rattle.std.specs.Prelude.{ℕ, ◌/◌, ◌%◌, cond, ◌&&◌, List, [], ◌∷◌, ◌++◌, codes}
use Rattle.std.proofs.Math.Utf8.{encode}
use Rattle.std.specs.Char.{digit_char}
use Rattle.inspect.specs.declared.text.Sign.{Sign}
use Rattle.inspect.specs.declared.text.Sign.TheVariants.{Plain, Escaped}
use Rattle.inspect.specs.Signs.{is_high, is_low, pair_code, single}

-- the lowest hexadecimal digit
abbrev pub hex_digit : ℕ → ℕ
hex_digit n = digit_char (n % 16)

-- a unit as \u{ and its four hexadecimal digits and }
abbrev pub escape : ℕ → List ℕ
escape u = codes "\\u{" ++ (encode (hex_digit (u / 4096)) ++ (encode (hex_digit (u / 256)) ++ (encode (hex_digit (u / 16)) ++ (encode (hex_digit u) ++ codes "}"))))

-- the bytes that show a sign
abbrev pub sign_text : Sign → List ℕ
sign_text (Plain c) = encode c
sign_text (Escaped u) = escape u

-- the bytes that show units
abbrev pub units_text : List ℕ → List ℕ
units_text [] = []
units_text (u ∷ []) = sign_text (single u)
units_text (u ∷ v ∷ us) = cond (is_high u && is_low v) (encode (pair_code u v) ++ units_text us) (sign_text (single u) ++ units_text (v ∷ us))
