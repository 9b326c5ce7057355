-- What a name's units stand for.
use Rattle.std.specs.Prelude.{ℕ, ◌+◌, ◌-◌, ◌*◌, Bool, cond, not, ◌&&◌, ◌||◌, List, [], ◌∷◌, Some, None, Option, nat_le, nat_lt}
use Rattle.std.proofs.Math.Utf8.{scalar}
use Rattle.std.specs.Int.{is_in_range}
use Rattle.inspect.specs.declared.text.Sign.{Sign}
use Rattle.inspect.specs.declared.text.Sign.TheVariants.{Plain, Escaped}

-- the first unit of a pair
abbrev pub is_high : ℕ → Bool
is_high u = nat_le 0xD800 u && nat_lt u 0xDC00

-- the second unit of a pair
abbrev pub is_low : ℕ → Bool
is_low u = nat_le 0xDC00 u && nat_lt u 0xE000

-- the character of a pair
abbrev pub pair_code : ℕ → ℕ → ℕ
pair_code h l = 0x10000 + (h - 0xD800) * 0x400 + (l - 0xDC00)

-- the character of two units, if they are a pair
abbrev pub paired : ℕ → ℕ → Option ℕ
paired h l = cond (is_high h && is_low l) (Some (pair_code h l)) None

-- a unit alone: half pairs and control characters are escaped
abbrev pub single : ℕ → Sign
single u = cond (scalar u && not (is_in_range 0 31 u || is_in_range 127 159 u)) (Plain u) (Escaped u)

-- the front of u ∷ us, whose second unit lies before the units `behind`
abbrev pub front_of : Option ℕ → ℕ → List ℕ → List ℕ → Sign × List ℕ
front_of None u us behind = (single u, us)
front_of (Some c) u us behind = (Plain c, behind)

-- the sign at the front and the units behind it
abbrev pub cut_sign : List ℕ → Option (Sign × List ℕ)
cut_sign [] = None
cut_sign (u ∷ []) = Some (single u, [])
cut_sign (u ∷ v ∷ us) = Some (front_of (paired u v) u (v ∷ us) us)
