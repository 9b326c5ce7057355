-- Strings and arrays.
use Rattle.std.specs.Prelude.{ℕ, zero, suc, ◌+◌, ◌*◌, cond, List, [], ◌∷◌, ◌++◌, length, Some, None, Option, ◌==◌}
use Rattle.byte_parts.specs.Numbers.{le}
use Rattle.object.specs.Names.{unit_bytes}
use Rattle.wire.specs.Containers.{numbers}

-- a string: how many units with the closing 0, the units, the closing 0; the empty one is a count of 0
abbrev pub string : List ℕ → List ℕ
string [] = 0 ∷ []
string (u ∷ us) = suc (suc (length us)) ∷ (unit_bytes (u ∷ us) ++ (0 ∷ 0 ∷ []))

-- what was read, and the bytes behind it
pub record Read : Type 0 where
  pub units : List ℕ
  pub rest : List ℕ

-- a unit before those of a reading that went well
abbrev pub with_unit : ℕ → Option Read → Option Read
with_unit u None = None
with_unit u (Some r) = Some (record { units = u ∷ r.units; rest = r.rest })

-- n units other than 0, then a 0
abbrev pub closed_units : ℕ → List ℕ → Option Read
closed_units n [] = None
closed_units n (a ∷ []) = None
closed_units zero (a ∷ b ∷ bs) = cond (a + 256 * b == 0) (Some (record { units = []; rest = bs })) None
closed_units (suc n) (a ∷ b ∷ bs) = cond (a + 256 * b == 0) None (with_unit (a + 256 * b) (closed_units n bs))

-- the string at the front, if it is well formed: a count of 1 is not
abbrev pub string_in : List ℕ → Option Read
string_in [] = None
string_in (zero ∷ bs) = Some (record { units = []; rest = bs })
string_in (suc zero ∷ bs) = None
string_in (suc (suc n) ∷ bs) = closed_units (suc n) bs

-- an array of numbers of k bytes: their count in 4 bytes, then the numbers
unfoldable pub array : ℕ → List ℕ → List ℕ
array k ns = le 4 (length ns) ++ numbers k ns
