-- Protections and their numbers.
use Rattle.std.specs.Prelude.{ℕ, List, [], ◌∷◌, Option, Result}
use Rattle.object.specs.declared.protection.Protection.{Protection}
use Rattle.object.specs.declared.protection.Protection.TheVariants.{Unprotected, ReadOnly}
use Rattle.byte_parts.specs.declared.number.UnknownNumber.{UnknownNumber}
use Rattle.object.specs.Numbered.{with_number, told_number}

abbrev pub protection_number : Protection → ℕ
protection_number Unprotected = 0
protection_number ReadOnly = 1

-- every protection, by ascending number
abbrev pub protections : List Protection
protections = Unprotected ∷ ReadOnly ∷ []

abbrev pub protection_of : ℕ → Option Protection
protection_of n = with_number protection_number protections n

-- the same, where a number that is no protection's is told
abbrev pub protection_told : ℕ → Result Protection UnknownNumber
protection_told n = told_number protection_number protections n
