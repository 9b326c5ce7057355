-- Formats and their numbers.
use Rattle.std.specs.Prelude.{ℕ, Bool, true, false, List, [], ◌∷◌, Option, Result}
use Rattle.object.specs.declared.format.Format.{Format}
use Rattle.object.specs.declared.format.Format.TheVariants.{Undefined, Association, Text}
use Rattle.byte_parts.specs.declared.number.UnknownNumber.{UnknownNumber}
use Rattle.object.specs.Numbered.{with_number, told_number}

abbrev pub format_number : Format → ℕ
format_number Undefined = 0x3000
format_number Association = 0x3001
format_number Text = 0x3004

-- every format, by ascending number
abbrev pub formats : List Format
formats = Undefined ∷ Association ∷ Text ∷ []

abbrev pub format_of : ℕ → Option Format
format_of n = with_number format_number formats n

-- the same, where a number that is no format's is told
abbrev pub format_told : ℕ → Result Format UnknownNumber
format_told n = told_number format_number formats n

-- a folder is an object of the format Association
abbrev pub is_folder : Format → Bool
is_folder Undefined = false
is_folder Association = true
is_folder Text = false
