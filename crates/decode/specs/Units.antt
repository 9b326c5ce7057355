-- The text of a unit.
use Rattle.std.specs.Prelude.{ℕ, false, not, ◌&&◌, cond, List, ◌++◌, codes, encode_utf8}
use Rattle.std.specs.Char.{is_control}
use Rattle.std.specs.Fmt.{radix_digits}
use Rattle.std.proofs.Math.Utf8.{scalar}

-- a unit that is half of no pair, and no control character, is a character; another is escaped
abbrev pub unit_text : ℕ → List ℕ
unit_text u = cond (scalar u && not (is_control u)) (encode_utf8 u) (codes "\\u{" ++ (radix_digits 16 false u ++ codes "}"))
