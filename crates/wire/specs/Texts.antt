-- What the reader of a string hands on.
use Rattle.std.specs.Prelude.{ℕ, List, Some, Option}
use Rattle.object.specs.Names.{units_in}
use Rattle.wire.specs.declared.string.Text.{Text}
use Rattle.wire.specs.Strings.{Read}

-- the units that a text's bytes hold, and the bytes behind it
abbrev pub text_parts : Text → Option (List ℕ) × List ℕ
text_parts t = (units_in t.units.now, t.rest.now)

-- the same of a string as it is defined
abbrev pub read_parts : Read → Option (List ℕ) × List ℕ
read_parts r = (Some r.units, r.rest)
