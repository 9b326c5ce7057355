-- Names as lists of units, and as bytes.
use Rattle.std.specs.Prelude.{◌≡◌, ℕ, ◌+◌, ◌-◌, ◌*◌, Bool, true, false, List, [], ◌∷◌, ◌++◌, length, take, replicate, Some, None, Option, refl}
use Rattle.byte_parts.specs.Numbers.{le}
use Rattle.object.specs.declared.name.Name.{Name}
use Rattle.object.specs.Legal.{stored_name}

-- a name's units
abbrev pub units_of : Name → List ℕ
units_of n = take n.len n.units

-- the 63 cells that hold these units
abbrev pub cells : List ℕ → List ℕ
cells us = us ++ replicate (63 - length us) 0

abbrev pub named_if : (us : List ℕ) (t : Bool) → stored_name (length us) (cells us) ≡ t → Option Name
named_if us true q = Some (record { units = cells us; len = length us; legal = q })
named_if us false q = None

-- the name with these units, if they are legal
unfoldable pub named : List ℕ → Option Name
named us = named_if us (stored_name (length us) (cells us)) refl

-- units as bytes, two each
abbrev pub unit_bytes : List ℕ → List ℕ
unit_bytes [] = []
unit_bytes (u ∷ us) = le 2 u ++ unit_bytes us

-- us before the units of a reading that went well
abbrev pub with_units : List ℕ → Option (List ℕ) → Option (List ℕ)
with_units us None = None
with_units us (Some vs) = Some (us ++ vs)

-- the units that bytes hold, if they are whole
abbrev pub units_in : List ℕ → Option (List ℕ)
units_in [] = Some []
units_in (a ∷ []) = None
units_in (a ∷ b ∷ bs) = with_units ((a + 256 * b) ∷ []) (units_in bs)

abbrev pub named_some : Option (List ℕ) → Option Name
named_some None = None
named_some (Some us) = named us

-- the legal name that bytes hold, if they hold one
abbrev pub name_in : List ℕ → Option Name
name_in bs = named_some (units_in bs)
