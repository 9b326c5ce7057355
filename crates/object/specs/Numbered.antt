-- Kinds of things that have a number each, given by one definition for all of them.
use Rattle.std.specs.Prelude.{ℕ, cond, List, [], ◌∷◌, Some, None, Option, Result, ◌==◌}
use Rattle.std.specs.Option.{ok_or}
use Rattle.byte_parts.specs.declared.number.UnknownNumber.{UnknownNumber}

-- the first of the list that has this number, if any does
abbrev pub with_number : {A : Type 0} → (A → ℕ) → List A → ℕ → Option A
with_number number [] n = None
with_number number (x ∷ xs) n = cond (n == number x) (Some x) (with_number number xs n)

-- the same, where a number that none of the list has is told
abbrev pub told_number : {A : Type 0} → (A → ℕ) → List A → ℕ → Result A UnknownNumber
told_number number xs n = ok_or (with_number number xs n) (record { number = n })
