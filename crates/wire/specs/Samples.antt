-- Bytes written out by hand, against fields that moved in a writer and its reader together.
use Rattle.std.specs.Prelude.{◌≡◌, ℕ, List, [], ◌∷◌, Some, codes}
use Rattle.wire.specs.Containers.{container, command_type, command_in, numbers}
use Rattle.wire.specs.Operations.{open_session}
use Rattle.wire.specs.Strings.{string}

-- OpenSession of session 1
abbrev pub opening : List ℕ
opening =
    0x10 ∷ 0x00 ∷ 0x00 ∷ 0x00 ∷ 0x01 ∷ 0x00 ∷ 0x02 ∷ 0x10 ∷ 0x00 ∷ 0x00 ∷ 0x00 ∷ 0x00 ∷ 0x01 ∷ 0x00 ∷ 0x00 ∷ 0x00 ∷ []

-- what these bytes stand for
pub record Samples : Type 0 where
  pub empty_string : string [] ≡ 0x00 ∷ []
  pub one_letter : string (codes "A") ≡ 0x02 ∷ 0x41 ∷ 0x00 ∷ 0x00 ∷ 0x00 ∷ []
  pub command : container command_type open_session 0 (numbers 4 (1 ∷ [])) ≡ opening
  pub command_read : command_in opening ≡ Some (record { code = open_session; transaction = 0; parameters = 1 ∷ 0 ∷ 0 ∷ 0 ∷ 0 ∷ [] })
