-- The kinds of container and their types.
use Rattle.std.specs.Prelude.{ℕ, List, [], ◌∷◌, Option, Result}
use Rattle.byte_parts.specs.declared.number.UnknownNumber.{UnknownNumber}
use Rattle.object.specs.Numbered.{with_number, told_number}
use Rattle.wire.specs.Containers.{command_type, data_type, response_type}
use Rattle.wire.specs.declared.container.ContainerKind.{ContainerKind}
use Rattle.wire.specs.declared.container.ContainerKind.TheVariants.{Command, Data, Response}

abbrev pub kind_number : ContainerKind → ℕ
kind_number Command = command_type
kind_number Data = data_type
kind_number Response = response_type

-- every kind, by ascending type
abbrev pub kinds : List ContainerKind
kinds = Command ∷ Data ∷ Response ∷ []

abbrev pub kind_of : ℕ → Option ContainerKind
kind_of n = with_number kind_number kinds n

-- the same, where a type that is no container's is told
abbrev pub kind_told : ℕ → Result ContainerKind UnknownNumber
kind_told n = told_number kind_number kinds n
