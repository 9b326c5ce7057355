-- Containers: a head of 12 bytes, then the payload.
use Rattle.std.specs.Prelude.{ℕ, ◌+◌, ◌%◌, Bool, cond, ◌&&◌, List, [], ◌∷◌, ◌++◌, map, length, take, drop, Some, None, Option, ◌==◌, nat_le}
use Rattle.byte_parts.specs.Numbers.{le, value}
use Rattle.wire.specs.declared.command.Command.{Command}
use Rattle.wire.specs.declared.container.Heading.{Heading}

-- the types of container
abbrev pub command_type : ℕ
command_type = 1

abbrev pub data_type : ℕ
data_type = 2

abbrev pub response_type : ℕ
response_type = 3

-- the number in the k bytes at a place; missing bytes count as 0
abbrev pub number_at : ℕ → ℕ → List ℕ → ℕ
number_at k place bs = value (take k (drop place bs))

-- numbers of k bytes, one behind the other
abbrev pub numbers : ℕ → List ℕ → List ℕ
numbers k [] = []
numbers k (n ∷ ns) = le k n ++ numbers k ns

-- the length with the head, the type, the code, the transaction and the payload
unfoldable pub container : ℕ → ℕ → ℕ → List ℕ → List ℕ
container kind code transaction payload =
    le 4 (12 + length payload) ++ (le 2 kind ++ (le 2 code ++ (le 4 transaction ++ payload)))

-- the head of a container whose payload has so many bytes
unfoldable pub head : ℕ → ℕ → ℕ → ℕ → List ℕ
head kind code transaction len = le 4 (12 + len) ++ (le 2 kind ++ (le 2 code ++ le 4 transaction))

-- the bytes are one container of this type
abbrev pub is_container : ℕ → List ℕ → Bool
is_container kind bs = nat_le 12 (length bs) && (number_at 4 0 bs == length bs && number_at 2 4 bs == kind)

-- a command has at most five parameters of 4 bytes
abbrev pub is_command : List ℕ → Bool
is_command bs = is_container command_type bs && (nat_le (length bs) 32 && length bs % 4 == 0)

-- the command that the bytes are; a missing parameter counts as 0
unfoldable pub command_in : List ℕ → Option Command
command_in bs =
    cond (is_command bs)
    (Some (record {
      code = number_at 2 6 bs;
      transaction = number_at 4 8 bs;
      parameters = map (λ place. number_at 4 place bs) (12 ∷ 16 ∷ 20 ∷ 24 ∷ 28 ∷ []);
    }))
    None

-- what the head of a command's data container says
abbrev pub heading_of : Command → Heading
heading_of c = record { code = c.code; transaction = c.transaction }

-- the bytes are one data container of this code and transaction
abbrev pub is_data : ℕ → ℕ → List ℕ → Bool
is_data code transaction bs = is_container data_type bs && (number_at 2 6 bs == code && number_at 4 8 bs == transaction)

-- its payload
unfoldable pub payload_in : ℕ → ℕ → List ℕ → Option (List ℕ)
payload_in code transaction bs =
    cond (is_data code transaction bs) (Some (drop 12 bs)) None

-- a data container
abbrev pub data_container : ℕ → ℕ → List ℕ → List ℕ
data_container code transaction payload = container data_type code transaction payload

-- a response carries its parameters as its payload
abbrev pub response : ℕ → ℕ → List ℕ → List ℕ
response code transaction parameters = container response_type code transaction (numbers 4 parameters)
