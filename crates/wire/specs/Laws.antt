-- What is written is read back: each encoding determines what it encodes.
use Rattle.std.specs.Prelude.{◌≡◌, ℕ, ◌+◌, ◌-◌, ◌^◌, ◌<◌, ◌≤◌, List, ◌++◌, length, replicate, Some}
use Rattle.std.specs.List.{AllByRecursion}
use Rattle.byte_parts.specs.Numbers.{Bytes}
use Rattle.wire.specs.Containers.{container, command_type, command_in, payload_in, data_container, data_type, head, numbers, response}
use Rattle.wire.specs.Readers.{Response, response_in, array_in}
use Rattle.wire.specs.Strings.{string, string_in, Read, array}
use Rattle.wire.specs.declared.command.Command.{Command}

-- a unit that may stand in a string
abbrev pub UnitFits : ℕ → Type 0
UnitFits u = (0 < u) × (u < 2 ^ 16)

-- the reader of strings takes each string off the front, whatever lies behind it, and takes nothing else
pub record StringsReadBack : Type 0 where
  pub back : (us rest : List ℕ) → AllByRecursion UnitFits us → string_in (string us ++ rest) ≡ Some (record { units = us; rest = rest })
  pub only : (bs : List ℕ) (r : Read) → Bytes bs → string_in bs ≡ Some r → bs ≡ string r.units ++ r.rest

-- the parameters of a command, the missing ones 0
abbrev pub five : List ℕ → List ℕ
five ps = ps ++ replicate (5 - length ps) 0

-- the parameters that the bytes of a command carry
pub record Carried (bs : List ℕ) (c : Command) : Type 0 where
  pub parameters : List ℕ
  pub few : length parameters ≤ 5
  pub missing : c.parameters ≡ five parameters
  pub is : bs ≡ container command_type c.code c.transaction (numbers 4 parameters)

-- the reader of commands takes each command container, and nothing else
pub record CommandsReadBack : Type 0 where
  pub back :
      (code transaction : ℕ) (ps : List ℕ) → code < 2 ^ 16 → transaction < 2 ^ 32 → AllByRecursion (λ p. p < 2 ^ 32) ps → length ps ≤ 5
      → command_in (container command_type code transaction (numbers 4 ps)) ≡ Some (record { code = code; transaction = transaction; parameters = five ps })
  pub only : (bs : List ℕ) (c : Command) → Bytes bs → command_in bs ≡ Some c → Carried bs c

-- the reader of data takes each data container of the code and transaction, and nothing else
pub record DataReadsBack : Type 0 where
  pub back :
      (code transaction : ℕ) (payload : List ℕ) → code < 2 ^ 16 → transaction < 2 ^ 32 → 12 + length payload < 2 ^ 32
      → payload_in code transaction (data_container code transaction payload) ≡ Some payload
  pub only :
      (code transaction : ℕ) (bs payload : List ℕ) → Bytes bs → payload_in code transaction bs ≡ Some payload
      → bs ≡ data_container code transaction payload

-- a payload behind the head of its length is the whole container
abbrev pub HeadsJoin : Type 0
HeadsJoin =
    (code transaction : ℕ) (payload : List ℕ) → head data_type code transaction (length payload) ++ payload ≡ data_container code transaction payload

-- a response whose numbers fit their fields
pub record ResponseFits (r : Response) : Type 0 where
  pub code : r.code < 2 ^ 16
  pub transaction : r.transaction < 2 ^ 32
  pub parameters : AllByRecursion (λ p. p < 2 ^ 32) r.parameters
  pub few : length r.parameters ≤ 5

-- its bytes
abbrev pub response_bytes : Response → List ℕ
response_bytes r = response r.code r.transaction r.parameters

-- a response determines its bytes, and its bytes determine it
pub record ResponsesReadBack : Type 0 where
  pub back : (r : Response) → ResponseFits r → response_in (response_bytes r) ≡ Some r
  pub only : (bs : List ℕ) (r : Response) → Bytes bs → response_in bs ≡ Some r → bs ≡ response_bytes r
  pub one : (r s : Response) → ResponseFits r → ResponseFits s → response_bytes r ≡ response_bytes s → r ≡ s

-- arrays of numbers of k bytes
abbrev pub ArraysReadBack : Type 0
ArraysReadBack =
    (k : ℕ) (ns : List ℕ) → AllByRecursion (λ n. n < 256 ^ k) ns → length ns < 2 ^ 32 → array_in k (array k ns) ≡ Some ns
