-- The refusal to make a store, and its number.
use Rattle.std.specs.Prelude.{◌≡◌, ℕ, Bool, false}
use Rattle.table.specs.declared.fault.WrongMemory.{WrongMemory}
use Rattle.table.specs.declared.fault.WrongMemory.TheVariants.{OutOfRange}

abbrev pub wrong_memory_number : WrongMemory → ℕ
wrong_memory_number OutOfRange = 2

-- the refusal of memory that does not suit
pub record Refused (suited : Bool) (fault : WrongMemory) : Type 0 where
  pub unsuited : suited ≡ false
  pub fault_is : fault ≡ OutOfRange
