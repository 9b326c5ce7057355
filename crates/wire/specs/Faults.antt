-- The refusals of readers and writers, and their numbers.
use Rattle.std.specs.Prelude.{ℕ}
use Rattle.wire.specs.declared.fault.StrayContainer.{StrayContainer}
use Rattle.wire.specs.declared.fault.DatasetFault.{DatasetFault}
use Rattle.wire.specs.declared.fault.DatasetFault.TheVariants.{IncompleteTransfer, InvalidDataset, BufferTooShort}

-- the one refusal of a stray container
abbrev pub stray : StrayContainer
stray = record {}

-- its number is not a response code: no response is owed
abbrev pub stray_number : StrayContainer → ℕ
stray_number s = 1

-- the response code that tells of a fault
abbrev pub dataset_fault_number : DatasetFault → ℕ
dataset_fault_number IncompleteTransfer = 0x2007
dataset_fault_number InvalidDataset = 0xA806
dataset_fault_number BufferTooShort = 0x2002
