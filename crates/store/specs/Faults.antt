-- The numbers of a store's refusals.
use Rattle.std.specs.Prelude.{ℕ}
use Rattle.store.specs.declared.fault.StoreFault.{StoreFault}
use Rattle.store.specs.declared.fault.StoreFault.TheVariants.{ReadOnly, InvalidDataset, NumberTaken, InvalidParent, Full, Absent, HasChildren}

abbrev pub store_fault_number : StoreFault → ℕ
store_fault_number ReadOnly = 0x200E
store_fault_number InvalidDataset = 0xA806
store_fault_number NumberTaken = 0x201D
store_fault_number InvalidParent = 0x201A
store_fault_number Full = 0x200C
store_fault_number Absent = 0x2009
store_fault_number HasChildren = 0x200F
