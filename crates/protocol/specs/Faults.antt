-- The numbers of refusals, and the one parameter that a refusal can have.
use Rattle.std.specs.Prelude.{◌≡◌, ℕ, List, [], ◌∷◌}
use Rattle.store.specs.Faults.{store_fault_number}
use Rattle.store.specs.declared.fault.StoreFault.{StoreFault}
use Rattle.store.specs.declared.fault.StoreFault.TheVariants as of_stores
use Rattle.wire.specs.Faults.{dataset_fault_number}
use Rattle.wire.specs.declared.fault.DatasetFault.{DatasetFault}
use Rattle.wire.specs.declared.fault.DatasetFault.TheVariants as of_datasets
use Rattle.protocol.specs.declared.fault.OperationFault.{OperationFault}
use Rattle.protocol.specs.declared.fault.OperationFault.TheVariants.{GeneralError, SessionNotOpen, InvalidTransaction, OperationNotSupported, ParameterNotSupported, IncompleteTransfer, InvalidStorage, InvalidHandle, InvalidFormat, StoreFull, ObjectProtected, StoreReadOnly, AccessDenied, FormatNotSupported, NoObjectInfo, InvalidParent, InvalidParameter, SessionAlreadyOpen, TransactionCancelled, InvalidDataset, ObjectTooLarge}

-- the code of success
abbrev pub ok : ℕ
ok = 0x2001

abbrev pub operation_fault_number : OperationFault → ℕ
operation_fault_number GeneralError = 0x2002
operation_fault_number SessionNotOpen = 0x2003
operation_fault_number InvalidTransaction = 0x2004
operation_fault_number OperationNotSupported = 0x2005
operation_fault_number ParameterNotSupported = 0x2006
operation_fault_number IncompleteTransfer = 0x2007
operation_fault_number InvalidStorage = 0x2008
operation_fault_number InvalidHandle = 0x2009
operation_fault_number InvalidFormat = 0x200B
operation_fault_number StoreFull = 0x200C
operation_fault_number ObjectProtected = 0x200D
operation_fault_number StoreReadOnly = 0x200E
operation_fault_number AccessDenied = 0x200F
operation_fault_number FormatNotSupported = 0x2014
operation_fault_number NoObjectInfo = 0x2015
operation_fault_number InvalidParent = 0x201A
operation_fault_number InvalidParameter = 0x201D
operation_fault_number (SessionAlreadyOpen id) = 0x201E
operation_fault_number TransactionCancelled = 0x201F
operation_fault_number InvalidDataset = 0xA806
operation_fault_number ObjectTooLarge = 0xA809

-- no refusal has a parameter but the id of the session that is open already
abbrev pub parameters_of : OperationFault → List ℕ
parameters_of GeneralError = []
parameters_of SessionNotOpen = []
parameters_of InvalidTransaction = []
parameters_of OperationNotSupported = []
parameters_of ParameterNotSupported = []
parameters_of IncompleteTransfer = []
parameters_of InvalidStorage = []
parameters_of InvalidHandle = []
parameters_of InvalidFormat = []
parameters_of StoreFull = []
parameters_of ObjectProtected = []
parameters_of StoreReadOnly = []
parameters_of AccessDenied = []
parameters_of FormatNotSupported = []
parameters_of NoObjectInfo = []
parameters_of InvalidParent = []
parameters_of InvalidParameter = []
parameters_of (SessionAlreadyOpen id) = id ∷ []
parameters_of TransactionCancelled = []
parameters_of InvalidDataset = []
parameters_of ObjectTooLarge = []

-- a store's or a dataset's fault as an operation's, with the same number
abbrev pub of_store : StoreFault → OperationFault
of_store of_stores.ReadOnly = StoreReadOnly
of_store of_stores.InvalidDataset = InvalidDataset
of_store of_stores.NumberTaken = InvalidParameter
of_store of_stores.InvalidParent = InvalidParent
of_store of_stores.Full = StoreFull
of_store of_stores.Absent = InvalidHandle
of_store of_stores.HasChildren = AccessDenied

abbrev pub of_dataset : DatasetFault → OperationFault
of_dataset of_datasets.IncompleteTransfer = IncompleteTransfer
of_dataset of_datasets.InvalidDataset = InvalidDataset
of_dataset of_datasets.BufferTooShort = GeneralError

-- a fault is carried up with its number unaltered
pub record NumbersCarried : Type 0 where
  pub stores : (f : StoreFault) → operation_fault_number (of_store f) ≡ store_fault_number f
  pub datasets : (f : DatasetFault) → operation_fault_number (of_dataset f) ≡ dataset_fault_number f
