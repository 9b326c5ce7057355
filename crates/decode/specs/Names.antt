-- The names of codes.
use Rattle.std.specs.Prelude.{ℕ, cond, List, [], ◌∷◌, Some, None, Option, codes, ◌==◌}
use Rattle.wire.specs.declared.operation.OperationCode.{OperationCode}
use Rattle.wire.specs.declared.operation.OperationCode.TheVariants.{GetDeviceInfo, OpenSession, CloseSession, GetStorageIds, GetStorageInfo, GetObjectHandles, GetObjectInfo, GetObject, DeleteObject, SendObjectInfo, SendObject, GetPartialObject}

-- the name that stands beside a code, if there is one
abbrev pub name_in : List (ℕ × List ℕ) → ℕ → Option (List ℕ)
name_in [] code = None
name_in (row ∷ rows) code = cond (row.0 == code) (Some row.1) (name_in rows code)

abbrev pub operation_name : OperationCode → List ℕ
operation_name GetDeviceInfo = codes "GetDeviceInfo"
operation_name OpenSession = codes "OpenSession"
operation_name CloseSession = codes "CloseSession"
operation_name GetStorageIds = codes "GetStorageIDs"
operation_name GetStorageInfo = codes "GetStorageInfo"
operation_name GetObjectHandles = codes "GetObjectHandles"
operation_name GetObjectInfo = codes "GetObjectInfo"
operation_name GetObject = codes "GetObject"
operation_name DeleteObject = codes "DeleteObject"
operation_name SendObjectInfo = codes "SendObjectInfo"
operation_name SendObject = codes "SendObject"
operation_name GetPartialObject = codes "GetPartialObject"

abbrev pub response_names : List (ℕ × List ℕ)
response_names =
    (0x2001, codes "OK") ∷ (0x2002, codes "General_Error") ∷ (0x2003, codes "Session_Not_Open") ∷ (0x2004, codes "Invalid_TransactionID")
    ∷ (0x2005, codes "Operation_Not_Supported") ∷ (0x2006, codes "Parameter_Not_Supported") ∷ (0x2007, codes "Incomplete_Transfer")
    ∷ (0x2008, codes "Invalid_StorageID") ∷ (0x2009, codes "Invalid_ObjectHandle") ∷ (0x200B, codes "Invalid_ObjectFormatCode")
    ∷ (0x200C, codes "Store_Full") ∷ (0x200D, codes "Object_WriteProtected") ∷ (0x200E, codes "Store_Read_Only")
    ∷ (0x200F, codes "Access_Denied") ∷ (0x2014, codes "Specification_By_Format_Unsupported") ∷ (0x2015, codes "No_Valid_ObjectInfo")
    ∷ (0x201A, codes "Invalid_ParentObject") ∷ (0x201D, codes "Invalid_Parameter") ∷ (0x201E, codes "Session_Already_Open")
    ∷ (0x201F, codes "Transaction_Cancelled") ∷ (0xA806, codes "Invalid_Dataset") ∷ (0xA809, codes "Object_Too_Large") ∷ []
