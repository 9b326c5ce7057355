-- The operations and their parameter counts: one table.
use Rattle.std.specs.Prelude.{ℕ, List, [], ◌∷◌, map, Option, ◌==◌}
use Rattle.std.specs.List.{find}
use Rattle.wire.specs.declared.operation.Operation.{Operation}
use Rattle.wire.specs.declared.operation.OperationCode.{OperationCode}
use Rattle.wire.specs.declared.operation.OperationCode.TheVariants.{GetDeviceInfo, OpenSession, CloseSession, GetStorageIds, GetStorageInfo, GetObjectHandles, GetObjectInfo, GetObject, DeleteObject, SendObjectInfo, SendObject, GetPartialObject}

-- the codes
abbrev pub get_device_info : ℕ
get_device_info = 0x1001

abbrev pub open_session : ℕ
open_session = 0x1002

abbrev pub close_session : ℕ
close_session = 0x1003

abbrev pub get_storage_ids : ℕ
get_storage_ids = 0x1004

abbrev pub get_storage_info : ℕ
get_storage_info = 0x1005

abbrev pub get_object_handles : ℕ
get_object_handles = 0x1007

abbrev pub get_object_info : ℕ
get_object_info = 0x1008

abbrev pub get_object : ℕ
get_object = 0x1009

abbrev pub delete_object : ℕ
delete_object = 0x100B

abbrev pub send_object_info : ℕ
send_object_info = 0x100C

abbrev pub send_object : ℕ
send_object = 0x100D

abbrev pub get_partial_object : ℕ
get_partial_object = 0x101B

abbrev pub operation_number : OperationCode → ℕ
operation_number GetDeviceInfo = get_device_info
operation_number OpenSession = open_session
operation_number CloseSession = close_session
operation_number GetStorageIds = get_storage_ids
operation_number GetStorageInfo = get_storage_info
operation_number GetObjectHandles = get_object_handles
operation_number GetObjectInfo = get_object_info
operation_number GetObject = get_object
operation_number DeleteObject = delete_object
operation_number SendObjectInfo = send_object_info
operation_number SendObject = send_object
operation_number GetPartialObject = get_partial_object

-- an operation's code, and how many parameters it has
abbrev pub row : OperationCode → ℕ → Operation
row code parameters = record { code = code; parameters = parameters }

-- every operation, by ascending code
abbrev pub operations : List Operation
operations =
    row GetDeviceInfo 0 ∷ row OpenSession 1 ∷ row CloseSession 0 ∷ row GetStorageIds 0 ∷ row GetStorageInfo 1
    ∷ row GetObjectHandles 3 ∷ row GetObjectInfo 1 ∷ row GetObject 1 ∷ row DeleteObject 2 ∷ row SendObjectInfo 2
    ∷ row SendObject 0 ∷ row GetPartialObject 3 ∷ []

-- the first row with this code, if there is one
abbrev pub row_in : List Operation → ℕ → Option Operation
row_in os code = find (λ o. operation_number o.code == code) os

-- the operation with this code, if it is known
unfoldable pub operation_of : ℕ → Option Operation
operation_of code = row_in operations code

-- the codes that the device tells
abbrev pub operation_codes : List ℕ
operation_codes = map (λ o. operation_number o.code) operations
