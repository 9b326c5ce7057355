-- What an accepted operation comes to.
use Rattle.std.specs.Prelude.{ℕ, List, Ok, Err, Result}
use Rattle.wire.specs.Parameters.{listed}
use Rattle.protocol.specs.declared.fault.OperationFault.{OperationFault}
use Rattle.looking.specs.declared.outcome.Done.{Done}

-- the reply's parameters, and the length of the data container
pub record ShownLength : Type 0 where
  pub parameters : List ℕ
  pub data_length : ℕ

abbrev pub done_told : Done → ShownLength
done_told d = record { parameters = listed d.parameters; data_length = d.data_length }

abbrev pub result_told : Result Done OperationFault → Result ShownLength OperationFault
result_told (Ok d) = Ok (done_told d)
result_told (Err f) = Err f
