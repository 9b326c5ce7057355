-- What the code's replies tell.
use Rattle.std.specs.Prelude.{◌≡◌, ℕ, List, length, Ok, Err, Result}
use Rattle.byte_parts.specs.Parts.{over}
use Rattle.wire.specs.Containers.{response}
use Rattle.wire.specs.Parameters.{listed}
use Rattle.wire.specs.declared.command.Command.{Command}
use Rattle.protocol.specs.declared.fault.OperationFault.{OperationFault}
use Rattle.protocol.specs.Faults.{ok, operation_fault_number, parameters_of}
use Rattle.protocol.specs.Machine as machine
use Rattle.responder.specs.declared.reply.Reply.{Reply}
use Rattle.looking.specs.Outcomes.{ShownLength, result_told}
use Rattle.looking.specs.declared.outcome.Done.{Done}

-- a reply but for the bytes of its data container, of which only the length is told
pub record Told : Type 0 where
  pub code : ℕ
  pub transaction : ℕ
  pub parameters : List ℕ
  pub data_length : ℕ

abbrev pub told : Reply → Told
told r = record { code = r.code; transaction = r.transaction; parameters = listed r.parameters; data_length = r.data_length }

-- the same of a reply of the session machine
abbrev pub told_by : machine.Reply → Told
told_by r = record { code = r.code; transaction = r.transaction; parameters = r.parameters; data_length = length r.sent }

-- the response container
abbrev pub tells : Told → List ℕ
tells t = response t.code t.transaction t.parameters

abbrev pub told_of : ℕ → Result ShownLength OperationFault → Told
told_of transaction (Ok d) = record { code = ok; transaction = transaction; parameters = d.parameters; data_length = d.data_length }
told_of transaction (Err f) = record { code = operation_fault_number f; transaction = transaction; parameters = parameters_of f; data_length = 0 }

-- the result, the buffer and the state are as the session machine has them
pub record Performed (a : machine.Answer) (c : Command) (r : Result Done OperationFault) (was later : List ℕ) (b : machine.State) : Type 0 where
  pub reply : told_of c.transaction (result_told r) ≡ told_by a.reply
  pub buffer : later ≡ over a.reply.sent was
  pub state : b ≡ a.state
