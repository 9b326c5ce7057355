-- What a call does to a responder. A model would say it shorter, but with one a caller loses what the stores hold once the responder is gone.
use Rattle.std.specs.Prelude.{◌≡◌, ℕ, List, Result}
use Rattle.store.specs.declared.read.ReadStore.{Ghosts as Reads}
use Rattle.store.specs.declared.write.WriteStore.{Ghosts as Writes}
use Rattle.wire.specs.declared.command.Command.{Command}
use Rattle.wire.specs.declared.response.Parameters.{Parameters}
use Rattle.protocol.specs.declared.fault.OperationFault.{OperationFault}
use Rattle.protocol.specs.Acting.{Outcome}
use Rattle.protocol.specs.Machine as machine
use Rattle.protocol.specs.Storages.{Storages}
use Rattle.looking.specs.declared.outcome.Done.{Done}
use Rattle.responder.specs.Acts.{Acted}
use Rattle.responder.specs.Replies.{Performed}
use Rattle.responder.specs.States.{state_of}
use Rattle.responder.specs.declared.responder.Responder.{Responder}

-- an operation acted by its outcome over the storages as they were, and the first store is still the one that was lent
pub record Serves {W R : Type 0} (r : Reads W) (w : Writes W) (s : Reads R) (before after : Responder W R) (act : Storages → Outcome) (result : Result Parameters OperationFault) : Type 0 where
  pub acted : Acted (state_of r w s before).storages (act (state_of r w s before).storages) result (state_of r w s after)
  pub lender : after.first.ghost_name ≡ before.first.ghost_name

-- an operation answered and left what the session machine has for the state as it was, and the first store is still the one that was lent
pub record Performs {W R : Type 0} (r : Reads W) (w : Writes W) (s : Reads R) (before after : Responder W R) (answer : machine.State → machine.Answer) (c : Command) (result : Result Done OperationFault) (was later : List ℕ) : Type 0 where
  pub performed : Performed (answer (state_of r w s before)) c result was later (state_of r w s after)
  pub lender : after.first.ghost_name ≡ before.first.ghost_name
