-- What a cancel comes to, by the session's own steps.
use Rattle.std.proofs.Common.{◌≡◌, Err, arith}
use Rattle.std.specs.Result.{result_and}
use Rattle.wire.specs.declared.command.Command.{Command}
use Rattle.protocol.specs.declared.fault.OperationFault.TheVariants.{TransactionCancelled}
use Rattle.protocol.specs.Storages.{Storages}
use Rattle.protocol.specs.Machine.{State, Gate, spared}
use Rattle.looking.specs.Outcomes.{result_told}
use Rattle.responder.specs.Sessions.{admission, session_at}
use Rattle.responder.specs.Replies.{told_by, told_of}

pub spared_told : (g : Gate) (p : Storages) (c : Command) → told_of c.transaction (result_told (result_and (admission g) (Err TransactionCancelled))) ≡ told_by (spared g p c).reply
spared_told g p c = grind arith

pub spared_state : (g : Gate) (p : Storages) (c : Command) → ◌≡◌ {A = State} (record { storages = p; session = session_at g }) (spared g p c).state
spared_state g p c = grind arith
