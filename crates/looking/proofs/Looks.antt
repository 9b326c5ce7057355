-- From what a writer placed to what an operation that looks shows.
use Rattle.std.proofs.Common.{◌≡◌, ℕ, List, Ok, Result, arith}
use Rattle.wire.specs.declared.command.Command.{Command}
use Rattle.wire.specs.declared.fault.DatasetFault.{DatasetFault}
use Rattle.wire.specs.Writing.{placed}
use Rattle.protocol.specs.declared.fault.OperationFault.{OperationFault}
use Rattle.protocol.specs.Machine.{data_of}
use Rattle.looking.specs.Looks.{shown_in, shown_by}
use Rattle.looking.specs.Outcomes.{ShownLength}

abbrev pub Written : Type 0
Written = Result ShownLength OperationFault × List ℕ

-- a payload whose container was placed is shown
pub shown_placed : (c : Command) (parameters payload out later : List ℕ) (w : Result ℕ DatasetFault)
    → (w, later) ≡ placed (data_of c payload) out
    → ◌≡◌ {A = Written} (shown_by parameters w, later) (shown_in c (Ok (record { parameters = parameters; payload = payload })) out)
shown_placed c parameters payload out later w e = grind arith
