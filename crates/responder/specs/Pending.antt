-- Commands that are owed a reply.
use Rattle.std.specs.Prelude.{ℕ, List, Some, None, Ok, Err, Option, Result}
use Rattle.wire.specs.Containers.{command_in}
use Rattle.wire.specs.Faults.{stray}
use Rattle.wire.specs.declared.command.Command.{Command}
use Rattle.wire.specs.declared.fault.StrayContainer.{StrayContainer}
use Rattle.responder.specs.declared.command.PendingCommand.{PendingCommand}

-- a command that is there is pending; else the container is stray
abbrev pub pending : Option Command → Result PendingCommand StrayContainer
pending None = Err stray
pending (Some c) = Ok (record { command = c })

abbrev pub taken : List ℕ → Result PendingCommand StrayContainer
taken bytes = pending (command_in bytes)
