-- The session that a responder keeps, and what its own steps come to.
use Rattle.std.specs.Prelude.{Bool, true, Ok, Err, Result, nat_le}
use Rattle.protocol.specs.declared.fault.OperationFault.{OperationFault}
use Rattle.protocol.specs.declared.session.Session.{Session}
use Rattle.protocol.specs.declared.session.Session.TheVariants.{Closed, Open}
use Rattle.protocol.specs.Acting.{at_rest}
use Rattle.protocol.specs.Machine.{Gate, stops, passes_closed, passes_open}
use Rattle.wire.specs.declared.operation.Operation.{Operation}

-- no transaction beyond the last one is expected
abbrev pub expects_within : Session → Bool
expects_within Closed = true
expects_within (Open s) = nat_le s.expected 0xFFFFFFFE

-- what the session's own steps answer
abbrev pub admission : Gate → Result Operation OperationFault
admission (stops f s) = Err f
admission (passes_closed o) = Ok o
admission (passes_open o s) = Ok o

-- the session after them
abbrev pub session_at : Gate → Session
session_at (stops f s) = s
session_at (passes_closed o) = Closed
session_at (passes_open o s) = Open s

-- the session with no announcement
abbrev pub rested : Session → Session
rested Closed = Closed
rested (Open s) = Open (at_rest s)
