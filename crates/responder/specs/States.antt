-- What a responder means: the state of the session machine.
use Rattle.store.specs.declared.read.ReadStore.{Ghosts as Reads}
use Rattle.store.specs.declared.write.WriteStore.{Ghosts as Writes}
use Rattle.protocol.specs.Pairs.{storages_of}
use Rattle.protocol.specs.Machine.{State}
use Rattle.responder.specs.declared.responder.Responder.{Responder}

-- a responder's two stores and its session
abbrev pub state_of : {W R : Type 0} → Reads W → Writes W → Reads R → Responder W R → State
state_of r w s b = record { storages = storages_of r w s b.first.now b.second.now; session = b.session.session }
