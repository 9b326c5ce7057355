-- Two stores of any makes as the two storages.
use Rattle.store.specs.declared.read.ReadStore.{Ghosts as Reads}
use Rattle.store.specs.declared.write.WriteStore.{Ghosts as Writes}
use Rattle.protocol.specs.Storages.{Storages}

-- what two stores hold, and whether the first is locked
abbrev pub storages_of : {W R : Type 0} → Reads W → Writes W → Reads R → W → R → Storages
storages_of r w s first second = record { first = r.contents first; locked = w.locked first; second = s.contents second }
