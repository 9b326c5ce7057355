-- Two stores of any makes are sound storages.
use Rattle.std.proofs.Common.{◌≡◌, subst}
use Rattle.store.specs.declared.read.ReadStore.{Ghosts as Reads}
use Rattle.store.specs.declared.write.WriteStore.{Ghosts as Writes}
use Rattle.protocol.specs.Pairs.{storages_of}
use Rattle.protocol.specs.Storages.{Storages, SoundStorages}

pub pair_sound : {W R : Type 0} (r : Reads W) (w : Writes W) (s : Reads R) (first : W) (second : R) (p : Storages) → storages_of r w s first second ≡ p → SoundStorages p
pair_sound r w s first second p e = subst SoundStorages e (record { first_sound = r.sound first; second_sound = s.sound second })
