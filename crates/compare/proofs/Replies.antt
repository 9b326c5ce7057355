-- Equal storages are those that reply alike.
use Rattle.std.proofs.Common.{◌≡◌, Bool, Decides}
use Rattle.std.proofs.lemmas.Bool.Decides.{Decides-like}
use Rattle.protocol.specs.Storages.{Storages, SoundStorages}
use Rattle.protocol.specs.Alike.{Alike}
use Rattle.protocol.proofs.Alike.{replies_tell_contents}

pub decides_alike : (p q : Storages) (r : Bool) → SoundStorages p → SoundStorages q → Decides r (p ≡ q) → Decides r (Alike p q)
decides_alike p q r sp sq d = Decides-like r (replies_tell_contents.equal_alike p q sp sq) (replies_tell_contents.alike_equal p q sp sq) d
