-- The laws of one sound pair of storages.
use Rattle.store.specs.declared.read.ReadStore.{Ghosts as Reads}
use Rattle.store.specs.declared.write.WriteStore.{Ghosts as Writes}
use Rattle.protocol.specs.Pairs.{storages_of}
use Rattle.protocol.specs.Storages.{Storages, SoundStorages}
use Rattle.responder.specs.Laws.{Lawful}
use Rattle.protocol.proofs.Alike.{replies_tell_contents}
use Rattle.protocol.proofs.Keeping.{handles_keep_bytes}
use Rattle.protocol.proofs.Staying.{stores_kept, one_at_a_time, sessions_fit}

pub lawful : (p : Storages) → SoundStorages p → Lawful p
lawful p s = record {
  equal_alike = λ q t e. replies_tell_contents.equal_alike p q s t e;
  alike_equal = λ q t a. replies_tell_contents.alike_equal p q s t a;
  handles_keep_bytes = λ before opening within o u. handles_keep_bytes p s before opening within o u;
  stores_kept = λ calls. stores_kept p s calls;
  one_at_a_time = λ calls x. one_at_a_time p s calls x;
  session_fits = λ calls. sessions_fit p s calls;
}

pub lawful_of : {W R : Type 0} (r : Reads W) (w : Writes W) (s : Reads R) (first : W) (second : R) → Lawful (storages_of r w s first second)
lawful_of r w s first second = lawful (storages_of r w s first second) (record { first_sound = r.sound first; second_sound = s.sound second })
