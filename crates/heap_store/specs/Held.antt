-- What a heap store holds.
use Rattle.std.specs.Prelude.{ℕ, []}
use Rattle.store.specs.Contents.{Contents}
use Rattle.store.specs.Sound.{Sound}
use Rattle.store.specs.SoundProp.{sound_from}
use Rattle.heap_store.specs.InMemory.{holding}
use Rattle.heap_store.specs.declared.heap.HeapStore.{HeapStore}

abbrev pub held : HeapStore → Contents
held s = holding s.capacity s.limit s.memory.files

-- it is sound, since the store keeps that as a fact
pub held_sound : (s : HeapStore) → Sound (held s)
held_sound s = sound_from (held s) s.sound

abbrev pub empty : ℕ → ℕ → Contents
empty limit capacity = record { capacity = capacity; limit = limit; files = [] }
