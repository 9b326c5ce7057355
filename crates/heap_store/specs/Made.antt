-- What comes of making a heap store.
use Rattle.std.specs.Prelude.{◌≡◌, ℕ, true, false, Ok, Err, Result}
use Rattle.store.specs.Changes.{legal_sizes}
use Rattle.heap_store.specs.declared.heap.HeapStore.{HeapStore}
use Rattle.heap_store.specs.declared.heap.make.NoStore.{NoStore}
use Rattle.heap_store.specs.declared.heap.make.NoStore.TheVariants.{OutOfMemory, WrongSize}
use Rattle.heap_store.specs.Held.{held, empty}

-- an empty store of these sizes, or the reason why there is none
abbrev pub Made : ℕ → ℕ → Result HeapStore NoStore → Type 0
Made limit capacity (Ok s) = (legal_sizes limit capacity ≡ true) × (held s ≡ empty limit capacity)
Made limit capacity (Err OutOfMemory) = legal_sizes limit capacity ≡ true
Made limit capacity (Err WrongSize) = legal_sizes limit capacity ≡ false
