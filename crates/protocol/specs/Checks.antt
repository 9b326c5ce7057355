-- Steps of ordered checks that hand on what they found.
use Rattle.std.specs.Prelude.{Some, None, Ok, Err, Option, Result}

-- go on with what is there, else refuse
abbrev pub present : {A B E : Type 0} → Option A → E → (A → Result B E) → Result B E
present None fault next = Err fault
present (Some x) fault next = next x

-- go on with what was given, else carry the fault up
abbrev pub and_then : {A B E F : Type 0} → Result A E → (E → F) → (A → Result B F) → Result B F
and_then (Err fault) up next = Err (up fault)
and_then (Ok x) up next = next x
