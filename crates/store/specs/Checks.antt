-- Ordered checks: each refuses with its own fault, or lets the next one decide.
use Rattle.std.specs.Prelude.{Bool, true, false, Err, Result}

-- go on if the test holds, else refuse
abbrev pub provided : {A E : Type 0} → Bool → E → Result A E → Result A E
provided true fault next = next
provided false fault next = Err fault
