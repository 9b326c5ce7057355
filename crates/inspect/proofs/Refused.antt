-- The refusal of an image that is not accepted.
use Rattle.std.proofs.Common.{◌≡◌, ℕ, IfErr, Ok, Err, Some, Result}
use Rattle.store.specs.Contents.{Contents}
use Rattle.image_format.specs.declared.fault.SpoiltImage.{SpoiltImage}
use Rattle.image.specs.Held.{verdict_of}
use Rattle.inspect.specs.Words.{refusal_line}

-- the line for the fault of the verdict is the one for the fault that was found
pub refusal_told : (p : Result Contents SpoiltImage) (f : SpoiltImage) (size : ℕ) → Err f ≡ verdict_of p → IfErr p (λ fault. Some (refusal_line size f) ≡ Some (refusal_line size fault))
refusal_told (Ok c) f size q = tt
refusal_told (Err fault) f size q = cc
