-- What an image holds is sound: a proof, which the store hands on to its users.
use Rattle.std.specs.Prelude.{◌≡◌, ℕ, List, [], Ok, Err, Result, refl}
use Rattle.std.proofs.Common.{arith}
use Rattle.store.specs.Contents.{Contents}
use Rattle.store.specs.Sound.{Sound}
use Rattle.image_format.specs.Parsed.{parsed}
use Rattle.image_format.specs.declared.fault.SpoiltImage.{SpoiltImage}
use Rattle.image_format.proofs.Exact.{accepted_full}
use Rattle.image_format.proofs.Front.{front_none, front_sound}
use Rattle.image.specs.Held.{held, held_by}

pub held_sound : (image : List ℕ) → Sound (held image)
held_sound image = by (parsed image) refl
  where
    by : (r : Result Contents SpoiltImage) → parsed image ≡ r → Sound (held_by r)
    by (Ok c) q = accepted_full image c q
    by (Err e) q = front_sound [] front_none (omega arith) (omega arith)
