-- What it is to be an image, in the subject's words, and the laws of opening one.
use Rattle.std.specs.Prelude.{◌≡◌, ℕ, ◌<◌, ◌≤◌, List, length, Ok, Err}
use Rattle.byte_parts.specs.Numbers.{Bytes}
use Rattle.object.specs.declared.protection.Protection.TheVariants.{ReadOnly}
use Rattle.store.specs.Contents.{Contents, total}
use Rattle.store.specs.Sound.{Sound, EachFile}
use Rattle.image_format.specs.Encoded.{image_of}
use Rattle.image_format.specs.Parsed.{parsed}
use Rattle.image_format.specs.declared.fault.SpoiltImage.{SpoiltImage}

-- these bytes are the image of these contents
pub record IsImage (image : List ℕ) (c : Contents) : Type 0 where
  pub fields : image ≡ image_of c.files
  pub sound : Sound c
  pub protected : EachFile c.files (λ n f. f.protection ≡ ReadOnly)
  pub parents_earlier : EachFile c.files (λ n f. f.parent < n)
  pub capacity_is_total : c.capacity ≡ total c.files
  pub limit_is_count : c.limit ≡ length c.files

pub record ImageLaws : Type 0 where
  -- what is accepted is an image of what it is said to hold
  pub accepted_are_images : (image : List ℕ) (c : Contents) → Bytes image → parsed image ≡ Ok c → IsImage image c
  -- every image is accepted
  pub images_are_accepted : (image : List ℕ) (c : Contents) → IsImage image c → parsed image ≡ Ok c
  -- two images that hold the same are the same bytes
  pub one_image_each : (image other : List ℕ) (c : Contents) → Bytes image → Bytes other → parsed image ≡ Ok c → parsed other ≡ Ok c → image ≡ other
  -- a refusal's place lies in the image or at its end
  pub place_within : (image : List ℕ) (e : SpoiltImage) → parsed image ≡ Err e → e.place ≤ length image
