-- One law for each operation that looks: what it shows when it is accepted.
use Rattle.std.proofs.Common.{◌≡◌, ℕ, ◌≤◌, false, not, leb, [], ◌∷◌, length, Some, Ok, refl}
use Rattle.std.proofs.lemmas.Bool.{not-true, leb-true}
use Rattle.object.specs.Formats.{is_folder}
use Rattle.store.specs.Contents.{File}
use Rattle.store.proofs.Checks.{checked, given_ok}
use Rattle.datasets.specs.ObjectInfos.{object_info}
use Rattle.protocol.specs.declared.fault.OperationFault.{OperationFault}
use Rattle.protocol.specs.declared.fault.OperationFault.TheVariants.{InvalidHandle, InvalidParameter}
use Rattle.protocol.specs.Storages.{Storages, object_at}
use Rattle.protocol.specs.Looking.{Shown, info_of, part, info_shown, object_shown, part_shown}
use Rattle.protocol.proofs.Ways.{present_ways}

abbrev Any : OperationFault → Type 0
Any f = Unit {0}

-- GetObjectInfo shows the record of the file with the handle
pub record InfoShown (p : Storages) (h : ℕ) (x : Shown) : Type 0 where
  pub file : File
  pub there : object_at p h ≡ Some file
  pub payload_is : x.payload ≡ object_info (info_of h file)

pub info_look : (p : Storages) (h : ℕ) (x : Shown) → info_shown p h ≡ Ok x → InfoShown p h x
unfolding info_shown
info_look p h x e =
    given_ok (InfoShown p h) Any e
    (present_ways (InfoShown p h) Any (object_at p h) InvalidHandle _ tt λ f q. record { file = f; there = q; payload_is = refl })

-- GetObject shows the bytes of a file that is no folder
pub record ObjectShown (p : Storages) (h : ℕ) (x : Shown) : Type 0 where
  pub file : File
  pub there : object_at p h ≡ Some file
  pub no_folder : is_folder file.format ≡ false
  pub payload_is : x.payload ≡ file.bytes

pub object_look : (p : Storages) (h : ℕ) (x : Shown) → object_shown p h ≡ Ok x → ObjectShown p h x
unfolding object_shown
object_look p h x e =
    let P : Shown → Type 0 = ObjectShown p h in
    given_ok P Any e
    (present_ways P Any (object_at p h) InvalidHandle _ tt λ f q.
    checked P Any (not (is_folder f.format)) InvalidHandle _ tt λ n.
    record { file = f; there = q; no_folder = not-true (is_folder f.format) n; payload_is = refl })

-- GetPartialObject shows a part of them
pub record PartShown (p : Storages) (h offset maximum : ℕ) (x : Shown) : Type 0 where
  pub file : File
  pub there : object_at p h ≡ Some file
  pub no_folder : is_folder file.format ≡ false
  pub within : offset ≤ length file.bytes
  pub payload_is : x.payload ≡ part offset maximum file.bytes
  pub count_is : x.parameters ≡ length (part offset maximum file.bytes) ∷ []

pub part_look : (p : Storages) (h offset maximum : ℕ) (x : Shown) → part_shown p h offset maximum ≡ Ok x → PartShown p h offset maximum x
unfolding part_shown
part_look p h offset maximum x e =
    let P : Shown → Type 0 = PartShown p h offset maximum in
    given_ok P Any e
    (present_ways P Any (object_at p h) InvalidHandle _ tt λ f q.
    checked P Any (not (is_folder f.format)) InvalidHandle _ tt λ n.
    checked P Any (leb offset (length f.bytes)) InvalidParameter _ tt λ l.
    record {
      file = f;
      there = q;
      no_folder = not-true (is_folder f.format) n;
      within = leb-true offset (length f.bytes) l;
      payload_is = refl;
      count_is = refl;
    })
