-- The walk over an image, as the code goes: not what is promised, but what the promises are proved from.
use Rattle.std.specs.Prelude.{ℕ, zero, suc, ◌-◌, Bool, false, cond, ◌&&◌, ◌||◌, List, [], ◌∷◌, length, Some, None, Ok, Err, Option, Result, ◌==◌, nat_le, nat_lt}
use Rattle.std.specs.Borrow.{Bor}
use Rattle.object.specs.Formats.{is_folder}
use Rattle.object.specs.declared.name.Name.{Name}
use Rattle.store.specs.Contents.{Entry, Contents, total}
use Rattle.store.specs.Sound.{last_number}
use Rattle.image_format.specs.Encoded.{head_tag, name_tag, body_tag}
use Rattle.image_format.specs.Parsed.{bind, cut_field, head_in}
use Rattle.image_format.specs.declared.fault.SpoiltImage.{SpoiltImage}
use Rattle.image_format.specs.declared.field.Head.{Head}
use Rattle.image_format.specs.declared.layout.Layout.{Layout}
use Rattle.image_format.specs.declared.seek.Record.{Record}

-- a file in an image, with its name and its bytes as lists
pub record Plain : Type 0 where
  pub head : Head
  pub name : List ℕ
  pub body : List ℕ

abbrev pub plain_of : Record → Plain
plain_of r = record { head = r.head; name = r.name.now; body = r.body.now }

-- the file at the front and what lies behind it
abbrev pub cut_record : List ℕ → Option (Plain × List ℕ)
cut_record bs =
    bind (cut_field head_tag bs) (λ h. bind (head_in h.0) (λ head. bind (cut_field name_tag h.1) (λ n. bind (cut_field body_tag n.1) (λ b.
    Some (record { head = head; name = n.0; body = b.0 }, b.1)))))

-- what was cut off the front, before what is read of the rest
abbrev pub followed : Option (Plain × List ℕ) → (List ℕ → List Plain) → List Plain
followed None go = []
followed (Some f) go = f.0 ∷ go f.1

-- the first k files
abbrev pub records : ℕ → List ℕ → List Plain
records zero bs = []
records (suc k) bs = followed (cut_record bs) (records k)

-- the first of the first k files whose number is above n
abbrev pub sought : ℕ → List ℕ → ℕ → Option Plain
sought zero bs n = None
sought (suc k) bs n = bind (cut_record bs) (λ f. cond (nat_lt n f.0.head.number) (Some f.0) (sought k f.1 n))

-- the file of this number, if it is among the first k
abbrev pub numbered : ℕ → Option Plain → Option Plain
numbered n None = None
numbered n (Some p) = cond (p.head.number == n) (Some p) None

abbrev pub sought_at : ℕ → List ℕ → ℕ → Option Plain
sought_at k bs n = numbered n (sought k bs (n - 1))

abbrev pub folder_sought : Option Plain → Bool
folder_sought None = false
folder_sought (Some p) = is_folder p.head.format

-- a head is right behind the first k files of the image, the last of which has the number `last`
abbrev pub right_behind : List ℕ → ℕ → ℕ → Head → Bool
right_behind image k last h =
    nat_lt last h.number && (nat_le h.number last_number && (h.parent == 0 || folder_sought (sought_at k image h.parent)))

-- what the code keeps of a name, of the bytes and of a file that it has read
abbrev pub behind : Name × List ℕ → List ℕ
behind p = p.1

abbrev pub measured : List ℕ × List ℕ → ℕ × List ℕ
measured p = (length p.0, p.1)

abbrev pub summed : Entry × List ℕ → ℕ × ℕ × List ℕ
summed p = (p.0.number, length p.0.file.bytes, p.1)

abbrev pub ok_by : {A B E : Type 0} → (A → B) → Result A E → Result B E
ok_by f (Ok x) = Ok (f x)
ok_by f (Err e) = Err e

abbrev pub seen : Result (ℕ × ℕ × Bor (List ℕ)) SpoiltImage → Result (ℕ × ℕ × List ℕ) SpoiltImage
seen (Ok p) = Ok (p.0, p.1, p.2.now)
seen (Err e) = Err e

-- how much a store holds
abbrev pub layout_of : Contents → Layout
layout_of c = record { count = length c.files; total = total c.files }
