-- What an image holds, or where it is wrong, for every list of bytes.
use Rattle.std.specs.Prelude.{ℕ, zero, suc, ◌-◌, Bool, cond, not, ◌&&◌, ◌||◌, List, [], ◌∷◌, ◌++◌, length, Some, None, Ok, Err, Option, Result, ◌==◌, nat_le, nat_lt}
use Rattle.std.specs.Option.{option_map}
use Rattle.byte_parts.specs.Numbers.{cut_number}
use Rattle.byte_parts.specs.Parts.{cut_part}
use Rattle.object.specs.Formats.{format_of, is_folder}
use Rattle.object.specs.Names.{name_in}
use Rattle.object.specs.declared.format.Format.{Format}
use Rattle.object.specs.declared.name.Name.{Name}
use Rattle.object.specs.declared.protection.Protection.TheVariants.{ReadOnly}
use Rattle.store.specs.Contents.{Entry, Contents, total}
use Rattle.store.specs.Sound.{is_parent, last_number, max_length, max_files}
use Rattle.image_format.specs.Encoded.{head_tag, name_tag, body_tag}
use Rattle.image_format.specs.declared.field.Head.{Head}
use Rattle.image_format.specs.declared.fault.SpoiltImage.{SpoiltImage}

abbrev pub bind : {A B : Type 0} → Option A → (A → Option B) → Option B
bind None f = None
bind (Some x) f = f x

-- the content of the field at the front and what lies behind it, if a whole field with this tag is there
abbrev pub cut_field : ℕ → List ℕ → Option (List ℕ × List ℕ)
cut_field tag bs =
    bind (cut_number 1 bs) (λ t. cond (t.0 == tag) (bind (cut_number 2 t.1) (λ n. cut_part n.0 n.1)) None)

-- the head that a first field's content holds: 10 bytes, and a known format
abbrev pub head_in : List ℕ → Option Head
head_in bs =
    bind (cut_number 4 bs) (λ n. bind (cut_number 4 n.1) (λ p. bind (cut_number 2 p.1) (λ f.
    cond (length f.1 == 0) (option_map (λ g. record { number = n.0; parent = p.0; format = g }) (format_of f.0)) None)))

-- the largest number of ascending files; 0 if there is none
abbrev pub last_of : ℕ → List Entry → ℕ
last_of n [] = n
last_of n (e ∷ es) = last_of e.number es

-- behind these files a head is right whose number is larger and whose parent is the root or one of their folders
abbrev pub right_head : List Entry → Head → Bool
right_head es h = nat_lt (last_of 0 es) h.number && (nat_le h.number last_number && is_parent h.parent es)

-- a folder has no bytes
abbrev pub right_body : Format → List ℕ → Bool
right_body format bytes = nat_le (length bytes) max_length && (not (is_folder format) || length bytes == 0)

abbrev pub checked : {A : Type 0} → (A → Bool) → Option A → Option A
checked test None = None
checked test (Some x) = cond (test x) (Some x) None

-- what the content of the field at the front says, and what lies behind the field
abbrev pub read_field : {A : Type 0} → ℕ → (List ℕ → Option A) → List ℕ → Option (A × List ℕ)
read_field tag read bs = bind (cut_field tag bs) (λ c. option_map (λ x. (x, c.1)) (read c.0))

-- go on with what the field at the front of `rest` said; if it is not right, its place is the refusal
abbrev pub need : {A B : Type 0} → ℕ → List ℕ → Option A → (A → Result B SpoiltImage) → Result B SpoiltImage
need size rest None go = Err (record { place = size - length rest })
need size rest (Some x) go = go x

abbrev pub entry_of : Head → Name → List ℕ → Entry
entry_of h name bytes =
    record { number = h.number; file = record { format = h.format; protection = ReadOnly; parent = h.parent; name = name; bytes = bytes } }

-- the file at the front of `rest` with a head that passes the test, and what lies behind it
abbrev pub file_by : (Head → Bool) → ℕ → List ℕ → Result (Entry × List ℕ) SpoiltImage
file_by test size rest =
    need size rest (read_field head_tag (λ bs. checked test (head_in bs)) rest) (λ h.
    need size h.1 (read_field name_tag name_in h.1) (λ n.
    need size n.1 (read_field body_tag (λ bs. checked (right_body h.0.format) (Some bs)) n.1) (λ b.
    Ok (entry_of h.0 n.0 b.0, b.1))))

abbrev pub and_then : {A B E : Type 0} → Result A E → (A → Result B E) → Result B E
and_then (Ok x) f = f x
and_then (Err e) f = Err e

-- the files so far, and at most `more` that follow
unfoldable pub files_from : ℕ → ℕ → List Entry → List ℕ → Result (List Entry) SpoiltImage
files_from zero size es rest = cond (length rest == 0) (Ok es) (Err (record { place = size - length rest }))
files_from (suc more) size es rest =
    cond (length rest == 0) (Ok es)
    (and_then (file_by (right_head es) size rest) (λ f. files_from more size (es ++ (f.0 ∷ [])) f.1))

-- an image's store is full: its capacity is the total, and its limit the count
abbrev pub full_of : List Entry → Contents
full_of es = record { capacity = total es; limit = length es; files = es }

-- what the image holds, or the place of the first wrong field
unfoldable pub parsed : List ℕ → Result Contents SpoiltImage
parsed image = and_then (files_from max_files (length image) [] image) (λ es. Ok (full_of es))
