-- Exactly the images are accepted.
use Rattle.std.proofs.Common.{◌≡◌, ℕ, zero, suc, ◌+◌, ◌-◌, ◌*◌, ◌<◌, ◌≤◌, Bool, true, false, cond, not, ◌||◌, eqb, List, [], ◌∷◌, ◌++◌, length, Some, None, Ok, Err, Option, Result, sym, refl, ap, ◌∙◌, subst, ⊎_elim, arith}
use Rattle.std.proofs.lemmas.List.{append_assoc, append-nil, length_push, nil_from_length}
use Rattle.std.proofs.lemmas.Bool.{and_from, lt-ltb, le-leb, eq-eqb, ne_eqb, cond-true, eqb-true, cases_Bool}
use Rattle.byte_parts.specs.Numbers.{Bytes}
use Rattle.object.specs.Formats.{is_folder}
use Rattle.object.specs.Names.{units_of, unit_bytes, name_in}
use Rattle.object.proofs.Reading.{name_bytes, bytes_name, length_unit_bytes}
use Rattle.object.proofs.Stored.{units_short}
use Rattle.store.specs.Contents.{Entry, Contents, total, lookup}
use Rattle.store.specs.Sound.{Ascending, folder_there, is_parent, last_number, Sound}
use Rattle.image_format.specs.Encoded.{field, head_tag, name_tag, body_tag, head_bytes, file_fields, image_of}
use Rattle.image_format.specs.Images.{IsImage, ImageLaws}
use Rattle.image_format.specs.Parsed.{read_field, head_in, checked, right_head, right_body, need, file_by, and_then, files_from, full_of, parsed, last_of}
use Rattle.image_format.specs.declared.fault.SpoiltImage.{SpoiltImage}
use Rattle.image_format.specs.declared.field.Head.{Head}
use Rattle.image_format.proofs.Entries.{lookup_low, total_push}
use Rattle.image_format.proofs.Fields.{field_cut, cut_field_of, head_read, head_there}
use Rattle.image_format.proofs.Front.{Front, front_none, front_push, front_sound, right}
use Rattle.image_format.proofs.Inverted.{head_of, FileRead, file_read, read_there, checked_there, file_from, headed, named, body_read, whole}
use Rattle.image_format.proofs.Walked.{Walked, walked_push, file_next}
use Rattle.image_format.proofs.Opening.{from_none, from_more, from_full}

and_then_ok : {A B E : Type 0} (r : Result A E) (f : A → Result B E) (y : B) → and_then r f ≡ Ok y → (x : A) × (r ≡ Ok x) × (f x ≡ Ok y)
and_then_ok (Ok x) f y e = (x, refl, e)
and_then_ok (Err z) f y e = cc

-- a file that was read is its fields
read_fields : (test : Head → Bool) (rest : List ℕ) (e : Entry) (behind : List ℕ) → Bytes rest → FileRead test rest e behind → (rest ≡ file_fields e ++ behind) × Bytes behind
read_fields test rest e behind b r =
    let h = field_cut head_tag rest r.head_content r.names (omega arith) b r.head_cut in
    let n = field_cut name_tag r.names r.name_content r.bodies (omega arith) h.behind_bytes r.name_cut in
    let d = field_cut body_tag r.bodies e.file.bytes behind (omega arith) n.behind_bytes r.body_cut in
    let hs = head_read r.head_content (head_of e) h.content_bytes r.head_is in
    let ns = bytes_name r.name_content e.file.name n.content_bytes r.name_is in
    let one = field head_tag (head_bytes e.number e.file) in
    let two = field name_tag (unit_bytes (units_of e.file.name)) in
    let three = field body_tag e.file.bytes in (
      h.is ∙ (λ i. field head_tag (hs i) ++ (n.is ∙ (λ j. field name_tag (ns j) ++ d.is j)) i)
          ∙ ap (λ l. one ++ l) (sym (append_assoc two three behind)) ∙ sym (append_assoc one (two ++ three) behind),
      d.behind_bytes,
    )

-- what was read from `rest` behind the files `es`
pub record FilesRead (es : List Entry) (rest : List ℕ) (out : List Entry) : Type 0 where
  pub front : Front out
  pub few : length out ≤ 1024
  pub small : total out ≤ 32768 * length out
  pub fields : Bytes rest → (new : List Entry) × (out ≡ es ++ new) × (rest ≡ image_of new)
  pub walks : (image : List ℕ) → Walked image es rest → Walked image out []

all_read : (k size : ℕ) (es : List Entry) (rest : List ℕ) (out : List Entry) → length es + k ≡ 1024 → Front es → total es ≤ 32768 * length es → eqb (length rest) 0 ≡ true → files_from k size es rest ≡ Ok out → FilesRead es rest out
all_read k size es rest out l s t e q =
    let same : es ≡ out = cc (from_none size es rest k e) in
    let none : rest ≡ [] = nil_from_length rest (eqb-true (length rest) 0 e) in
    subst (FilesRead es rest) same (record { front = s; few = omega arith; small = t; fields = λ _. ([], sym (append-nil es), none); walks = λ image w. subst (Walked image es) none w })

files_read : (k size : ℕ) (es : List Entry) (rest : List ℕ) (out : List Entry) → length es + k ≡ 1024 → Front es → total es ≤ 32768 * length es → files_from k size es rest ≡ Ok out → FilesRead es rest out
files_read zero size es rest out l s t q =
    ⊎_elim (λ e. all_read zero size es rest out l s t e q) (λ e. cc (from_full size es rest zero refl e)) (cases_Bool (eqb (length rest) 0))
files_read (suc k) size es rest out l s t q =
    ⊎_elim (λ e. all_read (suc k) size es rest out l s t e q)
    (λ e.
    let p = and_then_ok (file_by (right_head es) size rest) (λ f. files_from k size (es ++ (f.0 ∷ [])) f.1) out (sym (from_more size es rest (suc k) k refl e) ∙ q) in
    let x = p.0.0 in
    let behind = p.0.1 in
    let r = file_read (right_head es) size rest x behind p.1 in
    let ok = right es x r.head_right r.body_right r.protected in
    let long = length_push es x in
    let sum = total_push es x in
    let further = files_read k size (es ++ (x ∷ [])) behind out (omega arith) (front_push es x s ok) (omega (arith, ok.small)) p.2 in
    record {
      front = further.front;
      few = further.few;
      small = further.small;
      fields = λ b.
          let f = read_fields (right_head es) rest x behind b r in
          let g = further.fields f.1 in
          (x ∷ g.0, g.1 ∙ append_assoc es (x ∷ []) g.0, f.0 ∙ ap (λ l. file_fields x ++ l) g.2);
      walks = λ image w. further.walks image (walked_push image es rest x behind w (file_next (right_head es) size rest x behind p.1));
    })
    (cases_Bool (eqb (length rest) 0))

-- what is accepted
pub accepted : (image : List ℕ) (c : Contents) → parsed image ≡ Ok c → (es : List Entry) × (full_of es ≡ c) × FilesRead [] image es
unfolding parsed
accepted image c e =
    let p = and_then_ok (files_from 1024 (length image) [] image) (λ es. Ok (full_of es)) c e in
    (p.0, cc p.2, files_read 1024 (length image) [] image p.0 (omega arith) front_none (omega arith) p.1)

-- the store of the files that were accepted
pub accepted_full : (image : List ℕ) (c : Contents) → parsed image ≡ Ok c → Sound (full_of c.files)
accepted_full image c e =
    let a = accepted image c e in subst (λ d. Sound (full_of d.files)) a.1 (front_sound a.0 a.2.front a.2.few a.2.small)

pub accepted_image : (image : List ℕ) (c : Contents) → Bytes image → parsed image ≡ Ok c → IsImage image c
accepted_image image c b e =
    let a = accepted image c e in
    let f = a.2.fields b in
    let front = a.2.front in
    subst (IsImage image) a.1 (record {
      fields = f.2 ∙ ap image_of (sym f.1);
      sound = front_sound a.0 front a.2.few a.2.small;
      protected = front.protected;
      parents_earlier = front.parents_below;
      capacity_is_total = refl;
      limit_is_count = refl;
    })

-- a file in the middle of ascending files
module _ (e : Entry) (more : List Entry) where
  middle_above : (lo : ℕ) (es : List Entry) → Ascending lo (es ++ (e ∷ more)) → last_of lo es < e.number
  middle_above lo [] a = a.0
  middle_above lo (x ∷ es) a = middle_above x.number es a.1

  middle_found : (lo : ℕ) (es : List Entry) → Ascending lo (es ++ (e ∷ more)) → lookup e.number (es ++ (e ∷ more)) ≡ Some e.file
  middle_found lo [] a = cond-true (eqb e.number e.number) _ _ (eq-eqb e.number e.number refl)
  middle_found lo (x ∷ es) a =
      let l = below x.number es a.1 in
      ap (λ t. cond t (Some x.file) (lookup e.number (es ++ (e ∷ more)))) (ne_eqb x.number e.number (λ z. omega arith)) ∙ middle_found x.number es a.1
    where
      below : (m : ℕ) (ys : List Entry) → Ascending m (ys ++ (e ∷ more)) → m < e.number
      below m [] a = a.0
      below m (y ∷ ys) a = let h : y.number < e.number = below y.number ys a.1 in omega (arith, a.0)

  -- what is found below its number is found among the files before it
  middle_before : (lo n : ℕ) (es : List Entry) → Ascending lo (es ++ (e ∷ more)) → n < e.number → lookup n (es ++ (e ∷ more)) ≡ lookup n es
  middle_before lo n [] a l =
      ap (λ t. cond t (Some e.file) (lookup n more)) (ne_eqb e.number n (λ z. omega arith)) ∙ lookup_low e.number n more a.1 (omega arith)
  middle_before lo n (x ∷ es) a l = ap (λ o. cond (eqb x.number n) (Some x.file) o) (middle_before x.number n es a.1 l)

-- a field that was written is read
written : {A : Type 0} (tag : ℕ) (read : List ℕ → Option A) (content behind : List ℕ) (x : A) → tag < 256 → length content < 65536 → read content ≡ Some x → read_field tag read (field tag content ++ behind) ≡ Some (x, behind)
written tag read content behind x t l e = read_there tag read (field tag content ++ behind) content behind x (cut_field_of tag content behind t l) e

-- the fields of a right file are read as the file
file_there : (size : ℕ) (es : List Entry) (e : Entry) (more : List Entry) (behind : List ℕ) → Front (es ++ (e ∷ more)) → file_by (right_head es) size (file_fields e ++ behind) ≡ Ok (e, behind)
file_there size es e more behind s =
    let here = middle_found e more 0 es s.ascending in
    let above = middle_above e more 0 es s.ascending in
    let number = s.numbers e.number e.file here in
    let below = s.parents_below e.number e.file here in
    let small = s.lengths e.number e.file here in
    let one = field head_tag (head_bytes e.number e.file) in
    let two = field name_tag (unit_bytes (units_of e.file.name)) in
    let three = field body_tag e.file.bytes in
    let parent : is_parent e.file.parent es ≡ true =
    ap (λ o. eqb e.file.parent 0 || folder_there o) (sym (middle_before e more 0 e.file.parent es s.ascending below)) ∙ s.parents e.number e.file here in
    let head_ok : right_head es (head_of e) ≡ true =
    and_from _ _ (lt-ltb (last_of 0 es) e.number above) (and_from _ _ (le-leb e.number last_number number) parent) in
    let body_ok : right_body e.file.format e.file.bytes ≡ true =
    and_from _ _ (le-leb (length e.file.bytes) 32768 small) (by (is_folder e.file.format) (s.folders_empty e.number e.file here)) in
    let units = units_short e.file.name in
    let wide = length_unit_bytes (units_of e.file.name) in
    let split : file_fields e ++ behind ≡ one ++ (two ++ (three ++ behind)) =
    append_assoc one (two ++ three) behind ∙ ap (λ l. one ++ l) (append_assoc two three behind) in
    ap (file_by (right_head es) size) split
    ∙ file_from (right_head es) size (one ++ (two ++ (three ++ behind))) (head_of e) (two ++ (three ++ behind)) e.file.name (three ++ behind) e.file.bytes behind
    (written head_tag (λ bs. checked (right_head es) (head_in bs)) (head_bytes e.number e.file) (two ++ (three ++ behind)) (head_of e) (omega arith) (omega arith)
    (checked_there (right_head es) (head_in (head_bytes e.number e.file)) (head_of e) (head_there (head_of e) (omega arith) (omega arith)) head_ok))
    (written name_tag name_in (unit_bytes (units_of e.file.name)) (three ++ behind) e.file.name (omega arith) (omega arith) (name_bytes e.file.name))
    (written body_tag (λ bs. checked (right_body e.file.format) (Some bs)) e.file.bytes behind e.file.bytes (omega arith) (omega arith)
    (checked_there (right_body e.file.format) (Some e.file.bytes) e.file.bytes refl body_ok))
    ∙ ap (λ p. Ok (record { number = e.number; file = record { format = e.file.format; protection = p; parent = e.file.parent; name = e.file.name; bytes = e.file.bytes } }, behind))
    (sym (s.protected e.number e.file here))
  where
    by : (t : Bool) → (t ≡ true → length e.file.bytes ≡ 0) → (not t || eqb (length e.file.bytes) 0) ≡ true
    by true h = eq-eqb (length e.file.bytes) 0 (h refl)
    by false h = refl

-- fields of right files are read as the files
image_there : (k size : ℕ) (es new : List Entry) → length new ≤ k → Front (es ++ new) → files_from k size es (image_of new) ≡ Ok (es ++ new)
image_there k size es [] l s = from_none size es [] k refl ∙ ap Ok (sym (append-nil es))
image_there zero size es (e ∷ new) l s = absurd (omega arith)
image_there (suc k) size es (e ∷ new) l s =
    let one : Front ((es ++ (e ∷ [])) ++ new) = subst Front (sym (append_assoc es (e ∷ []) new)) s in
    from_more size es (image_of (e ∷ new)) (suc k) k refl (ne_eqb (length (image_of (e ∷ new))) 0 (λ z. omega arith))
    ∙ ap (λ r. and_then r (λ f. files_from k size (es ++ (f.0 ∷ [])) f.1)) (file_there size es e new (image_of new) s)
    ∙ image_there k size (es ++ (e ∷ [])) new (omega arith) one ∙ ap Ok (append_assoc es (e ∷ []) new)

pub image_accepted : (image : List ℕ) (c : Contents) → IsImage image c → parsed image ≡ Ok c
unfolding parsed
image_accepted image c i =
    let s = i.sound in
    let front : Front c.files =
    record {
      ascending = s.ascending;
      numbers = s.numbers;
      lengths = s.lengths;
      folders_empty = s.folders_empty;
      parents = s.parents;
      parents_below = i.parents_earlier;
      protected = i.protected;
    } in
    ap (λ bs. and_then (files_from 1024 (length bs) [] bs) (λ es. Ok (full_of es))) i.fields
    ∙ ap (λ r. and_then r (λ es. Ok (full_of es))) (image_there 1024 (length (image_of c.files)) [] c.files (omega (arith, s.count_fits, s.limit_bound)) front)
    ∙ (λ j. Ok (record { capacity = sym i.capacity_is_total j; limit = sym i.limit_is_count j; files = c.files }))

need_err : {A B : Type 0} (size : ℕ) (rest : List ℕ) (o : Option A) (go : A → Result B SpoiltImage) (e : SpoiltImage) → ((x : A) → go x ≡ Err e → e.place ≤ size) → need size rest o go ≡ Err e → e.place ≤ size
need_err size rest None go e later q =
    let same : record { place = size - length rest } ≡ e = cc in
    let z : size - length rest ≡ e.place = ap (λ y. y.place) same in omega arith
need_err size rest (Some x) go e later q = later x q

-- the place of a refusal
file_place : (test : Head → Bool) (size : ℕ) (rest : List ℕ) (e : SpoiltImage) → file_by test size rest ≡ Err e → e.place ≤ size
file_place test size rest e q =
    need_err size rest (read_field head_tag (λ bs. checked test (head_in bs)) rest) (headed size) e
    (λ h. need_err size h.1 (read_field name_tag name_in h.1) (named size h) e
    (λ n. need_err size n.1 (body_read h n.1) (whole h n) e (λ b r. (cc)))) q

files_place : (k size : ℕ) (es : List Entry) (rest : List ℕ) (e : SpoiltImage) → files_from k size es rest ≡ Err e → e.place ≤ size
files_place zero size es rest e q =
    ⊎_elim (λ t. cc (from_none size es rest zero t))
    (λ f.
    let same : record { place = size - length rest } ≡ e = cc (from_full size es rest zero refl f) in
    let z : size - length rest ≡ e.place = ap (λ y. y.place) same in omega arith) (cases_Bool (eqb (length rest) 0))
files_place (suc k) size es rest e q =
    ⊎_elim (λ t. cc (from_none size es rest (suc k) t))
    (λ f. further (λ es rest q. files_place k size es rest e q) (file_by (right_head es) size rest) refl (sym (from_more size es rest (suc k) k refl f) ∙ q)) (cases_Bool (eqb (length rest) 0))
  where
    further : ((es : List Entry) (rest : List ℕ) → files_from k size es rest ≡ Err e → e.place ≤ size)
        → (r : Result (Entry × List ℕ) SpoiltImage) → file_by (right_head es) size rest ≡ r → and_then r (λ f. files_from k size (es ++ (f.0 ∷ [])) f.1) ≡ Err e → e.place ≤ size
    further more (Ok f) p q = more (es ++ (f.0 ∷ [])) f.1 q
    further more (Err y) p q = file_place (right_head es) size rest e (p ∙ cc)

refused_place : (image : List ℕ) (e : SpoiltImage) → parsed image ≡ Err e → e.place ≤ length image
unfolding parsed
refused_place image e q = by (files_from 1024 (length image) [] image) refl q
  where
    by : (r : Result (List Entry) SpoiltImage) → files_from 1024 (length image) [] image ≡ r → and_then r (λ es. Ok (full_of es)) ≡ Err e → e.place ≤ length image
    by (Ok es) p q = cc
    by (Err y) p q = files_place 1024 (length image) [] image e (p ∙ cc)

pub image_laws : ImageLaws
image_laws =
    record {
      accepted_are_images = accepted_image;
      images_are_accepted = image_accepted;
      one_image_each = λ image other c b d p q. (accepted_image image c b p).fields ∙ sym (accepted_image other c d q).fields;
      place_within = refused_place;
    }
