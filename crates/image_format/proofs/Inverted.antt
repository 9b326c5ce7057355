-- What a reading that went well tells of the bytes.
use Rattle.std.proofs.Common.{◌≡◌, ℕ, Bool, true, cond, List, Some, None, Ok, Option, Result, refl, ap, ◌∙◌, subst}
use Rattle.std.specs.Option.{option_map}
use Rattle.std.proofs.lemmas.Option.{cond_some}
use Rattle.object.specs.Names.{name_in}
use Rattle.object.specs.declared.name.Name.{Name}
use Rattle.object.specs.declared.protection.Protection.TheVariants.{ReadOnly}
use Rattle.store.specs.Contents.{Entry}
use Rattle.image_format.specs.Encoded.{head_tag, name_tag, body_tag}
use Rattle.image_format.specs.Parsed.{bind, cut_field, read_field, head_in, checked, right_body, need, file_by, entry_of}
use Rattle.image_format.specs.declared.fault.SpoiltImage.{SpoiltImage}
use Rattle.image_format.specs.declared.field.Head.{Head}

pub bind_some : {A B : Type 0} (o : Option A) (f : A → Option B) (y : B) → bind o f ≡ Some y → (x : A) × (o ≡ Some x) × (f x ≡ Some y)
bind_some None f y e = cc
bind_some (Some x) f y e = (x, refl, e)

pub mapped_some : {A B : Type 0} (o : Option A) (f : A → B) (y : B) → option_map f o ≡ Some y → (x : A) × (o ≡ Some x) × (f x ≡ y)
mapped_some None f y e = cc
mapped_some (Some x) f y e = (x, refl, cc)

pub checked_some : {A : Type 0} (test : A → Bool) (o : Option A) (x : A) → checked test o ≡ Some x → (o ≡ Some x) × (test x ≡ true)
checked_some test None x e = cc
checked_some test (Some y) x e =
    let p = cond_some (test y) y x e in (ap Some p.1, subst (λ z. test z ≡ true) p.1 p.0)

need_ok : {A B : Type 0} (size : ℕ) (rest : List ℕ) (o : Option A) (go : A → Result B SpoiltImage) (y : B) → need size rest o go ≡ Ok y → (x : A) × (o ≡ Some x) × (go x ≡ Ok y)
need_ok size rest None go y e = cc
need_ok size rest (Some x) go y e = (x, refl, e)

-- a field that was read, with its content
pub read_some : {A : Type 0} (tag : ℕ) (read : List ℕ → Option A) (bs : List ℕ) (x : A) (behind : List ℕ) → read_field tag read bs ≡ Some (x, behind)
    → (content : List ℕ) × (cut_field tag bs ≡ Some (content, behind)) × (read content ≡ Some x)
read_some tag read bs x behind e =
    let p = bind_some (cut_field tag bs) (λ c. option_map (λ z. (z, c.1)) (read c.0)) (x, behind) e in
    let q = mapped_some (read p.0.0) (λ z. (z, p.0.1)) (x, behind) p.2 in
    (p.0.0, p.1 ∙ ap (λ r. Some (p.0.0, r)) (ap (λ r. r.1) q.2), q.1 ∙ ap (λ r. Some r.0) q.2)

abbrev pub head_of : Entry → Head
head_of e = record { number = e.number; parent = e.file.parent; format = e.file.format }

-- the three fields of a file that was read
pub record FileRead (test : Head → Bool) (rest : List ℕ) (e : Entry) (behind : List ℕ) : Type 0 where
  pub head_content : List ℕ
  pub names : List ℕ
  pub name_content : List ℕ
  pub bodies : List ℕ
  pub head_cut : cut_field head_tag rest ≡ Some (head_content, names)
  pub head_is : head_in head_content ≡ Some (head_of e)
  pub head_right : test (head_of e) ≡ true
  pub name_cut : cut_field name_tag names ≡ Some (name_content, bodies)
  pub name_is : name_in name_content ≡ Some e.file.name
  pub body_cut : cut_field body_tag bodies ≡ Some (e.file.bytes, behind)
  pub body_right : right_body e.file.format e.file.bytes ≡ true
  pub protected : e.file.protection ≡ ReadOnly

-- what is read behind the head, behind the name and behind the bytes
abbrev pub whole : Head × List ℕ → Name × List ℕ → List ℕ × List ℕ → Result (Entry × List ℕ) SpoiltImage
whole h n b = Ok (entry_of h.0 n.0 b.0, b.1)

abbrev pub body_read : Head × List ℕ → List ℕ → Option (List ℕ × List ℕ)
body_read h bodies = read_field body_tag (λ bs. checked (right_body h.0.format) (Some bs)) bodies

abbrev pub named : ℕ → Head × List ℕ → Name × List ℕ → Result (Entry × List ℕ) SpoiltImage
named size h n = need size n.1 (body_read h n.1) (whole h n)

abbrev pub headed : ℕ → Head × List ℕ → Result (Entry × List ℕ) SpoiltImage
headed size h = need size h.1 (read_field name_tag name_in h.1) (named size h)

pub file_read : (test : Head → Bool) (size : ℕ) (rest : List ℕ) (e : Entry) (behind : List ℕ) → file_by test size rest ≡ Ok (e, behind) → FileRead test rest e behind
file_read test size rest e behind q =
    let a = need_ok size rest (read_field head_tag (λ bs. checked test (head_in bs)) rest) (headed size) (e, behind) q in
    let h = a.0 in
    let b = need_ok size h.1 (read_field name_tag name_in h.1) (named size h) (e, behind) a.2 in
    let n = b.0 in
    let d = need_ok size n.1 (body_read h n.1) (whole h n) (e, behind) b.2 in
    let x = read_some head_tag (λ bs. checked test (head_in bs)) rest h.0 h.1 a.1 in
    let y = read_some name_tag name_in h.1 n.0 n.1 b.1 in
    let z = read_some body_tag (λ bs. checked (right_body h.0.format) (Some bs)) n.1 d.0.0 d.0.1 d.1 in
    let hc = checked_some test (head_in x.0) h.0 x.2 in
    let bc = checked_some (right_body h.0.format) (Some z.0) d.0.0 z.2 in
    let same : z.0 ≡ d.0.0 = cc bc.0 in
    let all : FileRead test rest (entry_of h.0 n.0 d.0.0) d.0.1 =
    record {
      head_content = x.0;
      names = h.1;
      name_content = y.0;
      bodies = n.1;
      head_cut = x.1;
      head_is = hc.0;
      head_right = hc.1;
      name_cut = y.1;
      name_is = y.2;
      body_cut = z.1 ∙ ap (λ c. Some (c, d.0.1)) same;
      body_right = bc.1;
      protected = refl;
    } in
    let out : ◌≡◌ {A = Entry × List ℕ} (entry_of h.0 n.0 d.0.0, d.0.1) (e, behind) = cc d.2 in
    subst (λ p. FileRead test rest p.0 p.1) out all

-- and the way back: three fields that are read are a file
pub read_there : {A : Type 0} (tag : ℕ) (read : List ℕ → Option A) (bs content behind : List ℕ) (x : A) → cut_field tag bs ≡ Some (content, behind) → read content ≡ Some x → read_field tag read bs ≡ Some (x, behind)
read_there tag read bs content behind x e q =
    ap (λ o. bind o (λ c. option_map (λ z. (z, c.1)) (read c.0))) e ∙ ap (option_map (λ z. (z, behind))) q

pub checked_there : {A : Type 0} (test : A → Bool) (o : Option A) (x : A) → o ≡ Some x → test x ≡ true → checked test o ≡ Some x
checked_there test o x e q = ap (checked test) e ∙ ap (λ t. cond t (Some x) None) q

pub file_from : (test : Head → Bool) (size : ℕ) (rest : List ℕ) (h : Head) (names : List ℕ) (n : Name) (bodies b behind : List ℕ)
    → read_field head_tag (λ bs. checked test (head_in bs)) rest ≡ Some (h, names) → read_field name_tag name_in names ≡ Some (n, bodies)
    → read_field body_tag (λ bs. checked (right_body h.format) (Some bs)) bodies ≡ Some (b, behind) → file_by test size rest ≡ Ok (entry_of h n b, behind)
file_from test size rest h names n bodies b behind x y z =
    ap (λ o. need size rest o (headed size)) x ∙ ap (λ o. need size names o (named size (h, names))) y
    ∙ ap (λ o. need size bodies o (whole (h, names) (n, bodies))) z
