-- What the store in an image answers.
use Rattle.std.proofs.Common.{◌≡◌, ℕ, ◌-◌, ◌<◌, ◌≤◌, Bool, true, false, cond, eqb, List, [], length, Some, None, Ok, Err, Option, Result, sym, refl, ap, ◌∙◌, subst, IsOk, is_err, get_or, Fits, w8, arith}
use Rattle.std.specs.Option.{option_map}
use Rattle.std.proofs.lemmas.Bool.{and_parts, eqb-true, false≢true}
use Rattle.std.proofs.ByRecursion.{All-from_get_or}
use Rattle.byte_parts.specs.Numbers.{Bytes}
use Rattle.store.specs.Contents.{File, Entry, Contents, total, lookup, next_above, bytes_of}
use Rattle.store.specs.Sound.{Ascending}
use Rattle.object.specs.Names.{name_in}
use Rattle.object.specs.declared.protection.Protection.TheVariants.{ReadOnly}
use Rattle.image.specs.HeldSound.{held_sound}
use Rattle.image.specs.Held.{held, held_by, holds, accepted_with, verdict_of}
use Rattle.image_format.specs.Parsed.{bind, files_from, parsed, full_of}
use Rattle.image_format.specs.Walk.{Plain, sought, numbered, sought_at, ok_by, layout_of}
use Rattle.image_format.specs.declared.fault.SpoiltImage.{SpoiltImage}
use Rattle.image_format.proofs.Entries.{first_above, file_numbered, next_first, number_of, lookup_first}
use Rattle.image_format.specs.Images.{IsImage}
use Rattle.image_format.proofs.Exact.{accepted, accepted_image}
use Rattle.image_format.proofs.Walked.{Walked, Finds, sought_walked, Lies}

-- the files of an accepted image
pub record Open (image : List ℕ) (count sum : ℕ) : Type 0 where
  pub files : List Entry
  pub is : held image ≡ full_of files
  pub counted : length files ≡ count
  pub summed : total files ≡ sum
  pub ascending : Ascending 0 files
  pub walked : Walked image files []

pub opened : (image : List ℕ) (count sum : ℕ) → holds image count sum ≡ true → Open image count sum
opened image count sum h = by (parsed image) refl h
  where
    by : (r : Result Contents SpoiltImage) → parsed image ≡ r → accepted_with r count sum ≡ true → Open image count sum
    by (Err e) q h = absurd (false≢true h)
    by (Ok c) q h =
        let a = accepted image c q in
        let p = and_parts (eqb (length c.files) count) (eqb (total c.files) sum) h in
        record {
          files = a.0;
          is = ap held_by q ∙ ap (λ d. full_of d.files) (sym a.1);
          counted = ap (λ d. length d.files) a.1 ∙ eqb-true (length c.files) count p.0;
          summed = ap (λ d. total d.files) a.1 ∙ eqb-true (total c.files) sum p.1;
          ascending = a.2.front.ascending;
          walked = a.2.walks image refl;
        }

abbrev pub number_in : Option Plain → Option ℕ
number_in None = None
number_in (Some p) = Some p.head.number

numbers_found : (o : Option Plain) (e : Option Entry) → Finds o e → number_in o ≡ number_of e
numbers_found None None f = refl
numbers_found None (Some e) f = absurd f
numbers_found (Some p) None f = absurd f
numbers_found (Some p) (Some e) f = ap (λ h. Some h.number) f.head

-- what asking for a number found, by looking it up
abbrev pub Told : ℕ → Option Plain → Option File → Type 0
Told n None None = Unit {0}
Told n None (Some f) = ⊥
Told n (Some p) None = ⊥
Told n (Some p) (Some f) = Lies p (record { number = n; file = f })

numbered_found : (n : ℕ) (o : Option Plain) (e : Option Entry) → Finds o e → Told n (numbered n o) (file_numbered n e)
numbered_found n None None f = tt
numbered_found n None (Some e) f = absurd f
numbered_found n (Some p) None f = absurd f
numbered_found n (Some p) (Some e) f =
    subst (λ h. Told n (cond (eqb h.number n) (Some p) None) (cond (eqb e.number n) (Some e.file) None)) (sym f.head) (by (eqb e.number n) refl)
  where
    by : (t : Bool) → eqb e.number n ≡ t → Told n (cond t (Some p) None) (cond t (Some e.file) None)
    by true q = subst (λ m. Lies p (record { number = m; file = e.file })) (eqb-true e.number n q) f
    by false q = tt

module _ (image : List ℕ) (count sum : ℕ) (h : holds image count sum ≡ true) where
  abbrev there : Open image count sum
  there = opened image count sum h

  pub asked_next : (n : ℕ) → number_in (sought count image n) ≡ next_above n (held image).files
  asked_next n =
      ap (λ k. number_in (sought k image n)) (sym there.counted)
      ∙ numbers_found (sought (length there.files) image n) (first_above n there.files) (sought_walked n image there.files [] there.walked)
      ∙ sym (next_first n there.files) ∙ ap (λ c. next_above n c.files) (sym there.is)

  pub asked_file : (n : ℕ) → Told n (sought_at count image n) (lookup n (held image).files)
  asked_file n =
      subst (λ c. Told n (sought_at count image n) (lookup n c.files)) (sym there.is)
      (subst (λ k. Told n (sought_at k image n) (lookup n there.files)) there.counted
      (subst (Told n (sought_at (length there.files) image n)) (sym (lookup_first 0 n there.files there.ascending))
      (numbered_found n (sought (length there.files) image (n - 1)) (first_above (n - 1) there.files) (sought_walked (n - 1) image there.files [] there.walked))))

-- the file that a record is, if its name is one
abbrev pub file_in : Plain → Option File
file_in p =
    option_map (λ name. record { format = p.head.format; protection = ReadOnly; parent = p.head.parent; name = name; bytes = p.body }) (name_in p.name)

abbrev pub body_in : Option Plain → List ℕ
body_in None = []
body_in (Some p) = p.body

told_file : (n : ℕ) (o : Option Plain) (f : Option File) → Told n o f → f ≡ bind o file_in
told_file n None None t = refl
told_file n None (Some f) t = absurd t
told_file n (Some p) None t = absurd t
told_file n (Some p) (Some f) t =
    sym (ap (option_map (λ name. record { format = p.head.format; protection = ReadOnly; parent = p.head.parent; name = name; bytes = p.body })) t.name
    ∙ (λ i. Some (record { format = (t.head i).format; protection = sym t.protected i; parent = (t.head i).parent; name = f.name; bytes = t.body i })))

told_bytes : (n : ℕ) (o : Option Plain) (f : Option File) → Told n o f → bytes_of f ≡ body_in o
told_bytes n None None t = refl
told_bytes n None (Some f) t = absurd t
told_bytes n (Some p) None t = absurd t
told_bytes n (Some p) (Some f) t = sym t.body

-- what the walk answers, of an accepted image
pub record Answered (image : List ℕ) (count : ℕ) : Type 0 where
  pub next : (n : ℕ) → number_in (sought count image n) ≡ next_above n (held image).files
  pub file : (n : ℕ) → lookup n (held image).files ≡ bind (sought_at count image n) file_in
  pub bytes : (n : ℕ) → bytes_of (lookup n (held image).files) ≡ body_in (sought_at count image n)
  pub short : (n : ℕ) → length (body_in (sought_at count image n)) ≤ 32768

-- the first equation shows the variables to tactics
pub asked : (image : List ℕ) (count sum : ℕ) → (holds image count sum ≡ holds image count sum) × (holds image count sum ≡ true → Answered image count)
asked image count sum = (
  refl,
  λ h. record {
    next = asked_next image count sum h;
    file = λ n. told_file n (sought_at count image n) _ (asked_file image count sum h n);
    bytes = λ n. told_bytes n (sought_at count image n) _ (asked_file image count sum h n);
    short = λ n. short_bytes n (lookup n (held image).files) refl (asked_file image count sum h n);
  },
)
  where
    short_bytes : (n : ℕ) (f : Option File) → lookup n (held image).files ≡ f → Told n (sought_at count image n) f → length (body_in (sought_at count image n)) ≤ 32768
    short_bytes n None q t = subst (λ b. length b ≤ 32768) (told_bytes n (sought_at count image n) None t) (omega arith)
    short_bytes n (Some f) q t = subst (λ b. length b ≤ 32768) (told_bytes n (sought_at count image n) (Some f) t) ((held_sound image).lengths n f q)

-- an accepted list of bytes is the image of what it holds; the first equation is for tactics, as above
pub held_image : (image : List ℕ) → (held image ≡ held image) × (((i : ℕ) → Fits w8 (get_or image i 0)) → IsOk (ok_by layout_of (parsed image)) → IsImage image (held image))
held_image image = (refl, λ fits. by (parsed image) refl (All-from_get_or (λ b. b < 256) image 0 (λ i l. omega (arith, (fits i).fits))))
  where
    by : (r : Result Contents SpoiltImage) → parsed image ≡ r → Bytes image → IsOk (ok_by layout_of r) → IsImage image (held_by r)
    by (Ok c) q b o =
        let a = accepted image c q in
        subst (IsImage image) (sym a.1 ∙ ap (λ d. full_of d.files) a.1) (accepted_image image c b q)
    by (Err y) q b o = absurd (false≢true o)

-- the empty image holds nothing
pub empty_held : parsed [] ≡ Ok (full_of [])
unfolding parsed files_from
empty_held = refl

-- a refused image holds what the empty one does
pub refused_held : (none image : List ℕ) (e : SpoiltImage) → none ≡ [] → Err e ≡ verdict_of (parsed image) → held none ≡ held image
refused_held none image e n v = ap held n ∙ ap held_by empty_held ∙ by (parsed image) v
  where
    by : (r : Result Contents SpoiltImage) → Err e ≡ verdict_of r → full_of [] ≡ held_by r
    by (Ok c) q = absurd (false≢true (sym (ap is_err q)))
    by (Err z) q = refl
