-- How the opener comes to its answer: the files so far, and what they leave to read.
use Rattle.std.proofs.Common.{◌≡◌, ℕ, zero, suc, ◌+◌, ◌-◌, ◌*◌, ◌<◌, ◌≤◌, Bool, true, false, cond, ◌&&◌, ◌||◌, eqb, ltb, leb, List, [], ◌∷◌, ◌++◌, length, Some, None, Ok, Err, Option, Result, sym, refl, ap, ◌∙◌, arith}
use Rattle.std.proofs.lemmas.List.{length_push}
use Rattle.std.proofs.lemmas.Bool.{and_parts, ltb-true}
use Rattle.store.specs.Contents.{Entry, total}
use Rattle.store.specs.Sound.{Ascending, folder_there, is_parent, last_number}
use Rattle.image_format.specs.Parsed.{right_head, file_by, and_then, files_from, full_of, parsed, last_of}
use Rattle.image_format.specs.Walk.{Plain, sought, numbered, sought_at, folder_sought, right_behind, summed, ok_by, layout_of}
use Rattle.image_format.specs.declared.fault.SpoiltImage.{SpoiltImage}
use Rattle.image_format.specs.declared.layout.Layout.{Layout}
use Rattle.image_format.proofs.Entries.{first_above, file_numbered, lookup_first, last_push, total_push, ascending_push}
use Rattle.image_format.proofs.Inverted.{head_of, file_read}
use Rattle.image_format.proofs.Walked.{Walked, walked_push, Finds, sought_walked, file_next}

-- the walk finds a folder where looking up does
folder_found : (n : ℕ) (o : Option Plain) (p : Option Entry) → Finds o p → folder_sought (numbered n o) ≡ folder_there (file_numbered n p)
folder_found n None None f = refl
folder_found n None (Some e) f = absurd f
folder_found n (Some p) None f = absurd f
folder_found n (Some p) (Some e) f =
    ap (λ h. folder_sought (cond (eqb h.number n) (Some (record { head = h; name = p.name; body = p.body })) None)) f.head ∙ by (eqb e.number n)
  where
    by : (t : Bool) → folder_sought (cond t (Some (record { head = head_of e; name = p.name; body = p.body })) None) ≡ folder_there (cond t (Some e.file) None)
    by true = refl
    by false = refl

module _ (image : List ℕ) (es : List Entry) (rest : List ℕ) (w : Walked image es rest) (a : Ascending 0 es) where
  parent_found : (n : ℕ) → (eqb n 0 || folder_sought (sought_at (length es) image n)) ≡ is_parent n es
  parent_found n =
      ap (λ t. eqb n 0 || t)
      (folder_found n (sought (length es) image (n - 1)) (first_above (n - 1) es) (sought_walked (n - 1) image es rest w)
      ∙ ap folder_there (sym (lookup_first 0 n es a)))

  head_test : right_behind image (length es) (last_of 0 es) ≡ right_head es
  head_test i h = ltb (last_of 0 es) h.number && (leb h.number last_number && parent_found h.parent i)

pub record Sofar (image rest : List ℕ) (count last sum : ℕ) : Type 0 where
  pub files : List Entry
  pub walked : Walked image files rest
  pub ascending : Ascending 0 files
  pub counted : length files ≡ count
  pub lasts : last_of 0 files ≡ last
  pub sums : total files ≡ sum
  pub bound : sum ≤ 32768 * count
  pub goes : files_from (1024 - count) (length image) files rest ≡ files_from 1024 (length image) [] image

module _ (size : ℕ) (es : List Entry) (rest : List ℕ) where
  -- nothing is left
  pub from_none : (k : ℕ) → eqb (length rest) 0 ≡ true → files_from k size es rest ≡ Ok es
  unfolding files_from
  from_none zero e = ap (λ t. cond t (Ok es) (Err (record { place = size - length rest }))) e
  from_none (suc k) e =
      ap (λ t. cond t (Ok es) (and_then (file_by (right_head es) size rest) (λ f. files_from k size (es ++ (f.0 ∷ [])) f.1))) e

  -- one file more
  pub from_more : (k j : ℕ) → k ≡ suc j → eqb (length rest) 0 ≡ false → files_from k size es rest ≡ and_then (file_by (right_head es) size rest) (λ f. files_from j size (es ++ (f.0 ∷ [])) f.1)
  unfolding files_from
  from_more k j q e =
      ap (λ i. files_from i size es rest) q
      ∙ ap (λ t. cond t (Ok es) (and_then (file_by (right_head es) size rest) (λ f. files_from j size (es ++ (f.0 ∷ [])) f.1))) e

  -- one file too many
  pub from_full : (k : ℕ) → k ≡ 0 → eqb (length rest) 0 ≡ false → files_from k size es rest ≡ Err (record { place = size - length rest })
  unfolding files_from
  from_full k q e =
      ap (λ i. files_from i size es rest) q ∙ ap (λ t. cond t (Ok es) (Err (record { place = size - length rest }))) e

-- the answer, by what the files came to
abbrev answer : Result (List Entry) SpoiltImage → Result Layout SpoiltImage
answer r = ok_by layout_of (and_then r (λ es. Ok (full_of es)))

parsed_answer : (image : List ℕ) → ok_by layout_of (parsed image) ≡ answer (files_from 1024 (length image) [] image)
unfolding parsed
parsed_answer image = refl

ok_by_ok : {A B E : Type 0} (f : A → B) (r : Result A E) (y : B) → Ok y ≡ ok_by f r → (x : A) × (r ≡ Ok x) × (f x ≡ y)
ok_by_ok f (Ok x) y e = (x, refl, cc)
ok_by_ok f (Err z) y e = cc

ok_by_err : {A B E : Type 0} (f : A → B) (r : Result A E) (y : E) → Err y ≡ ok_by f r → r ≡ Err y
ok_by_err f (Ok x) y e = cc
ok_by_err f (Err z) y e = cc

module _ {image rest : List ℕ} {count last sum : ℕ} (s : Sofar image rest count last sum) where
  -- nothing is left: this is all
  pub sofar_all : eqb (length rest) 0 ≡ true → Ok (record { count = count; total = sum }) ≡ ok_by layout_of (parsed image)
  sofar_all e =
      (λ i. Ok (record { count = sym s.counted i; total = sym s.sums i }))
      ∙ sym (ap answer (sym s.goes ∙ from_none (length image) s.files rest (1024 - count) e))
      ∙ sym (parsed_answer image)

  -- a 1,025th file
  pub sofar_full : count ≡ 1024 → eqb (length rest) 0 ≡ false → Err (record { place = length image - length rest }) ≡ ok_by layout_of (parsed image)
  sofar_full q e =
      sym (ap answer (sym s.goes ∙ from_full (length image) s.files rest (1024 - count) (omega arith) e)) ∙ sym (parsed_answer image)

  test : right_behind image count last ≡ right_head s.files
  test = (λ i. right_behind image (sym s.counted i) (sym s.lasts i)) ∙ head_test image s.files rest s.walked s.ascending

  step : count < 1024 → eqb (length rest) 0 ≡ false → files_from 1024 (length image) [] image ≡ and_then (file_by (right_behind image count last) (length image) rest) (λ f. files_from (1024 - (count + 1)) (length image) (s.files ++ (f.0 ∷ [])) f.1)
  step l e =
      sym s.goes ∙ from_more (length image) s.files rest (1024 - count) (1024 - (count + 1)) (omega arith) e
      ∙ ap (λ t. and_then (file_by t (length image) rest) (λ f. files_from (1024 - (count + 1)) (length image) (s.files ++ (f.0 ∷ [])) f.1)) (sym test)

  -- a wrong file
  pub sofar_wrong : (y : SpoiltImage) → count < 1024 → eqb (length rest) 0 ≡ false → Err y ≡ ok_by summed (file_by (right_behind image count last) (length image) rest) → Err y ≡ ok_by layout_of (parsed image)
  sofar_wrong y l e q =
      sym (ap answer (step l e ∙ ap (λ r. and_then r (λ f. files_from (1024 - (count + 1)) (length image) (s.files ++ (f.0 ∷ [])) f.1)) (ok_by_err summed _ y q)))
      ∙ sym (parsed_answer image)

  -- one file more
  pub sofar_more : (number len : ℕ) (behind : List ℕ) → count < 1024 → eqb (length rest) 0 ≡ false → len ≤ 32768
      → Ok (number, len, behind) ≡ ok_by summed (file_by (right_behind image count last) (length image) rest) → Sofar image behind (count + 1) number (sum + len)
  sofar_more number len behind l e b q =
      let p = ok_by_ok summed (file_by (right_behind image count last) (length image) rest) (number, len, behind) q in
      let x = p.0.0 in
      let is : file_by (right_behind image count last) (length image) rest ≡ Ok (x, behind) = p.1 ∙ ap (λ z. Ok (x, z)) (ap (λ z. z.2) p.2) in
      let num : x.number ≡ number = ap (λ z. z.0) p.2 in
      let long : length x.file.bytes ≡ len = ap (λ z. z.1) p.2 in
      let r = file_read (right_behind image count last) (length image) rest x behind is in
      let above = ltb-true last x.number (and_parts (ltb last x.number) _ r.head_right).0 in
      record {
        files = s.files ++ (x ∷ []);
        walked = walked_push image s.files rest x behind s.walked (file_next (right_behind image count last) (length image) rest x behind is);
        ascending = ascending_push 0 s.files x s.ascending (omega (arith, s.lasts));
        counted = length_push s.files x ∙ omega (arith, s.counted);
        lasts = last_push 0 s.files x ∙ num;
        sums = total_push s.files x ∙ omega (arith, s.sums);
        bound = omega (arith, s.bound);
        goes = sym (step l e ∙ ap (λ z. and_then z (λ f. files_from (1024 - (count + 1)) (length image) (s.files ++ (f.0 ∷ [])) f.1)) is);
      }
