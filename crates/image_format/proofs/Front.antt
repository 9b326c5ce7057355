-- The files at the front of an image: what every one of them keeps to, and that one more does.
use Rattle.std.proofs.Common.{◌≡◌, ℕ, ◌*◌, ◌<◌, ◌≤◌, Bool, true, false, cond, not, ◌||◌, eqb, ltb, leb, ◌⊎◌, List, [], ◌∷◌, ◌++◌, length, Some, None, Option, refl, ap, ◌∙◌, subst, inl, inr, ⊎_elim, arith}
use Rattle.std.proofs.lemmas.Bool.{and_parts, ltb-true, leb-true, eqb-true, or_cases, or_left, or_right, false≢true}
use Rattle.object.specs.Formats.{is_folder}
use Rattle.object.specs.declared.protection.Protection.TheVariants.{ReadOnly}
use Rattle.store.specs.Contents.{File, Entry, total, lookup}
use Rattle.store.specs.Sound.{Ascending, folder_there, is_parent, last_number, EachFile, Sound}
use Rattle.image_format.specs.Parsed.{right_head, right_body, full_of, last_of}
use Rattle.image_format.proofs.Entries.{ascending_push}
use Rattle.image_format.proofs.Inverted.{head_of}

pub record Front (es : List Entry) : Type 0 where
  pub ascending : Ascending 0 es
  pub numbers : EachFile es (λ n f. n ≤ last_number)
  pub lengths : EachFile es (λ n f. length f.bytes ≤ 32768)
  pub folders_empty : EachFile es (λ n f. is_folder f.format ≡ true → length f.bytes ≡ 0)
  pub parents : EachFile es (λ n f. is_parent f.parent es ≡ true)
  pub parents_below : EachFile es (λ n f. f.parent < n)
  pub protected : EachFile es (λ n f. f.protection ≡ ReadOnly)

pub front_none : Front []
front_none =
    record {
      ascending = tt;
      numbers = λ n f e. cc;
      lengths = λ n f e. cc;
      folders_empty = λ n f e. cc;
      parents = λ n f e. cc;
      parents_below = λ n f e. cc;
      protected = λ n f e. cc;
    }

-- a file that is found in a longer list was there, or is the new one
pub lookup_push : (n : ℕ) (f : File) (es : List Entry) (e : Entry) → lookup n (es ++ (e ∷ [])) ≡ Some f → (lookup n es ≡ Some f) ⊎ ((e.number ≡ n) × (e.file ≡ f))
lookup_push n f [] e q = by (eqb e.number n) refl q
  where
    by : (t : Bool) → eqb e.number n ≡ t → cond t (Some e.file) None ≡ Some f → (None ≡ Some f) ⊎ ((e.number ≡ n) × (e.file ≡ f))
    by true r q = inr (eqb-true e.number n r, cc)
    by false r q = inl q
lookup_push n f (x ∷ es) e q = by (λ r. lookup_push n f es e r) (eqb x.number n) q
  where
    by : (lookup n (es ++ (e ∷ [])) ≡ Some f → (lookup n es ≡ Some f) ⊎ ((e.number ≡ n) × (e.file ≡ f)))
        → (t : Bool) → cond t (Some x.file) (lookup n (es ++ (e ∷ []))) ≡ Some f → (cond t (Some x.file) (lookup n es) ≡ Some f) ⊎ ((e.number ≡ n) × (e.file ≡ f))
    by rest true q = inl q
    by rest false q = rest q

-- a file that is there stays found
pub lookup_longer : (n : ℕ) (f : File) (es more : List Entry) → lookup n es ≡ Some f → lookup n (es ++ more) ≡ Some f
lookup_longer n f [] more q = cc
lookup_longer n f (x ∷ es) more q = by (λ r. lookup_longer n f es more r) (eqb x.number n) q
  where
    by : (lookup n es ≡ Some f → lookup n (es ++ more) ≡ Some f) → (t : Bool) → cond t (Some x.file) (lookup n es) ≡ Some f → cond t (Some x.file) (lookup n (es ++ more)) ≡ Some f
    by rest true q = q
    by rest false q = rest q

-- a folder that is there is a file that is there
pub folder_file : (o : Option File) → folder_there o ≡ true → (f : File) × (o ≡ Some f) × (is_folder f.format ≡ true)
folder_file None e = absurd (false≢true e)
folder_file (Some f) e = (f, refl, e)

pub parent_longer : (n : ℕ) (es more : List Entry) → is_parent n es ≡ true → is_parent n (es ++ more) ≡ true
parent_longer n es more e =
    ⊎_elim (λ z. or_left (eqb n 0) _ z)
    (λ z.
    let p = folder_file (lookup n es) z in
    or_right (eqb n 0) _ (ap folder_there (lookup_longer n p.0 es more p.1) ∙ p.2))
    (or_cases (eqb n 0) (folder_there (lookup n es)) e)

-- no file has a larger number than the last
pub found_last : (lo n : ℕ) (f : File) (es : List Entry) → Ascending lo es → lookup n es ≡ Some f → (lo < n) × (n ≤ last_of lo es)
found_last lo n f [] a q = cc
found_last lo n f (x ∷ es) a q = by (λ r. found_last x.number n f es a.1 r) (last_least x.number es a.1) (eqb x.number n) refl q
  where
    last_least : (m : ℕ) (ys : List Entry) → Ascending m ys → m ≤ last_of m ys
    last_least m [] b = omega arith
    last_least m (y ∷ ys) b = let h : y.number ≤ last_of y.number ys = last_least y.number ys b.1 in omega (arith, b.0)

    by : (lookup n es ≡ Some f → (x.number < n) × (n ≤ last_of x.number es)) → x.number ≤ last_of x.number es
        → (t : Bool) → eqb x.number n ≡ t → cond t (Some x.file) (lookup n es) ≡ Some f → (lo < n) × (n ≤ last_of x.number es)
    by rest l true r q = let e = eqb-true x.number n r in (omega (arith, a.0), omega arith)
    by rest l false r q = let p = rest q in (omega (arith, a.0, p.0), p.1)

-- a right head's parent has a smaller number
parent_smaller : (n p : ℕ) (es : List Entry) → Ascending 0 es → last_of 0 es < n → is_parent p es ≡ true → p < n
parent_smaller n p es a l e =
    ⊎_elim (λ z. omega (arith, eqb-true p 0 z))
    (λ z. let q = folder_file (lookup p es) z in omega (arith, (found_last 0 p q.0 es a q.1).1))
    (or_cases (eqb p 0) (folder_there (lookup p es)) e)

-- what right fields say of a file
pub record Right (es : List Entry) (e : Entry) : Type 0 where
  pub above : last_of 0 es < e.number
  pub number : e.number ≤ last_number
  pub parent : is_parent e.file.parent es ≡ true
  pub small : length e.file.bytes ≤ 32768
  pub folder : is_folder e.file.format ≡ true → length e.file.bytes ≡ 0
  pub protected : e.file.protection ≡ ReadOnly

pub right : (es : List Entry) (e : Entry) → right_head es (head_of e) ≡ true → right_body e.file.format e.file.bytes ≡ true → e.file.protection ≡ ReadOnly → Right es e
right es e h b p =
    let x = and_parts (ltb (last_of 0 es) e.number) _ h in
    let y = and_parts (leb e.number last_number) _ x.1 in
    let z = and_parts (leb (length e.file.bytes) 32768) _ b in
    record {
      above = ltb-true (last_of 0 es) e.number x.0;
      number = leb-true e.number last_number y.0;
      parent = y.1;
      small = leb-true (length e.file.bytes) 32768 z.0;
      folder = by (is_folder e.file.format) z.1;
      protected = p;
    }
  where
    by : (t : Bool) → (not t || eqb (length e.file.bytes) 0) ≡ true → t ≡ true → length e.file.bytes ≡ 0
    by true q r = eqb-true (length e.file.bytes) 0 q
    by false q r = absurd (false≢true r)

-- a fact of every file, with one more
each_push : (es : List Entry) (e : Entry) (P : ℕ → File → Type 0) → EachFile es P → P e.number e.file → EachFile (es ++ (e ∷ [])) P
each_push es e P old new n f q =
    ⊎_elim (λ r. old n f r) (λ r. subst (λ m. P m f) r.0 (subst (λ g. P e.number g) r.1 new)) (lookup_push n f es e q)

pub front_push : (es : List Entry) (e : Entry) → Front es → Right es e → Front (es ++ (e ∷ []))
front_push es e s r =
    record {
      ascending = ascending_push 0 es e s.ascending r.above;
      numbers = each_push es e (λ n f. n ≤ last_number) s.numbers r.number;
      lengths = each_push es e (λ n f. length f.bytes ≤ 32768) s.lengths r.small;
      folders_empty = each_push es e (λ n f. is_folder f.format ≡ true → length f.bytes ≡ 0) s.folders_empty r.folder;
      parents =
          each_push es e (λ n f. is_parent f.parent (es ++ (e ∷ [])) ≡ true) (λ n f q. parent_longer f.parent es (e ∷ []) (s.parents n f q))
          (parent_longer e.file.parent es (e ∷ []) r.parent);
      parents_below = each_push es e (λ n f. f.parent < n) s.parents_below (parent_smaller e.number e.file.parent es s.ascending r.above r.parent);
      protected = each_push es e (λ n f. f.protection ≡ ReadOnly) s.protected r.protected;
    }

pub front_sound : (es : List Entry) → Front es → length es ≤ 1024 → total es ≤ 32768 * length es → Sound (full_of es)
front_sound es s l b =
    record {
      capacity_bound = omega arith;
      limit_bound = l;
      total_fits = omega arith;
      count_fits = omega arith;
      ascending = s.ascending;
      numbers = s.numbers;
      lengths = s.lengths;
      folders_empty = s.folders_empty;
      parents = s.parents;
      parents_below = s.parents_below;
    }
