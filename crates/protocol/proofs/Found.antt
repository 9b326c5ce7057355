-- Objects by their handles, in the machine's words and in the laws'.
use Rattle.std.proofs.Common.{◌≡◌, ℕ, ◌+◌, ◌-◌, ◌^◌, ◌<◌, ◌≤◌, Bool, true, false, cond, eqb, ltb, ◌⊎◌, length, Some, Option, sym, refl, ap, ◌∙◌, subst, inl, inr, arith}
use Rattle.std.proofs.lemmas.Bool.{lt-ltb, le-ltb, cond-true, cond-false, cases_lt, eqb-true, eqb-false}
use Rattle.object.specs.Formats.{is_folder, format_number}
use Rattle.object.specs.declared.format.Format.{Format}
use Rattle.object.specs.declared.format.Format.TheVariants.{Undefined, Association, Text}
use Rattle.store.specs.Contents.{File, Contents, lookup}
use Rattle.store.specs.Sound.{Sound, max_length}
use Rattle.protocol.specs.Storages.{Storages, SoundStorages, first_storage, second_storage, second_base, storage_of, object_at}
use Rattle.protocol.specs.Looking.{parent_handle, info_of}
use Rattle.protocol.specs.Objects.{Object}
use Rattle.protocol.specs.ReadBack.{ParentTold, TellsOf}
use Rattle.protocol.proofs.Reading.{InfoFits}

pub at_first : (p : Storages) (n : ℕ) → n < second_base → object_at p n ≡ lookup n p.first.files
unfolding object_at
at_first p n l = cond-true (ltb n second_base) _ _ (lt-ltb n second_base l)

pub at_second : (p : Storages) (n : ℕ) → object_at p (second_base + n) ≡ lookup n p.second.files
unfolding object_at
at_second p n =
    cond-false (ltb (second_base + n) second_base) _ _ (le-ltb (second_base + n) second_base (omega arith))
    ∙ ap (λ m. lookup m p.second.files) (omega arith)

-- what a found file keeps to
pub record Fine (f : File) : Type 0 where
  pub short : length f.bytes ≤ max_length
  pub folder_empty : is_folder f.format ≡ true → length f.bytes ≡ 0
  pub parent_low : f.parent < second_base

pub fine_lookup : (c : Contents) → Sound c → (n : ℕ) (f : File) → lookup n c.files ≡ Some f → Fine f
fine_lookup c s n f e = record { short = s.lengths n f e; folder_empty = s.folders_empty n f e; parent_low = omega (arith, s.parents_below n f e, s.numbers n f e) }

-- the two sides of a handle
pub sides : (P : Option File → Type 0) (p : Storages) (h : ℕ)
    → (h < second_base → P (lookup h p.first.files)) → ((n : ℕ) → h ≡ second_base + n → P (lookup n p.second.files)) → P (object_at p h)
sides P p h a b = by (cases_lt h second_base)
  where
    by : (h < second_base) ⊎ (second_base ≤ h) → P (object_at p h)
    by (inl l) = subst P (sym (at_first p h l)) (a l)
    by (inr l) =
        let e : h ≡ second_base + (h - second_base) = omega arith in
        subst (λ m. P (object_at p m)) (sym e) (subst P (sym (at_second p (h - second_base))) (b (h - second_base) e))

pub fine_at : (p : Storages) → SoundStorages p → (h : ℕ) (f : File) → object_at p h ≡ Some f → Fine f
fine_at p k h f = sides (λ o. o ≡ Some f → Fine f) p h (λ _ e. fine_lookup p.first k.first_sound h f e) (λ n _ e. fine_lookup p.second k.second_sound n f e)

pub object_found : (p : Storages) (h : ℕ) (f : File) → object_at p h ≡ Some f → Object p h (storage_of h) f
object_found p h f =
    sides (λ o. o ≡ Some f → Object p h (storage_of h) f) p h
    (λ l e.
    let s : storage_of h ≡ first_storage = cond-true (ltb h second_base) _ _ (lt-ltb h second_base l) in
    record { number = h; handle = inl (s, refl); held = inl (s, e) })
    (λ n q e.
    let s : storage_of h ≡ second_storage = cond-false (ltb h second_base) _ _ (le-ltb h second_base (omega arith)) in
    record { number = n; handle = inr (s, q); held = inr (s, e) })

-- a parent on the wire
pub parent_low : (h parent : ℕ) → parent < second_base → parent_handle h parent < 2 ^ 32
parent_low h parent l = by (ltb h second_base) (eqb parent 0)
  where
    by : (t u : Bool) → cond t parent (cond u 0 (second_base + parent)) < 2 ^ 32
    by true u = omega arith
    by false true = omega arith
    by false false = omega arith

parent_told : (h parent : ℕ) → ParentTold (storage_of h) parent (parent_handle h parent)
parent_told h parent = by (ltb h second_base) (eqb parent 0) refl
  where
    by : (t u : Bool) → eqb parent 0 ≡ u → ParentTold (cond t first_storage second_storage) parent (cond t parent (cond u 0 (second_base + parent)))
    by true true e = inl (eqb-true parent 0 e, eqb-true parent 0 e)
    by true false e = inr (eqb-false parent 0 e, inl (refl, refl))
    by false true e = inl (eqb-true parent 0 e, refl)
    by false false e = inr (eqb-false parent 0 e, inr (refl, refl))

format_low : (f : Format) → format_number f < 2 ^ 16
format_low Undefined = omega arith
format_low Association = omega arith
format_low Text = omega arith

storage_low : (h : ℕ) → storage_of h < 2 ^ 32
storage_low h = by (ltb h second_base)
  where
    by : (t : Bool) → cond t first_storage second_storage < 2 ^ 32
    by true = omega arith
    by false = omega arith

pub info_fits : (h : ℕ) (f : File) → Fine f → InfoFits (info_of h f)
info_fits h f k = record {
  storage_fits = storage_low h;
  format_fits = format_low f.format;
  size_fits = omega (arith, k.short);
  parent_fits = parent_low h f.parent k.parent_low;
}

pub info_tells : (p : Storages) (h : ℕ) (f : File) → object_at p h ≡ Some f → TellsOf p h (info_of h f)
info_tells p h f e = record {
  file = f;
  object = object_found p h f e;
  format_is = refl;
  protection_is = refl;
  size_is = refl;
  parent_is = parent_told h f.parent;
  name_is = refl;
}
