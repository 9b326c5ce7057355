-- Every change that is not refused keeps a store sound, and differs from before in just its place.
use Rattle.std.proofs.Common.{◌≡◌, ℕ, ◌+◌, ◌<◌, ◌≤◌, Bool, true, false, not, ◌&&◌, ◌||◌, eqb, ltb, leb, ◌⊎◌, List, length, Some, None, Ok, Option, sym, refl, ap, ◌∙◌, subst, inl, inr, arith}
use Rattle.std.proofs.lemmas.Bool.{eqb-true, eq-eqb, ltb-true, leb-true, le-leb, lt-ltb, and_parts, and_from, or_cases, or_left, or_right, not-true, not_from_false, cases_eq, cases_Bool, both_ways, false≢true}
use Rattle.byte_parts.proofs.Cutting.{none_some, some_same}
use Rattle.object.specs.Formats.{is_folder}
use Rattle.store.specs.declared.fault.StoreFault.{StoreFault}
use Rattle.store.specs.declared.fault.StoreFault.TheVariants.{ReadOnly, InvalidDataset, NumberTaken, InvalidParent, Full, Absent, HasChildren}
use Rattle.store.specs.Contents.{File, Entry, Contents, total, lookup}
use Rattle.store.specs.Sound.{Sound, EachFile, is_parent, folder_there, last_number, max_length}
use Rattle.store.specs.Changes.{adding, removing, added, removed, inserted, without, with_files, is_absent, has_children, is_number, legal_length, has_room}
use Rattle.store.specs.Laws.{DiffersAt, ChangesKeep, Addable, AdditionsAccepted}
use Rattle.store.proofs.Checks.{EitherWay, checked, given_ok, provided_true}
use Rattle.store.proofs.Lookups.{find_added, find_other, find_removed, find_kept, ascending_inserted, ascending_without, length_inserted, total_inserted, sizes_without, childless}

absent_none : (o : Option File) → is_absent o ≡ true → o ≡ None
absent_none None e = refl
absent_none (Some f) e = absurd (false≢true e)

abbrev Any : StoreFault → Type 0
Any fault = Unit {0}

-- what the checks of an addition tell
pub record Added (locked : Bool) (n : ℕ) (f : File) (c d : Contents) : Type 0 where
  pub unlocked : locked ≡ false
  pub fits : Addable n f c
  pub is : d ≡ with_files c (inserted n f c.files)

folder_length : (f : File) → (not (is_folder f.format) || eqb (length f.bytes) 0) ≡ true → is_folder f.format ≡ true → length f.bytes ≡ 0
folder_length f e t = by (or_cases (not (is_folder f.format)) _ e)
  where
    by : (not (is_folder f.format) ≡ true) ⊎ (eqb (length f.bytes) 0 ≡ true) → length f.bytes ≡ 0
    by (inl h) = absurd (both_ways (is_folder f.format) (not-true (is_folder f.format) h) t)
    by (inr h) = eqb-true (length f.bytes) 0 h

pub parent_cases : (parent : ℕ) (es : List Entry) → is_parent parent es ≡ true → (parent ≡ 0) ⊎ (folder_there (lookup parent es) ≡ true)
parent_cases parent es e = by (or_cases (eqb parent 0) _ e)
  where
    by : (eqb parent 0 ≡ true) ⊎ (folder_there (lookup parent es) ≡ true) → (parent ≡ 0) ⊎ (folder_there (lookup parent es) ≡ true)
    by (inl h) = inl (eqb-true parent 0 h)
    by (inr h) = inr h

pub parent_from : (parent : ℕ) (es : List Entry) → (parent ≡ 0) ⊎ (folder_there (lookup parent es) ≡ true) → is_parent parent es ≡ true
parent_from parent es (inl e) = or_left (eqb parent 0) _ (eq-eqb parent 0 e)
parent_from parent es (inr e) = or_right (eqb parent 0) _ e

pub added_ways : (locked : Bool) (n : ℕ) (f : File) (c : Contents) → EitherWay (Added locked n f c) Any (added locked n f c)
unfolding added
added_ways locked n f c =
    let P : Contents → Type 0 = Added locked n f c in
    checked P Any (not locked) ReadOnly _ tt λ a.
    checked P Any (is_number n && legal_length f) InvalidDataset _ tt λ b.
    checked P Any (is_absent (lookup n c.files)) NumberTaken _ tt λ d.
    checked P Any (is_parent f.parent c.files && ltb f.parent n) InvalidParent _ tt λ e.
    checked P Any (has_room (length f.bytes) c) Full _ tt λ g.
    let limits = and_parts (is_number n) (legal_length f) b in
    let number = and_parts (leb 1 n) (leb n last_number) limits.0 in
    let size = and_parts (leb (length f.bytes) max_length) _ limits.1 in
    let parent = and_parts (is_parent f.parent c.files) (ltb f.parent n) e in
    let room = and_parts (ltb (length c.files) c.limit) _ g in
    record {
      unlocked = not-true locked a;
      fits = record {
        positive = leb-true 1 n number.0;
        last = leb-true n last_number number.1;
        short = leb-true (length f.bytes) max_length size.0;
        folder_empty = folder_length f size.1;
        new = absent_none (lookup n c.files) d;
        parent = parent_cases f.parent c.files parent.0;
        parent_below = ltb-true f.parent n parent.1;
        free_place = ltb-true (length c.files) c.limit room.0;
        free_bytes = leb-true (total c.files + length f.bytes) c.capacity room.1;
      };
      is = refl;
    }

pub added_ok : (locked : Bool) (n : ℕ) (f : File) (c d : Contents) → added locked n f c ≡ Ok d → Added locked n f c d
added_ok locked n f c d e = given_ok (Added locked n f c) Any e (added_ways locked n f c)

-- what the checks of a removal tell
pub record Removed (locked : Bool) (n : ℕ) (c d : Contents) : Type 0 where
  pub unlocked : locked ≡ false
  pub there : is_absent (lookup n c.files) ≡ false
  pub childless : has_children n c.files ≡ false
  pub is : d ≡ with_files c (without n c.files)

pub removed_ways : (locked : Bool) (n : ℕ) (c : Contents) → EitherWay (Removed locked n c) Any (removed locked n c)
unfolding removed
removed_ways locked n c =
    let P : Contents → Type 0 = Removed locked n c in
    checked P Any (not locked) ReadOnly _ tt λ a.
    checked P Any (not (is_absent (lookup n c.files))) Absent _ tt λ b.
    checked P Any (not (has_children n c.files)) HasChildren _ tt λ d.
    record { unlocked = not-true locked a; there = not-true (is_absent (lookup n c.files)) b; childless = not-true (has_children n c.files) d; is = refl }

pub removed_ok : (locked : Bool) (n : ℕ) (c d : Contents) → removed locked n c ≡ Ok d → Removed locked n c d
removed_ok locked n c d e = given_ok (Removed locked n c) Any e (removed_ways locked n c)

-- a parent stays one if what it finds stays
parent_same : (parent : ℕ) (es ds : List Entry) → lookup parent ds ≡ lookup parent es → is_parent parent es ≡ true → is_parent parent ds ≡ true
parent_same parent es ds e h = subst (λ o. (eqb parent 0 || folder_there o) ≡ true) (sym e) h

module _ (n : ℕ) (f : File) (c : Contents) (s : Sound c) (a : Addable n f c) where
  -- what is found after an addition was added or was there
  found_added : (m : ℕ) (g : File) → lookup m (inserted n f c.files) ≡ Some g → ((m ≡ n) × (g ≡ f)) ⊎ (lookup m c.files ≡ Some g)
  found_added m g e = by (cases_eq m n)
    where
      by : (m ≡ n) ⊎ (m ≡ n → ⊥) → ((m ≡ n) × (g ≡ f)) ⊎ (lookup m c.files ≡ Some g)
      by (inl q) = inl (q, some_same (sym e ∙ ap (λ k. lookup k (inserted n f c.files)) q ∙ find_added n f c.files a.new))
      by (inr q) = inr (sym (find_other n m f c.files q) ∙ e)

  -- a fact of every file holds after an addition, if it holds of the new one
  each_added : (P : ℕ → File → Type 0) → EachFile c.files P → P n f → EachFile (inserted n f c.files) P
  each_added P old new m g e = by (found_added m g e)
    where
      by : ((m ≡ n) × (g ≡ f)) ⊎ (lookup m c.files ≡ Some g) → P m g
      by (inl (q, r)) = subst (λ h. P m h) (sym r) (subst (λ k. P k f) (sym q) new)
      by (inr r) = old m g r

  parent_more : (parent : ℕ) → is_parent parent c.files ≡ true → is_parent parent (inserted n f c.files) ≡ true
  parent_more parent h = by (parent_cases parent c.files h) (cases_eq parent n)
    where
      by : (parent ≡ 0) ⊎ (folder_there (lookup parent c.files) ≡ true) → (parent ≡ n) ⊎ (parent ≡ n → ⊥) → is_parent parent (inserted n f c.files) ≡ true
      by (inl e) o = parent_from parent (inserted n f c.files) (inl e)
      by (inr e) (inl q) = absurd (false≢true (subst (λ o. folder_there o ≡ true) (ap (λ m. lookup m c.files) q ∙ a.new) e))
      by (inr e) (inr q) = parent_same parent c.files (inserted n f c.files) (find_other n parent f c.files q) h

  sound_added : Sound (with_files c (inserted n f c.files))
  sound_added = record {
    capacity_bound = s.capacity_bound;
    limit_bound = s.limit_bound;
    total_fits = omega (arith, total_inserted n f c.files, a.free_bytes);
    count_fits = omega (arith, length_inserted n f c.files, a.free_place);
    ascending = ascending_inserted n f 0 c.files s.ascending a.positive a.new;
    numbers = each_added (λ m g. m ≤ last_number) s.numbers a.last;
    lengths = each_added (λ m g. length g.bytes ≤ max_length) s.lengths a.short;
    folders_empty = each_added (λ m g. is_folder g.format ≡ true → length g.bytes ≡ 0) s.folders_empty a.folder_empty;
    parents = each_added (λ m g. is_parent g.parent (inserted n f c.files) ≡ true) (λ m g e. parent_more g.parent (s.parents m g e)) (parent_more f.parent (parent_from f.parent c.files a.parent));
    parents_below = each_added (λ m g. g.parent < m) s.parents_below a.parent_below;
  }

  differs_added : DiffersAt n (Some f) c (with_files c (inserted n f c.files))
  differs_added = record { same_capacity = refl; same_limit = refl; here = find_added n f c.files a.new; elsewhere = λ m q. find_other n m f c.files q }

module _ (n : ℕ) (c : Contents) (s : Sound c) (free : has_children n c.files ≡ false) where
  found_kept : (m : ℕ) (g : File) → lookup m (without n c.files) ≡ Some g → lookup m c.files ≡ Some g
  found_kept m g e = by (cases_eq m n)
    where
      by : (m ≡ n) ⊎ (m ≡ n → ⊥) → lookup m c.files ≡ Some g
      by (inl q) = absurd (none_some (sym (find_removed n 0 c.files s.ascending) ∙ ap (λ k. lookup k (without n c.files)) (sym q) ∙ e))
      by (inr q) = sym (find_kept n m c.files q) ∙ e

  pub sound_removed : Sound (with_files c (without n c.files))
  sound_removed = record {
    capacity_bound = s.capacity_bound;
    limit_bound = s.limit_bound;
    total_fits = omega (arith, (sizes_without n c.files).1, s.total_fits);
    count_fits = omega (arith, (sizes_without n c.files).0, s.count_fits);
    ascending = ascending_without n 0 c.files s.ascending;
    numbers = λ m g e. s.numbers m g (found_kept m g e);
    lengths = λ m g e. s.lengths m g (found_kept m g e);
    folders_empty = λ m g e. s.folders_empty m g (found_kept m g e);
    parents = λ m g e. parent_same g.parent c.files (without n c.files) (find_kept n g.parent c.files (childless n m g c.files free (found_kept m g e))) (s.parents m g (found_kept m g e));
    parents_below = λ m g e. s.parents_below m g (found_kept m g e);
  }

  differs_removed : DiffersAt n None c (with_files c (without n c.files))
  differs_removed = record { same_capacity = refl; same_limit = refl; here = find_removed n 0 c.files s.ascending; elsewhere = λ m q. find_kept n m c.files q }

pub changes_keep : ChangesKeep
changes_keep locked (adding n f) c d s e =
    let r = added_ok locked n f c d e in
    subst (λ x. Sound x × DiffersAt n (Some f) c x) (sym r.is) (sound_added n f c s r.fits, differs_added n f c s r.fits)
changes_keep locked (removing n) c d s e =
    let r = removed_ok locked n c d e in
    subst (λ x. Sound x × DiffersAt n None c x) (sym r.is) (sound_removed n c s r.childless, differs_removed n c s r.childless)

legal_from : (f : File) → length f.bytes ≤ max_length → (is_folder f.format ≡ true → length f.bytes ≡ 0) → legal_length f ≡ true
legal_from f l k = and_from _ _ (le-leb (length f.bytes) max_length l) (by (cases_Bool (is_folder f.format)))
  where
    by : (is_folder f.format ≡ true) ⊎ (is_folder f.format ≡ false) → (not (is_folder f.format) || eqb (length f.bytes) 0) ≡ true
    by (inl t) = or_right (not (is_folder f.format)) _ (eq-eqb (length f.bytes) 0 (k t))
    by (inr t) = or_left (not (is_folder f.format)) _ (not_from_false (is_folder f.format) t)

pub added_taken : (n : ℕ) (f : File) (c : Contents) → Addable n f c → added false n f c ≡ Ok (with_files c (inserted n f c.files))
unfolding added
added_taken n f c a =
    provided_true (is_number n && legal_length f) InvalidDataset _ (and_from _ _ (and_from _ _ (le-leb 1 n a.positive) (le-leb n last_number a.last)) (legal_from f a.short a.folder_empty))
    ∙ provided_true (is_absent (lookup n c.files)) NumberTaken _ (ap is_absent a.new)
    ∙ provided_true (is_parent f.parent c.files && ltb f.parent n) InvalidParent _ (and_from _ _ (parent_from f.parent c.files a.parent) (lt-ltb f.parent n a.parent_below))
    ∙ provided_true (has_room (length f.bytes) c) Full _ (and_from _ _ (lt-ltb (length c.files) c.limit a.free_place) (le-leb (total c.files + length f.bytes) c.capacity a.free_bytes))

pub additions_accepted : AdditionsAccepted
additions_accepted = record {
  taken = λ n f c a. (with_files c (inserted n f c.files), added_taken n f c a);
  no_other = λ locked n f c d e. let r = added_ok locked n f c d e in (r.unlocked, r.fits);
}
