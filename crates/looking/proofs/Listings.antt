-- Listings by the next-file question, step by step.
use Rattle.std.proofs.Common.{◌≡◌, ℕ, ◌+◌, ◌≤◌, true, cond, List, [], ◌∷◌, ◌++◌, length, Option, sym, refl, ap, ◌∙◌, subst, arith}
use Rattle.std.specs.List.{AllByRecursion}
use Rattle.store.specs.Walks.{told}
use Rattle.store.specs.declared.info.FileInfo.{FileInfo}
use Rattle.store.specs.Contents.{Entry, Contents}
use Rattle.store.specs.Sound.{Sound, Ascending, EachFile}
use Rattle.store.proofs.Lookups.{lookup_here, lookup_past, found_above}
use Rattle.std.proofs.lemmas.Grind.{common_steps}
use Rattle.std.proofs.lemmas.List.{length-map}
use Rattle.store.specs.Infos.{info_of}
use Rattle.protocol.specs.Looking.{handles_on, handles_shown}
use Rattle.protocol.specs.Storages.{Storages}
use Rattle.looking.specs.Listings.{lies_in, listed_in, listing_told, shows_listing}

-- the handles of the files that were told, of which some are left
abbrev pub handles_told : ℕ → Option ℕ → List (ℕ × FileInfo) → List ℕ
handles_told base wanted [] = []
handles_told base wanted (t ∷ ts) = cond (lies_in wanted t.1.parent) ((base + t.0) ∷ handles_told base wanted ts) (handles_told base wanted ts)

told_handles : (base : ℕ) (wanted : Option ℕ) (es : List Entry) → handles_told base wanted (told es) ≡ handles_on base (listed_in wanted) es
told_handles base wanted [] = refl
told_handles base wanted (e ∷ es) = ap (λ hs. cond (lies_in wanted e.file.parent) ((base + e.number) ∷ hs) hs) (told_handles base wanted es)

-- as far as a walk has come: what was gathered and what is left make up the whole, the numbers that are left are numbers of files, and there is room
pub record SoFar (base : ℕ) (wanted : Option ℕ) (es : List Entry) (before now : List ℕ) (left : List (ℕ × FileInfo)) : Type 0 where
  pub whole : now ++ handles_told base wanted left ≡ before ++ handles_on base (listed_in wanted) es
  pub numbers : AllByRecursion (λ (t : ℕ × FileInfo). t.0 ≤ 0x7FFFFFFE) left
  pub room : length now + length left ≤ length before + 1024

numbers_told : (lo : ℕ) (es : List Entry) → Ascending lo es → EachFile es (λ n f. n ≤ 0x7FFFFFFE) → AllByRecursion (λ (t : ℕ × FileInfo). t.0 ≤ 0x7FFFFFFE) (told es)
numbers_told lo [] a h = tt
numbers_told lo (e ∷ es) a h = (
  h e.number e.file (lookup_here e es e.number refl),
  numbers_told e.number es a.1 (λ n f l. h n f (lookup_past e es n (λ (same : e.number ≡ n). let above = found_above e.number n f es a.1 l in omega arith) ∙ l)),
)

pub so_far_start : (c : Contents) → Sound c → (base : ℕ) (wanted : Option ℕ) (before : List ℕ) (left : List (ℕ × FileInfo)) → left ≡ told c.files → SoFar base wanted c.files before before left
so_far_start c s base wanted before left is =
    let count : length left ≡ length c.files = ap length is ∙ length-map c.files (λ (e : Entry). (e.number, info_of e.file)) in
    let fits = s.count_fits in
    let limit = s.limit_bound in
    record {
      whole = ap (λ hs. before ++ hs) (ap (handles_told base wanted) is ∙ told_handles base wanted c.files);
      numbers = subst (AllByRecursion (λ (t : ℕ × FileInfo). t.0 ≤ 0x7FFFFFFE)) (sym is) (numbers_told 0 c.files s.ascending s.numbers);
      room = omega arith;
    }

pub so_far_more : (base : ℕ) (wanted : Option ℕ) (es : List Entry) (before now : List ℕ) (left later : List (ℕ × FileInfo)) (n : ℕ) (f : FileInfo) (then : List ℕ)
    → SoFar base wanted es before now left → left ≡ (n, f) ∷ later → lies_in wanted f.parent ≡ true → then ≡ now ++ (base + n) ∷ []
    → SoFar base wanted es before then later
so_far_more base wanted es before now left later n f then s is listed gathered =
    let t = subst (SoFar base wanted es before now) is s in
    record {
      whole = grind (arith, common_steps);
      numbers = t.numbers.1;
      room = grind (arith, common_steps);
    }

-- what a listing shows
pub handles_is : (p : Storages) (storage format folder : ℕ) → handles_shown p storage format folder ≡ shows_listing p (listing_told p storage format folder)
unfolding handles_shown
handles_is p storage format folder = grind arith
