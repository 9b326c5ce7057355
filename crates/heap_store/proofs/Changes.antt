-- What follows from an answer to a change.
use Rattle.std.proofs.Common.{◌≡◌, ℕ, ◌+◌, ◌<◌, ◌≤◌, false, List, length, Ok, Err, Result, sym, ap, ◌∙◌, subst, arith}
use Rattle.store.specs.Contents.{File, Entry, Contents, total}
use Rattle.store.specs.Sound.{Sound, max_length}
use Rattle.store.specs.SoundProp.{sound_from}
use Rattle.store.specs.Changes.{adding, added, inserted, without, has_children}
use Rattle.store.specs.Changing.{result_of, contents_after}
use Rattle.store.specs.declared.fault.StoreFault.{StoreFault}
use Rattle.store.proofs.Kept.{Added, added_ok, changes_keep, sound_removed}
use Rattle.heap_store.specs.InMemory.{holding}

taken_in : (r : Result Contents StoreFault) → Ok tt ≡ result_of r → (d : Contents) × (r ≡ Ok d)
taken_in (Ok d) e = (d, λ i. Ok d)
taken_in (Err f) e = let z : ◌≡◌ {A = ℕ} 0 1 = cc in absurd (omega arith)

module _ (n : ℕ) (f : File) (capacity limit : ℕ) (files : List Entry) (e : Ok tt ≡ result_of (added false n f (holding capacity limit files))) where
  after : (d : Contents) × (added false n f (holding capacity limit files) ≡ Ok d)
  after = taken_in (added false n f (holding capacity limit files)) e

  fits : Added false n f (holding capacity limit files) after.0
  fits = added_ok false n f (holding capacity limit files) after.0 after.1

  pub free_place : length files < limit
  free_place = fits.fits.free_place

  pub free_bytes : total files + length f.bytes ≤ capacity
  free_bytes = fits.fits.free_bytes

  pub short : length f.bytes ≤ max_length
  short = fits.fits.short

  pub added_gives : contents_after (holding capacity limit files) (added false n f (holding capacity limit files)) ≡ holding capacity limit (inserted n f files)
  added_gives = ap (contents_after (holding capacity limit files)) after.1 ∙ fits.is

  added_sound : Sound (holding capacity limit files) → Sound (holding capacity limit (inserted n f files))
  added_sound s = subst Sound fits.is (changes_keep false (adding n f) (holding capacity limit files) after.0 s after.1).0

  pub stays_sound : (later : List Entry) → ∥ Sound (holding capacity limit files) ∥₁ → later ≡ inserted n f files → ∥ Sound (holding capacity limit later) ∥₁
  stays_sound later s q = ∣ subst (λ es. Sound (holding capacity limit es)) (sym q) (added_sound (sound_from (holding capacity limit files) s)) ∣₁

-- what an addition that is taken in needs and leaves
pub ruleset addition = (free_place, free_bytes, short, added_gives, stays_sound)

-- a file without children may go
pub goes_soundly : (n capacity limit : ℕ) (files later : List Entry) → has_children n files ≡ false → ∥ Sound (holding capacity limit files) ∥₁
    → later ≡ without n files → ∥ Sound (holding capacity limit later) ∥₁
goes_soundly n capacity limit files later free s q =
    ∣ subst (λ es. Sound (holding capacity limit es)) (sym q) (sound_removed n (holding capacity limit files) (sound_from (holding capacity limit files) s) free) ∣₁
