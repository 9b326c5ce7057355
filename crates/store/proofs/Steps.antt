-- What is left of a walk, at its start and after each step.
use Rattle.std.proofs.Common.{◌≡◌, ℕ, List, [], ◌∷◌, Some, None, sym, ap, ◌∙◌}
use Rattle.std.specs.Option.{option_map}
use Rattle.byte_parts.proofs.Cutting.{none_some, some_same}
use Rattle.store.specs.Contents.{Entry, Contents, next_above}
use Rattle.store.specs.Sound.{Sound}
use Rattle.store.specs.Infos.{info_of, described}
use Rattle.store.specs.declared.info.FileInfo.{FileInfo}
use Rattle.store.specs.Walks.{numbers, told, above}
use Rattle.store.proofs.Walks.{above_all, none_above, step}

pub numbers_all : (c : Contents) → Sound c → numbers (above 0 c.files) ≡ numbers c.files
numbers_all c s = ap numbers (above_all 0 c.files s.ascending)

pub told_all : (c : Contents) → Sound c → told (above 0 c.files) ≡ told c.files
told_all c s = ap told (above_all 0 c.files s.ascending)

pub numbers_end : (n : ℕ) (es : List Entry) → None ≡ next_above n es → numbers (above n es) ≡ []
numbers_end n es q = ap numbers (none_above n es q)

pub numbers_step : (c : Contents) (n m : ℕ) → Sound c → Some m ≡ next_above n c.files → numbers (above n c.files) ≡ m ∷ numbers (above m c.files)
numbers_step c n m s q = ap numbers (step 0 n m c.files s.ascending q).first

pub told_end : (n : ℕ) (es : List Entry) → None ≡ next_above n es → told (above n es) ≡ []
told_end n es q = ap told (none_above n es q)

pub told_step : (c : Contents) (n m : ℕ) (f : FileInfo) → Sound c → Some m ≡ next_above n c.files → Some f ≡ described m c.files
    → told (above n c.files) ≡ (m, f) ∷ told (above m c.files)
told_step c n m f sound q d =
    let s = step 0 n m c.files sound.ascending q in
    ap told s.first ∙ ap (λ g. (m, g) ∷ told (above m c.files)) (sym (some_same (d ∙ ap (option_map info_of) s.there)))

-- each number of a walk is that of a file
pub described_there : (c : Contents) (n m : ℕ) → Sound c → Some m ≡ next_above n c.files → None ≡ described m c.files → told (above n c.files) ≡ []
described_there c n m sound q d = absurd (none_some (d ∙ ap (option_map info_of) (step 0 n m c.files sound.ascending q).there))

-- the steps of `Numbers`, and of `Files`
pub ruleset numbers_steps = (numbers_end, numbers_step)

pub ruleset files_steps = (told_end, told_step, described_there)
