-- That contents are sound is one fact: it has one proof at most.
use Rattle.std.specs.Prelude.{ℕ, true, List, [], ◌∷◌, length}
use Rattle.std.proofs.Math.Bool.{Bool-set}
use mathlib.Core.HLevel.{Π_prop, ×_prop, Unit-prop}
use Rattle.std.proofs.Math.Bridge.{le_prop}
use Rattle.std.proofs.Math.Nat.{ℕ_set}
use Rattle.store.specs.Contents.{File, Entry, Contents}
use Rattle.store.specs.Sound.{Sound, Ascending, EachFile, is_parent}

pub ascending_is_prop : (n : ℕ) (es : List Entry) → IsProp (Ascending n es)
ascending_is_prop n [] = Unit-prop
ascending_is_prop n (e ∷ es) = ×_prop le_prop (ascending_is_prop e.number es)

pub each_is_prop : (es : List Entry) (P : ℕ → File → Type 0) → ((n : ℕ) (f : File) → IsProp (P n f)) → IsProp (EachFile es P)
each_is_prop es P h = Π_prop (λ n. Π_prop (λ f. Π_prop (λ e. h n f)))

pub sound_is_prop : (c : Contents) → IsProp (Sound c)
sound_is_prop c a b = λ i. record {
  capacity_bound = le_prop a.capacity_bound b.capacity_bound i;
  limit_bound = le_prop a.limit_bound b.limit_bound i;
  total_fits = le_prop a.total_fits b.total_fits i;
  count_fits = le_prop a.count_fits b.count_fits i;
  ascending = ascending_is_prop 0 c.files a.ascending b.ascending i;
  numbers = each_is_prop c.files _ (λ n f. le_prop) a.numbers b.numbers i;
  lengths = each_is_prop c.files _ (λ n f. le_prop) a.lengths b.lengths i;
  folders_empty = each_is_prop c.files _ (λ n f. Π_prop (λ e. ℕ_set (length f.bytes) 0)) a.folders_empty b.folders_empty i;
  parents = each_is_prop c.files _ (λ n f. Bool-set (is_parent f.parent c.files) true) a.parents b.parents i;
  parents_below = each_is_prop c.files _ (λ n f. le_prop) a.parents_below b.parents_below i;
}

-- a truncated proof of soundness is one
pub sound_from : (c : Contents) → ∥ Sound c ∥₁ → Sound c
sound_from c t = ∥∥₁_rec (sound_is_prop c) (λ s. s) t
