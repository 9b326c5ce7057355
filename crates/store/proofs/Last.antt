-- The last number of a walk.
use Rattle.std.proofs.Common.{◌≡◌, ℕ, suc, ◌+◌, ◌≤◌, ◌⊎◌, List, [], ◌∷◌, Some, None, Option, MatchOption, unwrap_or, sym, refl, ◌∙◌, inl, inr, arith}
use Rattle.std.specs.Iterator.{YieldsFirst, Drains}
use Rattle.std.specs.List.{last_or}
use Rattle.std.proofs.lemmas.Iterator.{items_from_drains}
use Rattle.std.proofs.lemmas.Iterator.Consumers.{YieldsList-from_first}
use Rattle.std.proofs.lemmas.List.{map-id}
use Rattle.store.specs.Contents.{File, Entry, Contents, lookup}
use Rattle.store.specs.Sound.{Sound}
use Rattle.store.specs.Changes.{past_last}
use Rattle.store.specs.Walks.{numbers}
use Rattle.store.proofs.Told.{past_is}

-- what a walk to the end has given is what was left
drained : (left given : List ℕ) → Drains (YieldsFirst (λ (l : List ℕ). l)) left given → given ≡ left
drained left given (u, (t, steps, end)) =
    sym (map-id given) ∙ items_from_drains given (t, steps, λ _. (u, end)) (YieldsList-from_first (λ x. x) (λ l. l) left refl)

after : (m : ℕ) (es : List Entry) → (k : ℕ) × (last_or (Some m) (numbers es) ≡ Some k) × (past_last (suc m) es ≡ suc k)
after m [] = (m, refl, refl)
after m (e ∷ es) = after e.number es

last_number : (es : List Entry) → MatchOption (last_or None (numbers es)) (past_last 1 es ≡ 1) (λ k. past_last 1 es ≡ suc k)
last_number [] = refl
last_number (e ∷ es) = let (k, last, past) = after e.number es in rw last past

pub past_bound : (c : Contents) → Sound c → past_last 1 c.files ≤ 0x7FFFFFFF
past_bound c s = by (past_is c s).least
  where
    by : (past_last 1 c.files ≡ 1) ⊎ ((m : ℕ) × (f : File) × (past_last 1 c.files ≡ suc m) × (lookup m c.files ≡ Some f)) → past_last 1 c.files ≤ 0x7FFFFFFF
    by (inl e) = omega arith
    by (inr (m, f, e, l)) = let h = s.numbers m f l in omega arith

walked_to : (left given : List ℕ) (es : List Entry) (o : Option ℕ) → left ≡ numbers es → Drains (YieldsFirst (λ (l : List ℕ). l)) left given → o ≡ last_or None given
    → MatchOption o (past_last 1 es ≡ 1) (λ k. past_last 1 es ≡ suc k)
walked_to left given es o start drains is = rw (is, drained left given drains, start) (last_number es)

-- one more than what a walk over all numbers gave last, or than 0
pub past_walk : (left : List ℕ) (es : List Entry) (o : Option ℕ) → left ≡ numbers es
    → ((given : List ℕ) × Drains (YieldsFirst (λ (l : List ℕ). l)) left given × (o ≡ last_or None given)) → past_last 1 es ≡ unwrap_or o 0 + 1
past_walk left es o start (given, drains, is) = by o (walked_to left given es o start drains is)
  where
    by : (o : Option ℕ) → MatchOption o (past_last 1 es ≡ 1) (λ k. past_last 1 es ≡ suc k) → past_last 1 es ≡ unwrap_or o 0 + 1
    by None e = e
    by (Some k) e = omega arith
