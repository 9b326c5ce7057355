-- The numbers of a table by index, and what the lists of files say of them.
use Rattle.std.proofs.Common.{◌≡◌, ℕ, zero, suc, ◌<◌, ◌≤◌, ltb, List, [], ◌∷◌, length, get_or, Some, None, refl, ap, ◌∙◌, arith}
use Rattle.std.proofs.lemmas.List.{get_or-map, length-map}
use Rattle.std.proofs.lemmas.Bool.{lt-ltb, le-ltb, cond-true, cond-false}
use Rattle.store.specs.Contents.{lookup, next_above}
use Rattle.store.specs.Sound.{Ascending}
use Rattle.store.proofs.Lookups.{lookup_here, lookup_past}
use Rattle.table.specs.declared.place.Place.{Place}
use Rattle.table.specs.Found.{Missing}
use Rattle.table.specs.Tables.{file_at, entry_at, files_in, numbers_in, Rising}

pub numbers_length : (ps : List Place) → length (numbers_in ps) ≡ length ps
numbers_length ps = length-map ps (λ (q : Place). q.number)

pub numbers_getD : (ps : List Place) (k : ℕ) (d : Place) → k < length ps → get_or (numbers_in ps) k 0 ≡ (get_or ps k d).number
numbers_getD ps k d h = get_or-map (λ (q : Place). q.number) ps k d 0 h

pub files_length : (bs : List ℕ) (ps : List Place) → length (files_in bs ps) ≡ length ps
files_length bs [] = refl
files_length bs (p ∷ ps) = ap suc (files_length bs ps)

-- each number is above the bound below the first
pub numbers_above : (bs : List ℕ) (ps : List Place) (low : ℕ) → Ascending low (files_in bs ps) → (k : ℕ) → k < length ps → low < get_or (numbers_in ps) k 0
numbers_above bs [] low a k h = absurd (omega arith)
numbers_above bs (p ∷ ps) low a zero h = a.0
numbers_above bs (p ∷ ps) low a (suc k) h =
    let r = numbers_above bs ps p.number a.1 k (omega arith) in omega (arith, a.0)

pub rising_from : (bs : List ℕ) (ps : List Place) (low : ℕ) → Ascending low (files_in bs ps) → Rising (numbers_in ps)
rising_from bs [] low a j k h l = absurd (omega arith)
rising_from bs (p ∷ ps) low a j zero h l = absurd (omega arith)
rising_from bs (p ∷ ps) low a zero (suc k) h l = numbers_above bs ps p.number a.1 k (omega (arith, numbers_length ps))
rising_from bs (p ∷ ps) low a (suc j) (suc k) h l = rising_from bs ps p.number a.1 j k (omega arith) (omega arith)

-- the file that a number finds is that of the row at its index
pub lookup_at : (bs : List ℕ) (ps : List Place) (low n i : ℕ) (d : Place) → Ascending low (files_in bs ps) → i < length ps → get_or (numbers_in ps) i 0 ≡ n
    → lookup n (files_in bs ps) ≡ Some (file_at bs (get_or ps i d))
lookup_at bs [] low n i d a h e = absurd (omega arith)
lookup_at bs (p ∷ ps) low n zero d a h e = lookup_here (entry_at bs p) (files_in bs ps) n e
lookup_at bs (p ∷ ps) low n (suc i) d a h e =
    let l = numbers_above bs ps p.number a.1 i (omega arith) in
    lookup_past (entry_at bs p) (files_in bs ps) n (λ q. omega arith) ∙ lookup_at bs ps p.number n i d a.1 (omega arith) e

pub lookup_missing : (bs : List ℕ) (ps : List Place) (n : ℕ) → Missing ps n → lookup n (files_in bs ps) ≡ None
lookup_missing bs [] n m = refl
lookup_missing bs (p ∷ ps) n m =
    lookup_past (entry_at bs p) (files_in bs ps) n (m 0 (omega arith)) ∙ lookup_missing bs ps n (λ k h. m (suc k) (omega arith))

-- the first number above n stands behind those that are at most n
pub next_at : (bs : List ℕ) (ps : List Place) (n r : ℕ) → r < length ps → ((k : ℕ) → k < r → get_or (numbers_in ps) k 0 ≤ n) → n < get_or (numbers_in ps) r 0
    → next_above n (files_in bs ps) ≡ Some (get_or (numbers_in ps) r 0)
next_at bs [] n r h b a = absurd (omega arith)
next_at bs (p ∷ ps) n zero h b a = cond-true (ltb n p.number) (Some p.number) (next_above n (files_in bs ps)) (lt-ltb n p.number a)
next_at bs (p ∷ ps) n (suc r) h b a =
    cond-false (ltb n p.number) (Some p.number) (next_above n (files_in bs ps)) (le-ltb n p.number (b 0 (omega arith)))
    ∙ next_at bs ps n r (omega arith) (λ k l. b (suc k) (omega arith)) a

pub next_none : (bs : List ℕ) (ps : List Place) (n : ℕ) → ((k : ℕ) → k < length ps → get_or (numbers_in ps) k 0 ≤ n) → next_above n (files_in bs ps) ≡ None
next_none bs [] n b = refl
next_none bs (p ∷ ps) n b =
    cond-false (ltb n p.number) (Some p.number) (next_above n (files_in bs ps)) (le-ltb n p.number (b 0 (omega arith)))
    ∙ next_none bs ps n (λ k l. b (suc k) (omega arith))
