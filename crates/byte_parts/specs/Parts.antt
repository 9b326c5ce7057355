-- Parts of a list, and a list with some bytes over its front.
use Rattle.std.specs.Prelude.{◌≡◌, ℕ, ◌≤◌, cond, List, ◌++◌, length, take, drop, Some, None, Option, nat_le}

-- the first k elements and the rest, if there are as many
abbrev pub cut_part : ℕ → List ℕ → Option (List ℕ × List ℕ)
cut_part k xs = cond (nat_le k (length xs)) (Some (take k xs, drop k xs)) None

-- as much of the front of xs as fits into `room` places
abbrev pub fitting : ℕ → List ℕ → List ℕ
fitting room xs = take room xs

-- xs over the front of ys, whose rest stays
abbrev pub over : List ℕ → List ℕ → List ℕ
over xs ys = xs ++ drop (length xs) ys

-- as much of the front of xs as fits lies over the front of ys, which gave zs, and `count` is how much
pub record Copied (xs ys zs : List ℕ) (count : ℕ) : Type 0 where
  pub counts : count ≡ length (fitting (length ys) xs)
  pub bytes : zs ≡ over (fitting (length ys) xs) ys
  pub bound : count ≤ length ys
