-- Slots that are given in their order.
use Rattle.std.proofs.Common.{◌≡◌, ℕ, ◌*◌, ◌<◌, List, length, get_or, arith}
use Rattle.std.proofs.lemmas.List.{get_or_default}
use Rattle.store.specs.Sound.{max_length}
use Rattle.slot.specs.Slots.{Whole, Inside, Distinct}

module _ (ss : List ℕ) (rows : ℕ) (all : length ss ≡ rows) (numbered : (k : ℕ) → k < rows → get_or ss k 0 ≡ k * max_length) where
  pub numbered_whole : Whole ss
  numbered_whole k d h = let a = numbered k (omega arith) in let b = get_or_default ss k d 0 h in omega arith

  pub numbered_inside : Inside ss (rows * max_length)
  numbered_inside k d h = let a = numbered k (omega arith) in let b = get_or_default ss k d 0 h in omega arith

  pub numbered_distinct : Distinct ss
  numbered_distinct j k d l h e =
      let a = numbered j (omega arith) in let b = get_or_default ss j d 0 (omega arith) in
      let x = numbered k (omega arith) in let y = get_or_default ss k d 0 h in
      omega arith
