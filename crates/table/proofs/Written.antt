-- A memory of bytes after some are written, and the files in it.
use Rattle.std.proofs.Common.{◌≡◌, ℕ, ◌+◌, ◌<◌, ◌≤◌, List, length, get_or, take, drop, ap, ⊎_elim, arith, rules}
use Rattle.std.specs.List.{All}
use Rattle.std.proofs.lemmas.Bool.{cases_lt}
use Rattle.std.proofs.lemmas.List.{places, same_lists}
use Rattle.table.specs.declared.place.Place.{Place}
use Rattle.table.specs.Areas.{written}
use Rattle.table.specs.Tables.{files_in, end_of}
use Rattle.table.proofs.RowFiles.{files_same}

module _ (bs new : List ℕ) (t : ℕ) (room : t + length new ≤ length bs) where
  pub length_written : length (written bs t new) ≡ length bs
  length_written = search (rules, places)

  -- what is written is there
  pub part_here : take (length new) (drop t (written bs t new)) ≡ new
  part_here = same_lists _ _ (search (rules, places)) (λ k d h. grind (arith, places))

  part_before : (s l : ℕ) → s + l ≤ t → take l (drop s (written bs t new)) ≡ take l (drop s bs)
  part_before s l h = same_lists _ _ (search (rules, places)) (λ k d b. grind (arith, places))

  part_behind : (s : ℕ) → t + length new ≤ s → drop s (written bs t new) ≡ drop s bs
  part_behind s h = same_lists _ _ (search (rules, places)) (λ k d b. grind (arith, places))

  -- the files of rows whose bytes lie clear of what is written are the same
  pub files_written : (ps : List Place) → All (λ p. p.start < t + length new → end_of p ≤ t) ps → files_in (written bs t new) ps ≡ files_in bs ps
  files_written ps clear =
      files_same bs (written bs t new) ps
      (λ k d h.
      let p : Place = get_or ps k d in
      ⊎_elim
      (λ (a : p.start < t + length new). part_before p.start p.file.length (clear k d h a))
      (λ (a : t + length new ≤ p.start). ap (take p.file.length) (part_behind p.start a))
      (cases_lt p.start (t + length new)))
