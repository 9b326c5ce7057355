-- The walk over an image, by the list of its files.
use Rattle.std.proofs.Common.{◌≡◌, ℕ, zero, suc, Bool, true, false, cond, ltb, List, Some, None, Option, refl}
use Rattle.std.specs.List.{find}
use Rattle.image_format.specs.Parsed.{bind}
use Rattle.image_format.specs.Walk.{Plain, cut_record, followed, records, sought}

pub sought_found : (k : ℕ) (bs : List ℕ) (n : ℕ) → sought k bs n ≡ find (λ p. ltb n p.head.number) (records k bs)
sought_found zero bs n = refl
sought_found (suc k) bs n = by (cut_record bs) (λ rest. sought_found k rest n)
  where
    by : (o : Option (Plain × List ℕ)) → ((rest : List ℕ) → sought k rest n ≡ find (λ p. ltb n p.head.number) (records k rest))
        → bind o (λ f. cond (ltb n f.0.head.number) (Some f.0) (sought k f.1 n)) ≡ find (λ p. ltb n p.head.number) (followed o (records k))
    by None more = refl
    by (Some f) more = go (ltb n f.0.head.number)
      where
        go : (t : Bool) → cond t (Some f.0) (sought k f.1 n) ≡ cond t (Some f.0) (find (λ p. ltb n p.head.number) (records k f.1))
        go true = refl
        go false = more f.1
