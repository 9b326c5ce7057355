-- How the makers of names come to their answers.
use Rattle.std.proofs.Common.{◌≡◌, ℕ, ◌<◌, true, false, leb, List, ◌++◌, length, take, drop, replicate, is_some, IfSome, Some, None, Option, sym, refl, ap, ◌∙◌, subst}
use Rattle.object.specs.declared.name.Name.{Name}
use Rattle.object.specs.Legal.{legal_name, stored_name}
use Rattle.object.specs.Names.{units_of, cells, named}
use Rattle.object.proofs.Stored.{Made, legal, illegal, made, same_name, units_legal, stored_from, stored_cells}
use Rattle.std.proofs.lemmas.List.{drop-replicate, take_at}
use Rattle.std.proofs.lemmas.Bool.{and_left, and_right, lt-leb, both_ways}

-- the two clauses on legality follow from what the units make
pub record Answer (us : List ℕ) (r : Option Name) : Type 0 where
  pub value : r ≡ named us
  pub legal : is_some r ≡ legal_name us
  pub units : IfSome r (λ n. units_of n ≡ us)

pub refused : (us : List ℕ) → legal_name us ≡ false → Answer us None
refused us e = record { value = by (named us) (made us); legal = sym e; units = tt }
  where
    by : (o : Option Name) → Made us o → None ≡ o
    by (Some _) (legal n h t) = absurd (both_ways (legal_name us) e t)
    by None (illegal f) = refl

pub accepted : (us : List ℕ) (n : Name) → units_of n ≡ us → Answer us (Some n)
accepted us n h =
    let t : legal_name us ≡ true = subst (λ vs. legal_name vs ≡ true) h (units_legal n) in
    record { value = by t (named us) (made us); legal = sym t; units = h }
  where
    by : legal_name us ≡ true → (o : Option Name) → Made us o → Some n ≡ o
    by t (Some _) (legal m k _) = ap Some (same_name n m (h ∙ sym k))
    by t None (illegal f) = absurd (both_ways (legal_name us) f t)

pub not_long : (us : List ℕ) → 63 < length us → legal_name us ≡ false
unfolding legal_name
not_long us h = and_right (leb 1 (length us)) _ (and_left _ _ (lt-leb (length us) 63 h))

-- legal units over the front of 63 cells of 0 are a name
module _ (us copied : List ℕ) (e : copied ≡ us) (h : legal_name us ≡ true) where
  filled : copied ++ drop (length us) (replicate 63 0) ≡ cells us
  filled = λ i. e i ++ drop-replicate (length us) 63 0 i

  pub filled_stored : stored_name (length us) (copied ++ drop (length us) (replicate 63 0)) ≡ true
  filled_stored = subst (λ cs. stored_name (length us) cs ≡ true) (sym filled) (stored_from (length us) (cells us) (stored_cells us h))

  pub filled_units : take (length us) (copied ++ drop (length us) (replicate 63 0)) ≡ us
  filled_units = take_at copied _ (length us) (ap length e) ∙ e
