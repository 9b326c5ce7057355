-- What the cells of a name hold, and that a name is its units.
use Rattle.std.proofs.Common.{◌≡◌, ℕ, zero, suc, ◌-◌, ◌≤◌, Bool, true, false, ◌&&◌, eqb, leb, List, [], ◌∷◌, ◌++◌, length, take, drop, replicate, Some, None, Option, sym, refl, ap, ◌∙◌, subst, ⊎_elim, arith, length-drop}
use Rattle.std.proofs.lemmas.List.{take-append-drop, take_at, drop_at, length-take-le, length-append, length-replicate}
use Rattle.std.proofs.lemmas.Bool.{leb-true, eqb-true, and_parts, and_from, eq-eqb, le-leb, both_ways, cases_Bool}
use Rattle.std.proofs.lemmas.Bool.Decides.{Decides-eqb, Decides-like, Decides-and}
use Rattle.std.proofs.lemmas.Slice.Eq.{slice_eq-Decides}
use Rattle.std.specs.Cmp.Lexicographic.{pointwise}
use Rattle.std.specs.Bool.{Decides}
use Rattle.object.specs.declared.name.Name.{Name}
use Rattle.object.specs.contracts.name.Name.{the_type}
use Rattle.std.specs.List.{list_all}
use Rattle.object.specs.Legal.{legal_unit, legal_name, stored_name}
use Rattle.object.specs.Names.{units_of, cells, named_if, named}

zeros : (xs : List ℕ) → list_all (λ u. eqb u 0) xs ≡ true → xs ≡ replicate (length xs) 0
zeros [] e = refl
zeros (x ∷ xs) e =
    let p = and_parts (eqb x 0) (list_all (λ u. eqb u 0) xs) e in
    let h = eqb-true x 0 p.0 in
    let r = zeros xs p.1 in
    λ i. h i ∷ r i

all_zeros : (n : ℕ) → list_all (λ u. eqb u 0) (replicate n 0) ≡ true
all_zeros zero = refl
all_zeros (suc n) = all_zeros n

pub record Stored (len : ℕ) (cs : List ℕ) : Type 0 where
  pub whole : length cs ≡ 63
  pub short : len ≤ 63
  pub legal : legal_name (take len cs) ≡ true
  pub spare : drop len cs ≡ replicate (63 - len) 0

pub stored_parts : (len : ℕ) (cs : List ℕ) → stored_name len cs ≡ true → Stored len cs
unfolding stored_name
stored_parts len cs e =
    let a = and_parts (eqb (length cs) 63) (leb len 63 && (legal_name (take len cs) && list_all (λ u. eqb u 0) (drop len cs))) e in
    let b = and_parts (leb len 63) (legal_name (take len cs) && list_all (λ u. eqb u 0) (drop len cs)) a.1 in
    let c = and_parts (legal_name (take len cs)) (list_all (λ u. eqb u 0) (drop len cs)) b.1 in
    let w = eqb-true (length cs) 63 a.0 in
    let l = length-drop len cs in
    record {
      whole = w;
      short = leb-true len 63 b.0;
      legal = c.0;
      spare = zeros (drop len cs) c.1 ∙ ap (λ n. replicate n 0) (omega arith);
    }

pub stored_from : (len : ℕ) (cs : List ℕ) → Stored len cs → stored_name len cs ≡ true
unfolding stored_name
stored_from len cs s =
    and_from _ _ (eq-eqb (length cs) 63 s.whole)
    (and_from _ _ (le-leb len 63 s.short) (and_from _ _ s.legal (ap (list_all (λ u. eqb u 0)) s.spare ∙ all_zeros (63 - len))))

legal_short : (us : List ℕ) → legal_name us ≡ true → length us ≤ 63
unfolding legal_name
legal_short us e =
    leb-true (length us) 63 (and_parts (leb (length us) 63) (list_all legal_unit us) (and_parts (leb 1 (length us)) (leb (length us) 63 && list_all legal_unit us) e).1).0

legal_long : (us : List ℕ) → legal_name us ≡ true → 1 ≤ length us
unfolding legal_name
legal_long us e = leb-true 1 (length us) (and_parts (leb 1 (length us)) (leb (length us) 63 && list_all legal_unit us) e).0

-- the cells of legal units hold a name
pub stored_cells : (us : List ℕ) → legal_name us ≡ true → Stored (length us) (cells us)
stored_cells us e =
    let s = legal_short us e in
    let l = length-append us (replicate (63 - length us) 0) in
    let z = length-replicate {A = ℕ} (63 - length us) 0 in
    record {
      whole = omega arith;
      short = s;
      legal = subst (λ vs. legal_name vs ≡ true) (sym (take_at us (replicate (63 - length us) 0) (length us) refl)) e;
      spare = drop_at us (replicate (63 - length us) 0) (length us) refl;
    }

-- a name's own units
module _ (n : Name) where
  pub stored : Stored n.len n.units
  stored = stored_parts n.len n.units n.legal

  pub length_units : length (units_of n) ≡ n.len
  length_units = length-take-le n.len n.units (omega (arith, stored.whole, stored.short))

  pub units_legal : legal_name (units_of n) ≡ true
  units_legal = stored.legal

  pub units_long : 1 ≤ length (units_of n)
  units_long = legal_long (units_of n) units_legal

  pub units_short : length (units_of n) ≤ 63
  units_short = legal_short (units_of n) units_legal

  pub units_cells : n.units ≡ cells (units_of n)
  units_cells =
      sym (take-append-drop n.len n.units)
      ∙ (λ i. units_of n ++ (stored.spare ∙ ap (λ k. replicate (63 - k) 0) (sym length_units)) i)

-- two names with the same units are one name
pub same_name : (n m : Name) → units_of n ≡ units_of m → n ≡ m
same_name n m e =
    let len : n.len ≡ m.len = sym (length_units n) ∙ ap length e ∙ length_units m in
    let us : n.units ≡ m.units = units_cells n ∙ ap cells e ∙ sym (units_cells m) in
    the_type.to_one n m (λ i. (us i, (len i, tt)))

-- equal cells and an equal count are an equal name, and the other way round
pub name_decides : (n m : Name) (r : Bool) → r ≡ (pointwise eqb n.units m.units && eqb n.len m.len) → Decides r (n ≡ m)
name_decides n m r e =
    subst (λ t. Decides t (n ≡ m)) (sym e)
    (Decides-like _ (λ q. the_type.to_one n m (λ i. (q.0 i, (q.1 i, tt)))) (λ q. (ap (λ k. k.units) q, ap (λ k. k.len) q))
    (Decides-and _ _ (slice_eq-Decides Decides-eqb n.units m.units _ refl) (Decides-eqb n.len m.len)))

-- what units make: a name if they are legal, and else none
pub data Made (us : List ℕ) : Option Name → Type 0 where
  legal : (n : Name) → units_of n ≡ us → legal_name us ≡ true → Made us (Some n)
  illegal : legal_name us ≡ false → Made us None

pub made : (us : List ℕ) → Made us (named us)
unfolding named
made us = by (stored_name (length us) (cells us)) refl
  where
    by : (t : Bool) (q : stored_name (length us) (cells us) ≡ t) → Made us (named_if us t q)
    by true q =
        let s = stored_parts (length us) (cells us) q in
        let e = take_at us (replicate (63 - length us) 0) (length us) refl in
        legal (record { units = cells us; len = length us; legal = q }) e (subst (λ vs. legal_name vs ≡ true) e s.legal)
    by false q = illegal (⊎_elim (λ h. absurd (both_ways _ q (stored_from (length us) (cells us) (stored_cells us h)))) (λ h. h) (cases_Bool (legal_name us)))
