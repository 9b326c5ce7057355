-- Reading the units of a string one by one.
use Rattle.std.proofs.Common.{◌≡◌, ℕ, suc, ◌+◌, ◌-◌, ◌*◌, ◌<◌, ◌≤◌, List, [], ◌∷◌, ◌++◌, length, take, Some, None, Option, sym, refl, ap, ◌∙◌, append_assoc, arith}
use Rattle.std.specs.Option.{option_map}
use Rattle.std.proofs.lemmas.List.{length-append, take_at}
use Rattle.std.proofs.lemmas.Bool.{eq-eqb, ne_eqb, cond-true, cond-false, le-leb}
use Rattle.byte_parts.specs.Numbers.{cut_number}
use Rattle.byte_parts.proofs.Cutting.{none_some, some_same, through}
use Rattle.object.specs.Names.{with_units, units_in}
use Rattle.wire.specs.Strings.{Read, with_unit, closed_units, string_in}
use Rattle.wire.specs.Texts.{read_parts}

-- us before the units of a reading that went well
abbrev with_all : List ℕ → Option Read → Option Read
with_all [] o = o
with_all (u ∷ us) o = with_unit u (with_all us o)

with_all_none : (us : List ℕ) → with_all us None ≡ None
with_all_none [] = refl
with_all_none (u ∷ us) = ap (with_unit u) (with_all_none us)

with_all_push : (us : List ℕ) (u : ℕ) (o : Option Read) → with_all (us ++ (u ∷ [])) o ≡ with_all us (with_unit u o)
with_all_push [] u o = refl
with_all_push (v ∷ us) u o = ap (with_unit v) (with_all_push us u o)

with_all_end : (us rest : List ℕ) → with_all us (Some (record { units = []; rest = rest })) ≡ Some (record { units = us; rest = rest })
with_all_end [] rest = refl
with_all_end (u ∷ us) rest = ap (with_unit u) (with_all_end us rest)

units_append : (xs ys us : List ℕ) → units_in xs ≡ Some us → units_in (xs ++ ys) ≡ with_units us (units_in ys)
units_append [] ys us e = by (units_in ys) ∙ ap (λ l. with_units l (units_in ys)) (some_same e)
  where
    by : (o : Option (List ℕ)) → o ≡ with_units [] o
    by None = refl
    by (Some vs) = refl
units_append (a ∷ []) ys us e = absurd (none_some e)
units_append (a ∷ b ∷ xs) ys us e = by (units_in xs) refl (λ vs q. units_append xs ys vs q)
  where
    twice : (u : ℕ) (vs : List ℕ) (o : Option (List ℕ)) → with_units (u ∷ []) (with_units vs o) ≡ with_units (u ∷ vs) o
    twice u vs None = refl
    twice u vs (Some ws) = refl

    by : (o : Option (List ℕ)) → units_in xs ≡ o → ((vs : List ℕ) → units_in xs ≡ Some vs → units_in (xs ++ ys) ≡ with_units vs (units_in ys)) → with_units ((a + 256 * b) ∷ []) (units_in (xs ++ ys)) ≡ with_units us (units_in ys)
    by None q r = absurd (none_some (ap (with_units ((a + 256 * b) ∷ [])) (sym q) ∙ e))
    by (Some vs) q r =
        ap (with_units ((a + 256 * b) ∷ [])) (r vs q) ∙ twice (a + 256 * b) vs (units_in ys)
        ∙ ap (λ l. with_units l (units_in ys)) (some_same (ap (with_units ((a + 256 * b) ∷ [])) (sym q) ∙ e))

-- two bytes at the front, and the unit that they are
record Front (bs after : List ℕ) (u : ℕ) : Type 0 where
  low : ℕ
  high : ℕ
  is : bs ≡ low ∷ high ∷ after
  unit : low + 256 * high ≡ u

front_of : (bs after : List ℕ) (u : ℕ) → Some (u, after) ≡ cut_number 2 bs → Front bs after u
front_of [] after u e = absurd (none_some (sym e))
front_of (a ∷ []) after u e = absurd (none_some (sym e))
front_of (a ∷ b ∷ bs) after u e =
    let p = (through _ (a + 256 * (b + 256 * 0), bs) (u, after) (sym e)).1 in
    record { low = a; high = b; is = λ i. a ∷ b ∷ (p i).1; unit = omega (arith, ap (λ q. q.0) p) }

no_front : (n : ℕ) (bs : List ℕ) → None ≡ cut_number 2 bs → closed_units n bs ≡ None
no_front n [] e = refl
no_front n (a ∷ []) e = refl
no_front n (a ∷ b ∷ bs) e = absurd (none_some (e ∙ cond-true _ _ _ (le-leb 2 (length (a ∷ b ∷ bs)) (omega arith))))

-- the first units are read, and `left` are left
pub record Sofar (bytes : List ℕ) (count : ℕ) (rest : List ℕ) (left : ℕ) : Type 0 where
  pub units : List ℕ
  pub front : List ℕ
  pub is : bytes ≡ front ++ rest
  pub long : length front + 2 * left ≡ 2 * count
  pub holds : units_in front ≡ Some units
  pub reads : closed_units count bytes ≡ with_all units (closed_units left rest)

pub sofar_none : (bytes : List ℕ) (count : ℕ) → Sofar bytes count bytes count
sofar_none bytes count = record { units = []; front = []; is = refl; long = omega arith; holds = refl; reads = refl }

module _ (bytes : List ℕ) (count : ℕ) (rest : List ℕ) (left : ℕ) (s : Sofar bytes count rest left) where
  -- bytes that end too early
  pub sofar_short : None ≡ cut_number 2 rest → None ≡ closed_units count bytes
  sofar_short e = sym (s.reads ∙ ap (with_all s.units) (no_front left rest e) ∙ with_all_none s.units)

  pub sofar_room : left ≡ 0 → 2 * count ≤ length bytes
  sofar_room h = let l = ap length s.is ∙ length-append s.front rest in omega (arith, s.long)

  module _ (u : ℕ) (after : List ℕ) (e : Some (u, after) ≡ cut_number 2 rest) where
    pub sofar_zero : 0 < left → u ≡ 0 → None ≡ closed_units count bytes
    sofar_zero h z =
        let f = front_of rest after u e in
        let n : left ≡ suc (left - 1) = omega arith in
        sym (s.reads ∙ ap (with_all s.units) ((λ i. closed_units (n i) (f.is i)) ∙ cond-true _ _ _ (eq-eqb _ 0 (f.unit ∙ z))) ∙ with_all_none s.units)

    pub sofar_more : 0 < left → (u ≡ 0 → ⊥) → Sofar bytes count after (left - 1)
    sofar_more h z =
        let f = front_of rest after u e in
        let n : left ≡ suc (left - 1) = omega arith in
        let two = f.low ∷ f.high ∷ [] in
        let l = length-append s.front two in
        record {
          units = s.units ++ (u ∷ []);
          front = s.front ++ two;
          is = s.is ∙ ap (λ l. s.front ++ l) f.is ∙ sym (append_assoc s.front two after);
          long = omega (arith, s.long);
          holds = units_append s.front two s.units s.holds ∙ ap (λ v. Some (s.units ++ (v ∷ []))) f.unit;
          reads =
              s.reads
              ∙ ap (with_all s.units) ((λ i. closed_units (n i) (f.is i)) ∙ cond-false _ _ _ (ne_eqb _ 0 (λ q. z (sym f.unit ∙ q))) ∙ ap (λ v. with_unit v (closed_units (left - 1) after)) f.unit)
              ∙ sym (with_all_push s.units u (closed_units (left - 1) after));
        }

    pub sofar_open : left ≡ 0 → (u ≡ 0 → ⊥) → None ≡ closed_units count bytes
    sofar_open h z =
        let f = front_of rest after u e in
        sym (s.reads ∙ ap (with_all s.units) ((λ i. closed_units (h i) (f.is i)) ∙ cond-false _ _ _ (ne_eqb _ 0 (λ q. z (sym f.unit ∙ q)))) ∙ with_all_none s.units)

    pub sofar_closed : left ≡ 0 → u ≡ 0 → Some (units_in (take (2 * count) bytes), after) ≡ option_map read_parts (closed_units count bytes)
    sofar_closed h z =
        let f = front_of rest after u e in
        (λ i. Some ((ap units_in (ap (take (2 * count)) s.is ∙ take_at s.front rest (2 * count) (omega (arith, s.long))) ∙ s.holds) i, after))
        ∙ ap (option_map read_parts) (sym (s.reads ∙ ap (with_all s.units) ((λ i. closed_units (h i) (f.is i)) ∙ cond-true _ _ _ (eq-eqb _ 0 (f.unit ∙ z))) ∙ with_all_end s.units after))

-- a count of two or more, and what it counts
pub string_counted : (bs rest : List ℕ) (count : ℕ) → Some (count, rest) ≡ cut_number 1 bs → 2 ≤ count → closed_units (count - 1) rest ≡ string_in bs
string_counted [] rest count e h = absurd (none_some (sym e))
string_counted (b ∷ bs) rest count e h =
    let p = (through _ (b + 256 * 0, bs) (count, rest) (sym e)).1 in
    let w : b ≡ suc (suc (count - 2)) = omega (arith, ap (λ q. q.0) p) in
    (λ i. closed_units ((let z : count - 1 ≡ suc (count - 2) = omega arith in z) i) (sym p i).1) ∙ (λ i. string_in (sym w i ∷ bs))
