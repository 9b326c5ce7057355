-- Reading the units of a name from bytes.
use Rattle.std.proofs.Common.{◌≡◌, ℕ, suc, ◌+◌, ◌*◌, ◌/◌, ◌%◌, ◌<◌, true, ltb, leb, List, [], ◌∷◌, ◌++◌, length, take, drop, set, Some, None, Option, sym, refl, ap, ◌∙◌, arith}
use Rattle.object.specs.declared.name.Name.{Name}
use Rattle.std.proofs.lemmas.List.{append_assoc, length-set, length-drop, take_more_set}
use Rattle.std.specs.List.{AllByRecursion}
use Rattle.std.proofs.lemmas.Bool.{and_parts, ltb-true, leb-true}
use Rattle.byte_parts.specs.Numbers.{Bytes, le, value, cut_number}
use Rattle.byte_parts.proofs.LittleEndian.{le_value}
use Rattle.byte_parts.proofs.Cutting.{none_some, some_same, through}
use Rattle.std.specs.List.{list_all}
use Rattle.object.specs.Legal.{legal_unit, legal_name}
use Rattle.object.specs.Names.{units_of, unit_bytes, named, units_in, with_units, named_some, name_in}
use Rattle.object.proofs.Making.{refused, accepted, not_long}
use Rattle.object.proofs.Stored.{Made, legal, illegal, made, units_legal}

-- the first i cells hold units that were read, and what is left holds the others
pub record Sofar (bytes cs : List ℕ) (i : ℕ) (rest : List ℕ) : Type 0 where
  pub joins : with_units (take i cs) (units_in rest) ≡ units_in bytes
  pub left : 2 * i + length rest ≡ length bytes
  pub cells : length cs ≡ length bytes / 2

-- a unit that is cut off the front is the first of the units
units_cut : (bs after : List ℕ) (u : ℕ) → Some (u, after) ≡ cut_number 2 bs → units_in bs ≡ with_units (u ∷ []) (units_in after)
units_cut [] after u e = absurd (none_some (sym e))
units_cut (a ∷ []) after u e = absurd (none_some (sym e))
units_cut (a ∷ b ∷ bs) after u e =
    let p = (through _ (a + 256 * (b + 256 * 0), bs) (u, after) (sym e)).1 in
    let w : a + 256 * b ≡ u = omega (arith, ap (λ q. q.0) p) in
    λ i. with_units (w i ∷ []) (units_in (p i).1)

with_units_twice : (us vs : List ℕ) (o : Option (List ℕ)) → with_units us (with_units vs o) ≡ with_units (us ++ vs) o
with_units_twice us vs None = refl
with_units_twice us vs (Some ws) = ap Some (sym (append_assoc us vs ws))

module _ (bytes cs : List ℕ) (i : ℕ) (rest : List ℕ) (s : Sofar bytes cs i rest) where
  pub sofar_more : (after : List ℕ) (u : ℕ) → Some (u, after) ≡ cut_number 2 rest → i < length cs → Sofar bytes (set cs i u) (i + 1) after
  sofar_more after u e h =
      let through' = (through _ (value (take 2 rest), drop 2 rest) (u, after) (sym e)) in
      let long = leb-true 2 (length rest) through'.0 in
      let behind = ap (λ q. length q.1) through'.1 in
      let dropped = length-drop 2 rest in
      let left = s.left in
      record {
        joins =
            ap (λ l. with_units l (units_in after)) (take_more_set cs i u h)
            ∙ sym (with_units_twice (take i cs) (u ∷ []) (units_in after))
            ∙ ap (with_units (take i cs)) (sym (units_cut rest after u e))
            ∙ s.joins;
        left = omega arith;
        cells = length-set cs i u ∙ s.cells;
      }

units_count : (bs us : List ℕ) → units_in bs ≡ Some us → 2 * length us ≡ length bs
units_count [] us e = let n : 0 ≡ length us = ap length (some_same e) in omega arith
units_count (a ∷ []) us e = absurd (none_some e)
units_count (a ∷ b ∷ bs) us e = by (λ vs q. units_count bs vs q) (units_in bs) refl e
  where
    by : ((vs : List ℕ) → units_in bs ≡ Some vs → 2 * length vs ≡ length bs) → (o : Option (List ℕ)) → units_in bs ≡ o → with_units ((a + 256 * b) ∷ []) o ≡ Some us → 2 * length us ≡ length (a ∷ b ∷ bs)
    by rest None q e = absurd (none_some e)
    by rest (Some vs) q e =
        let n : suc (length vs) ≡ length us = ap length (some_same e) in
        let m = rest vs q in
        omega arith

-- 64 units are too many
pub too_long : (bytes : List ℕ) → 63 < length bytes / 2 → None ≡ name_in bytes
too_long bytes h = by (units_in bytes) refl
  where
    by : (o : Option (List ℕ)) → units_in bytes ≡ o → None ≡ name_in bytes
    by None q = ap named_some (sym q)
    by (Some us) q =
        let n = units_count bytes us q in
        (refused us (not_long us (omega arith))).value ∙ ap named_some (sym q)

-- legal units fit 16 bits
all_fit : (us : List ℕ) → list_all legal_unit us ≡ true → AllByRecursion (λ u. u < 65536) us
all_fit [] e = tt
all_fit (u ∷ us) e =
    let p = and_parts (legal_unit u) (list_all legal_unit us) e in
    let q = and_parts (leb 0x0020 u) _ p.0 in
    (ltb-true u 65536 (and_parts (ltb u 65536) _ q.1).0, all_fit us p.1)

legal_fit : (us : List ℕ) → legal_name us ≡ true → AllByRecursion (λ u. u < 65536) us
unfolding legal_name
legal_fit us e =
    all_fit us (and_parts (leb (length us) 63) (list_all legal_unit us) (and_parts (leb 1 (length us)) _ e).1).1

units_bytes : (us : List ℕ) → AllByRecursion (λ u. u < 65536) us → units_in (unit_bytes us) ≡ Some us
units_bytes [] h = refl
units_bytes (u ∷ us) h =
    let w : u % 256 + 256 * (u / 256 % 256) ≡ u = omega (arith, h.0) in
    λ i. with_units (w i ∷ []) (units_bytes us h.1 i)

bytes_units : (bs us : List ℕ) → Bytes bs → units_in bs ≡ Some us → bs ≡ unit_bytes us
bytes_units [] us h e = ap unit_bytes (some_same e)
bytes_units (a ∷ []) us h e = absurd (none_some e)
bytes_units (a ∷ b ∷ bs) us h e = by (λ vs q. bytes_units bs vs h.1.1 q) (units_in bs) refl e
  where
    by : ((vs : List ℕ) → units_in bs ≡ Some vs → bs ≡ unit_bytes vs) → (o : Option (List ℕ)) → units_in bs ≡ o → with_units ((a + 256 * b) ∷ []) o ≡ Some us → a ∷ b ∷ bs ≡ unit_bytes us
    by rest None q e = absurd (none_some e)
    by rest (Some vs) q e =
        let unit : a + 256 * (b + 256 * 0) ≡ a + 256 * b = omega arith in
        let two : le 2 (a + 256 * b) ≡ a ∷ b ∷ [] = ap (le 2) (sym unit) ∙ le_value (a ∷ b ∷ []) (h.0, (h.1.0, tt)) in
        (λ i. sym two i ++ rest vs q i) ∙ ap unit_bytes (some_same e)

pub length_unit_bytes : (us : List ℕ) → length (unit_bytes us) ≡ 2 * length us
length_unit_bytes [] = refl
length_unit_bytes (u ∷ us) = omega (arith, length_unit_bytes us)

-- a name's bytes are read back as the name
pub name_bytes : (n : Name) → name_in (unit_bytes (units_of n)) ≡ Some n
name_bytes n =
    ap named_some (units_bytes (units_of n) (legal_fit (units_of n) (units_legal n))) ∙ sym (accepted (units_of n) n refl).value

-- and no other bytes are
pub bytes_name : (bs : List ℕ) (n : Name) → Bytes bs → name_in bs ≡ Some n → bs ≡ unit_bytes (units_of n)
bytes_name bs n h e = by (units_in bs) refl e
  where
    made_units : (us : List ℕ) (o : Option Name) → Made us o → o ≡ Some n → us ≡ units_of n
    made_units us (Some _) (legal m k _) q = sym k ∙ ap units_of (some_same q)
    made_units us None (illegal f) q = absurd (none_some q)

    by : (o : Option (List ℕ)) → units_in bs ≡ o → named_some o ≡ Some n → bs ≡ unit_bytes (units_of n)
    by None q e = absurd (none_some e)
    by (Some us) q e = bytes_units bs us h q ∙ ap unit_bytes (made_units us (named us) (made us) e)
