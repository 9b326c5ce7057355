-- An ObjectInfo is read back as the record that it was written from.
use Rattle.std.proofs.Common.{◌≡◌, ℕ, suc, ◌+◌, ◌*◌, ◌/◌, ◌%◌, ◌^◌, ◌<◌, ◌≤◌, true, cond, eqb, ltb, leb, List, [], ◌∷◌, ◌++◌, length, Some, None, Option, refl, ap, ◌∙◌, append_assoc, arith}
use Rattle.std.proofs.lemmas.Bool.{and_parts, leb-true, ltb-true, le-leb, ne_eqb, cond-true, cond-false, both_ways}
use Rattle.byte_parts.specs.Numbers.{le, value}
use Rattle.byte_parts.proofs.LittleEndian.{value_le}
use Rattle.std.specs.List.{list_all}
use Rattle.object.specs.Legal.{legal_unit, legal_name}
use Rattle.object.specs.Names.{units_of, named, unit_bytes}
use Rattle.object.specs.Protections.{protection_number, protection_of}
use Rattle.object.specs.declared.name.Name.{Name}
use Rattle.object.specs.declared.protection.Protection.{Protection}
use Rattle.object.specs.declared.protection.Protection.TheVariants.{Unprotected, ReadOnly}
use Rattle.object.proofs.Stored.{Made, legal, illegal, made, same_name, units_legal}
use Rattle.wire.specs.Strings.{string, Read, with_unit, closed_units, string_in}
use Rattle.datasets.specs.declared.info.ObjectInfo.{ObjectInfo}
use Rattle.datasets.specs.ObjectInfos.{object_info, object_info_in, info_named, info_from}

-- numbers that fit their fields
pub record InfoFits (i : ObjectInfo) : Type 0 where
  pub storage_fits : i.storage < 2 ^ 32
  pub format_fits : i.format < 2 ^ 16
  pub size_fits : i.size < 2 ^ 32
  pub parent_fits : i.parent < 2 ^ 32

-- the units of a legal name make it again
pub named_units : (n : Name) → named (units_of n) ≡ Some n
named_units n = by (named (units_of n)) (made (units_of n))
  where
    by : (o : Option Name) → Made (units_of n) o → o ≡ Some n
    by (Some _) (legal m h t) = ap Some (same_name m n h)
    by None (illegal f) = absurd (both_ways (legal_name (units_of n)) f (units_legal n))

unit_limits : (u : ℕ) → legal_unit u ≡ true → (0 < u) × (u < 65536)
unit_limits u e =
    let h = and_parts (leb 0x0020 u) _ e in
    (omega (arith, leb-true 0x0020 u h.0), ltb-true u 65536 (and_parts (ltb u 65536) _ h.1).0)

unit_whole : (u : ℕ) → u < 65536 → u % 256 + 256 * ((u / 256) % 256) ≡ u
unit_whole u h = omega arith

step_unit : (u v : ℕ) (o : Option Read) → v ≡ u → (u ≡ 0 → ⊥) → cond (eqb v 0) None (with_unit v o) ≡ with_unit u o
step_unit u v o e n = ap (λ w. cond (eqb w 0) None (with_unit w o)) e ∙ cond-false (eqb u 0) _ _ (ne_eqb u 0 n)

units_back : (us rest : List ℕ) → list_all legal_unit us ≡ true → closed_units (length us) (unit_bytes us ++ (0 ∷ 0 ∷ rest)) ≡ Some (record { units = us; rest = rest })
units_back [] rest e = refl
units_back (u ∷ us) rest e =
    let h = and_parts (legal_unit u) (list_all legal_unit us) e in
    let l : (0 < u) × (u < 65536) = unit_limits u h.0 in
    step_unit u (u % 256 + 256 * ((u / 256) % 256)) (closed_units (length us) (unit_bytes us ++ (0 ∷ 0 ∷ rest))) (unit_whole u l.1) (λ z. omega (arith, l.0))
    ∙ ap (λ (o : Option Read). with_unit u o) (units_back us rest h.1)

-- a string of legal units is read back
string_back : (us rest : List ℕ) → list_all legal_unit us ≡ true → 1 ≤ length us → string_in (string us ++ rest) ≡ Some (record { units = us; rest = rest })
string_back [] rest e l = absurd (omega arith)
string_back (u ∷ us) rest e l =
    ap (λ (xs : List ℕ). closed_units (suc (length us)) xs) (append_assoc (unit_bytes (u ∷ us)) (0 ∷ 0 ∷ []) rest) ∙ units_back (u ∷ us) rest e

name_back : (n : Name) (rest : List ℕ) → string_in (string (units_of n) ++ rest) ≡ Some (record { units = units_of n; rest = rest })
unfolding legal_name
name_back n rest =
    let a = and_parts (leb 1 (length (units_of n))) _ (units_legal n) in
    let b = and_parts (leb (length (units_of n)) 63) _ a.1 in
    string_back (units_of n) rest b.1 (leb-true 1 (length (units_of n)) a.0)

protection_back : (q : Protection) → protection_of (value (le 2 (protection_number q))) ≡ Some q
protection_back Unprotected = refl
protection_back ReadOnly = refl

pub info_back : (i : ObjectInfo) → InfoFits i → object_info_in (object_info i) ≡ Some i
unfolding object_info object_info_in
info_back i f =
    cond-true (leb 52 (length (object_info i))) _ _ (le-leb 52 (length (object_info i)) (omega arith))
    ∙ (ap (λ (o : Option Read). info_named (object_info i) o) (name_back i.name (0 ∷ 0 ∷ 0 ∷ []))
    ∙ ((λ k. info_from (object_info i) (protection_back i.protection k) (named_units i.name k))
    ∙ λ k. Some (record {
      storage = value_le 4 i.storage f.storage_fits k;
      format = value_le 2 i.format f.format_fits k;
      protection = i.protection;
      size = value_le 4 i.size f.size_fits k;
      parent = value_le 4 i.parent f.parent_fits k;
      name = i.name;
    })))
