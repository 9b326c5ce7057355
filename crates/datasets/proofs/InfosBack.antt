-- What is written is read back: datasets.
use Rattle.std.proofs.Common.{◌≡◌, ℕ, Bool, true, false, ltb, leb, List, [], ◌∷◌, length, drop, Some, None, sym, refl, ap, ◌∙◌, arith}
use Rattle.std.specs.List.{AllByRecursion}
use Rattle.std.proofs.lemmas.Bool.{leb-true, ltb-true, le-leb, and_parts, cond-true}
use Rattle.byte_parts.specs.Numbers.{le, value}
use Rattle.byte_parts.proofs.LittleEndian.{value_le}
use Rattle.std.specs.List.{list_all}
use Rattle.object.specs.Legal.{legal_unit, legal_name}
use Rattle.object.specs.Names.{units_of}
use Rattle.object.specs.Protections.{protection_number, protection_of}
use Rattle.object.specs.declared.name.Name.{Name}
use Rattle.object.specs.declared.protection.Protection.{Protection}
use Rattle.object.specs.declared.protection.Protection.TheVariants.{Unprotected, ReadOnly}
use Rattle.object.proofs.Making.{accepted}
use Rattle.object.proofs.Stored.{units_legal}
use Rattle.wire.specs.Laws.{UnitFits}
use Rattle.wire.specs.Strings.{string_in}
use Rattle.wire.proofs.ReadBack.{string_back}
use Rattle.datasets.specs.Laws.{ObjectInfosReadBack, StorageInfosReadBack}
use Rattle.datasets.specs.ObjectInfos.{object_info, info_from, info_named, object_info_in}
use Rattle.datasets.specs.Readers.{storage_from, storage_info_in}
use Rattle.datasets.specs.StorageInfos.{storage_info}
use Rattle.datasets.specs.declared.info.StorageInfo.{StorageInfo}
use Rattle.datasets.specs.declared.info.StorageKind.{StorageKind}
use Rattle.datasets.specs.declared.info.StorageKind.TheVariants.{Programs, Handbook}
use Rattle.datasets.proofs.Lengths.{length_object_info}

-- legal units may stand in a string
units_fit : (us : List ℕ) → list_all legal_unit us ≡ true → AllByRecursion UnitFits us
units_fit [] h = tt
units_fit (u ∷ us) h =
    let p = and_parts (legal_unit u) (list_all legal_unit us) h in
    let a = and_parts (leb 0x0020 u) _ p.0 in
    let b = and_parts (ltb u 65536) _ a.1 in
    let low = leb-true 0x0020 u a.0 in
    ((omega arith, ltb-true u 65536 b.0), units_fit us p.1)

pub name_fits : (n : Name) → AllByRecursion UnitFits (units_of n)
unfolding legal_name
name_fits n =
    let a = and_parts (leb 1 (length (units_of n))) _ (units_legal n) in
    let b = and_parts (leb (length (units_of n)) 63) (list_all legal_unit (units_of n)) a.1 in
    units_fit (units_of n) b.1

protection_back : (p : Protection) → protection_of (value (le 2 (protection_number p))) ≡ Some p
protection_back Unprotected = refl
protection_back ReadOnly = refl

pub object_info_back : ObjectInfosReadBack
unfolding object_info object_info_in
object_info_back i f =
    let bs = object_info i in
    let l = length_object_info i in
    cond-true (leb 52 (length bs)) (info_named bs (string_in (drop 52 bs))) None (le-leb 52 (length bs) (omega arith))
    ∙ ap (info_named bs) (string_back (units_of i.name) (0 ∷ 0 ∷ 0 ∷ []) (name_fits i.name))
    ∙ (λ j. info_from bs (protection_back i.protection j) (sym (accepted (units_of i.name) i.name refl).value j))
    ∙ (λ j. Some (record {
      storage = value_le 4 i.storage f.storage j;
      format = value_le 2 i.format f.format j;
      protection = i.protection;
      size = value_le 4 i.size f.size j;
      parent = value_le 4 i.parent f.parent j;
      name = i.name;
    }))

pub storage_info_back : StorageInfosReadBack
unfolding storage_info storage_info_in
storage_info_back i f = by i.kind i.writable
  where
    j : StorageKind → Bool → StorageInfo
    j k w = record { kind = k; writable = w; capacity = i.capacity; free_bytes = i.free_bytes; free_objects = i.free_objects }

    back : (k : StorageKind) (w : Bool) → storage_from (storage_info (j k w)) (Some k) (Some w) ≡ Some (j k w)
    back k w = λ x. Some (record {
      kind = k;
      writable = w;
      capacity = value_le 8 i.capacity f.capacity x;
      free_bytes = value_le 8 i.free_bytes f.bytes x;
      free_objects = value_le 4 i.free_objects f.objects x;
    })

    by : (k : StorageKind) (w : Bool) → storage_info_in (storage_info (j k w)) ≡ Some (j k w)
    by Programs true = back Programs true
    by Programs false = back Programs false
    by Handbook true = back Handbook true
    by Handbook false = back Handbook false
