-- How the reader of an ObjectInfo comes to its answer.
use Rattle.std.proofs.Common.{◌≡◌, ℕ, suc, ◌-◌, ◌<◌, Bool, true, false, cond, leb, List, length, take, drop, Some, None, Option, sym, refl, ap, ◌∙◌, arith}
use Rattle.std.specs.Option.{option_map}
use Rattle.std.proofs.lemmas.Bool.{cond-true, cond-false}
use Rattle.byte_parts.specs.Parts.{cut_part}
use Rattle.byte_parts.proofs.Cutting.{none_some, some_same, through}
use Rattle.object.specs.Names.{units_in, named_some, name_in}
use Rattle.object.specs.declared.name.Name.{Name}
use Rattle.object.specs.declared.protection.Protection.{Protection}
use Rattle.wire.specs.Containers.{number_at}
use Rattle.wire.specs.Strings.{Read, string_in}
use Rattle.wire.specs.Texts.{read_parts}
use Rattle.datasets.specs.ObjectInfos.{rest_is, are_strings, protection_at, info_from, info_named, object_info_in}

-- a string that was read
pub record Got (o : Option Read) (us : Option (List ℕ)) (rest : List ℕ) : Type 0 where
  pub read : Read
  pub is : o ≡ Some read
  pub units : us ≡ Some read.units
  pub behind : rest ≡ read.rest

pub got : (o : Option Read) (us : Option (List ℕ)) (rest : List ℕ) → Some (us, rest) ≡ option_map read_parts o → Got o us rest
got None us rest e = absurd (none_some (sym e))
got (Some r) us rest e =
    let p = some_same e in
    record { read = r; is = refl; units = ap (λ q. q.0) p; behind = ap (λ q. q.1) p }

pub got_none : (o : Option Read) → None ≡ option_map read_parts o → o ≡ None
got_none None e = refl
got_none (Some r) e = absurd (none_some e)

module _ (left : ℕ) (h : 0 < left) (bs : List ℕ) where
  pub strings_more : (us : Option (List ℕ)) (rest : List ℕ) → Some (us, rest) ≡ option_map read_parts (string_in bs) → are_strings (left - 1) rest ≡ are_strings left bs
  strings_more us rest e =
      let g = got (string_in bs) us rest e in
      let n : left ≡ suc (left - 1) = omega arith in
      ap (are_strings (left - 1)) g.behind ∙ sym (ap (rest_is (λ r. are_strings (left - 1) r)) g.is) ∙ sym (ap (λ m. are_strings m bs) n)

  pub strings_none : None ≡ option_map read_parts (string_in bs) → false ≡ are_strings left bs
  strings_none e =
      let n : left ≡ suc (left - 1) = omega arith in
      sym (ap (rest_is (λ r. are_strings (left - 1) r)) (got_none (string_in bs) e)) ∙ sym (ap (λ m. are_strings m bs) n)

-- the dataset's strings
pub behind_fixed : (bs front strings : List ℕ) → Some (front, strings) ≡ cut_part 52 bs → object_info_in bs ≡ info_named bs (string_in strings)
unfolding object_info_in
behind_fixed bs front strings e =
    let p = through (leb 52 (length bs)) (take 52 bs, drop 52 bs) (front, strings) (sym e) in
    cond-true _ _ _ p.0 ∙ ap (λ q. info_named bs (string_in q.1)) p.1

pub too_short : (bs : List ℕ) → None ≡ cut_part 52 bs → None ≡ object_info_in bs
unfolding object_info_in
too_short bs e = by (leb 52 (length bs)) e
  where
    by : (t : Bool) → ◌≡◌ {A = Option (List ℕ × List ℕ)} None (cond t (Some (take 52 bs, drop 52 bs)) None) → None ≡ cond t (info_named bs (string_in (drop 52 bs))) None
    by true q = absurd (none_some q)
    by false q = refl

module _ (bs front strings : List ℕ) (cut : Some (front, strings) ≡ cut_part 52 bs) where
  pub no_filename : None ≡ option_map read_parts (string_in strings) → None ≡ object_info_in bs
  no_filename e = sym (behind_fixed bs front strings cut ∙ ap (info_named bs) (got_none (string_in strings) e))

  module _ (units rest : List ℕ) (e : Some (units_in units, rest) ≡ option_map read_parts (string_in strings)) where
    whole : object_info_in bs ≡ cond (are_strings 3 rest) (info_from bs (protection_at bs) (name_in units)) None
    whole =
        let g = got (string_in strings) (units_in units) rest e in
        behind_fixed bs front strings cut ∙ ap (info_named bs) g.is
        ∙ (λ i. cond (are_strings 3 (sym g.behind i)) (info_from bs (protection_at bs) (ap named_some (sym g.units) i)) None)

    pub not_strings : are_strings 3 rest ≡ false → None ≡ object_info_in bs
    not_strings h = sym (whole ∙ cond-false _ _ _ h)

    module _ (h : are_strings 3 rest ≡ true) where
      pub no_protection : None ≡ protection_at bs → None ≡ object_info_in bs
      no_protection p = sym (whole ∙ cond-true _ _ _ h ∙ ap (λ o. info_from bs o (name_in units)) (sym p))

      pub accepted : (p : Protection) (o : Option Name) → Some p ≡ protection_at bs → o ≡ name_in units → object_info_in bs ≡ info_from bs (Some p) o
      accepted p o e f = whole ∙ cond-true _ _ _ h ∙ (λ i. info_from bs (sym e i) (sym f i))

      -- the record of all that was read
      pub all_read :
          {storage format size parent : ℕ} (p : Protection) (n : Name) → Some p ≡ protection_at bs → Some n ≡ name_in units → storage ≡ number_at 4 0 bs → format ≡ number_at 2 4 bs
          → size ≡ number_at 4 8 bs → parent ≡ number_at 4 38 bs
          → Some (record { storage = storage; format = format; protection = p; size = size; parent = parent; name = n }) ≡ object_info_in bs
      all_read p n e f a b x y = (λ i. Some (record { storage = a i; format = b i; protection = p; size = x i; parent = y i; name = n })) ∙ sym (accepted p (Some n) e f)
