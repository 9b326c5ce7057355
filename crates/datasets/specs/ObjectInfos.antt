-- The ObjectInfo dataset: 52 bytes of numbers, the name, and three strings.
use Rattle.std.specs.Prelude.{ℕ, zero, suc, Bool, true, false, cond, List, [], ◌∷◌, ◌++◌, length, drop, Some, None, Option, ◌==◌, nat_le}
use Rattle.byte_parts.specs.Numbers.{le}
use Rattle.object.specs.Names.{units_of, named}
use Rattle.object.specs.Protections.{protection_number, protection_of}
use Rattle.object.specs.declared.name.Name.{Name}
use Rattle.object.specs.declared.protection.Protection.{Protection}
use Rattle.wire.specs.Containers.{number_at}
use Rattle.wire.specs.Strings.{string, Read, string_in}
use Rattle.datasets.specs.declared.info.ObjectInfo.{ObjectInfo}

-- association type 1 is a generic folder; other objects have none
abbrev pub association_type : ℕ → ℕ
association_type format = cond (format == 0x3001) 1 0

-- a field that is not kept is 0
abbrev pub unkept : ℕ → List ℕ
unkept k = le k 0

-- storage, format, protection, size, thumb format, thumb size, thumb width, thumb height, image width, image height, image
-- depth, parent, association type, association description, sequence number
abbrev pub object_fields : ObjectInfo → List ℕ
object_fields i =
    le 4 i.storage ++ (le 2 i.format ++ (le 2 (protection_number i.protection) ++ (le 4 i.size ++ (unkept 2 ++ (unkept 4
    ++ (unkept 4 ++ (unkept 4 ++ (unkept 4 ++ (unkept 4 ++ (unkept 4 ++ (le 4 i.parent ++ (le 2 (association_type i.format)
    ++ (unkept 4 ++ unkept 4)))))))))))))

-- the fields, the name and three empty strings
unfoldable pub object_info : ObjectInfo → List ℕ
object_info i = object_fields i ++ (string (units_of i.name) ++ (string [] ++ (string [] ++ string [])))

-- a string was read, and what lies behind it passes the test
abbrev pub rest_is : (List ℕ → Bool) → Option Read → Bool
rest_is test None = false
rest_is test (Some r) = test r.rest

-- n strings and nothing behind them
abbrev pub are_strings : ℕ → List ℕ → Bool
are_strings zero [] = true
are_strings zero (b ∷ bs) = false
are_strings (suc n) bs = rest_is (λ rest. are_strings n rest) (string_in bs)

-- the protection in the dataset, if there is such a one
abbrev pub protection_at : List ℕ → Option Protection
protection_at bs = protection_of (number_at 2 6 bs)

-- the record, if protection and name are there
abbrev pub info_from : List ℕ → Option Protection → Option Name → Option ObjectInfo
info_from bs None name = None
info_from bs (Some p) None = None
info_from bs (Some p) (Some n) =
    Some (record { storage = number_at 4 0 bs; format = number_at 2 4 bs; protection = p; size = number_at 4 8 bs; parent = number_at 4 38 bs; name = n })

-- the record, if the first string was read and three more are there
abbrev pub info_named : List ℕ → Option Read → Option ObjectInfo
info_named bs None = None
info_named bs (Some r) = cond (are_strings 3 r.rest) (info_from bs (protection_at bs) (named r.units)) None

-- the reader: the fixed part, a legal name, three strings, and no byte beyond
unfoldable pub object_info_in : List ℕ → Option ObjectInfo
object_info_in bs = cond (nat_le 52 (length bs)) (info_named bs (string_in (drop 52 bs))) None
