-- The rule on names. Only the makers of names open it.
use Rattle.std.specs.Prelude.{ℕ, Bool, not, ◌&&◌, List, length, take, drop, ◌==◌, nat_eq, nat_le, nat_lt}
use Rattle.std.specs.List.{list_all}

-- a unit that may stand in a name: no control character, and none of / : \
abbrev pub legal_unit : ℕ → Bool
legal_unit u = nat_le 0x0020 u && (nat_lt u 65536 && (not (u == 0x002F) && (not (u == 0x003A) && not (u == 0x005C))))

-- a legal name: 1 to 63 legal units
unfoldable pub legal_name : List ℕ → Bool
legal_name us = nat_le 1 (length us) && (nat_le (length us) 63 && list_all legal_unit us)

-- 63 cells hold a legal name in the first len, and 0 in the others
unfoldable pub stored_name : ℕ → List ℕ → Bool
stored_name len cells = length cells == 63 && (nat_le len 63 && (legal_name (take len cells) && list_all (λ u. nat_eq u 0) (drop len cells)))
