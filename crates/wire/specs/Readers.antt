-- Readers of what the responder only writes, so that each encoding is seen to determine its record.
use Rattle.std.specs.Prelude.{ℕ, zero, suc, ◌+◌, ◌-◌, ◌*◌, ◌/◌, ◌%◌, cond, ◌&&◌, List, [], ◌∷◌, length, take, drop, Some, None, Option, ◌==◌, nat_le}
use Rattle.byte_parts.specs.Numbers.{value}
use Rattle.wire.specs.Containers.{number_at, is_container, response_type}

-- n numbers of k bytes from the front; missing bytes count as 0
abbrev pub number_list : ℕ → ℕ → List ℕ → List ℕ
number_list k zero bs = []
number_list k (suc n) bs = value (take k bs) ∷ number_list k n (drop k bs)

-- what a response says
pub record Response : Type 0 where
  pub code : ℕ
  pub transaction : ℕ
  pub parameters : List ℕ

-- one response container, with at most five parameters of 4 bytes
unfoldable pub response_in : List ℕ → Option Response
response_in bs =
    cond (is_container response_type bs && (nat_le (length bs) 32 && length bs % 4 == 0))
    (Some (record {
      code = number_at 2 6 bs;
      transaction = number_at 4 8 bs;
      parameters = number_list 4 ((length bs - 12) / 4) (drop 12 bs);
    }))
    None

-- an array of numbers of k bytes and nothing behind it
unfoldable pub array_in : ℕ → List ℕ → Option (List ℕ)
array_in k bs = cond (nat_le 4 (length bs) && length bs == 4 + k * number_at 4 0 bs) (Some (number_list k (number_at 4 0 bs) (drop 4 bs))) None
