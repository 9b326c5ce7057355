-- Responses as bytes: their reader, and that they determine the reply.
use Rattle.std.specs.Prelude.{◌≡◌, ℕ, zero, suc, ◌-◌, ◌/◌, ◌%◌, ◌^◌, ◌<◌, ◌≤◌, cond, ◌&&◌, List, [], ◌∷◌, length, drop, Some, None, Option, ◌==◌, nat_le}
use Rattle.std.specs.List.{AllByRecursion}
use Rattle.byte_parts.specs.Numbers.{Bytes}
use Rattle.wire.specs.Containers.{number_at, is_container, response_type, response}
use Rattle.protocol.specs.Storages.{Storages, SoundStorages}
use Rattle.protocol.specs.Machine.{Reply, Call, response_of, replies, fresh}
use Rattle.protocol.specs.Alike.{Real}

-- what a response container holds
pub record Response : Type 0 where
  pub code : ℕ
  pub transaction : ℕ
  pub parameters : List ℕ

abbrev pub held_in : Reply → Response
held_in r = record { code = r.code; transaction = r.transaction; parameters = r.parameters }

-- so many numbers of 4 bytes
abbrev pub numbers_in : ℕ → List ℕ → List ℕ
numbers_in zero bs = []
numbers_in (suc n) bs = number_at 4 0 bs ∷ numbers_in n (drop 4 bs)

-- the reader: one response container with at most five parameters
unfoldable pub response_in : List ℕ → Option Response
response_in bs =
    cond (is_container response_type bs && (nat_le (length bs) 32 && length bs % 4 == 0))
    (Some (record { code = number_at 2 6 bs; transaction = number_at 4 8 bs; parameters = numbers_in ((length bs - 12) / 4) (drop 12 bs) }))
    None

-- the numbers of a reply fit their fields
pub record ReplyFits (r : Reply) : Type 0 where
  pub code_fits : r.code < 2 ^ 16
  pub transaction_fits : r.transaction < 2 ^ 32
  pub at_most_five : length r.parameters ≤ 5
  pub parameters_fit : AllByRecursion (λ n. n < 2 ^ 32) r.parameters

pub record ResponsesTellReplies : Type 0 where
  -- a response is read back
  pub read : (r : Reply) → ReplyFits r → response_in (response_of r) ≡ Some (held_in r)
  -- and nothing else is taken for a response
  pub pinned : (bs : List ℕ) (x : Response) → Bytes bs → response_in bs ≡ Some x → bs ≡ response x.code x.transaction x.parameters
  -- every reply to calls that a host can make fits
  pub fit : (p : Storages) → SoundStorages p → (calls : List Call) → Real calls → AllByRecursion ReplyFits (replies (fresh p) calls)
  -- so replies with the same bytes are the same
  pub same : (r q : Reply) → ReplyFits r → ReplyFits q → response_of r ≡ response_of q → r.sent ≡ q.sent → r ≡ q
