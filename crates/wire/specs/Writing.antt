-- Writing into a buffer.
use Rattle.std.specs.Prelude.{◌≡◌, ℕ, ◌+◌, ◌≤◌, cond, List, ◌++◌, length, take, drop, Ok, Err, Result, nat_le}
use Rattle.byte_parts.specs.Parts.{over}
use Rattle.wire.specs.declared.fault.DatasetFault.{DatasetFault}
use Rattle.wire.specs.declared.fault.DatasetFault.TheVariants.{BufferTooShort}

-- xs with bs over its part from a place on
abbrev pub put : ℕ → List ℕ → List ℕ → List ℕ
put place bs xs = take place xs ++ (bs ++ drop (place + length bs) xs)

-- bs were put over xs from a place on, which gave ys, and `next` is the place behind them
pub record Wrote (place : ℕ) (bs xs ys : List ℕ) (next : ℕ) : Type 0 where
  pub fits : place + length bs ≤ length xs
  pub behind : next ≡ place + length bs
  pub is : ys ≡ put place bs xs

-- bs at the front of a buffer that holds `room` bytes or more: the answer, and the buffer; else a refusal, and the buffer as it was
abbrev pub placed_in : ℕ → List ℕ → List ℕ → Result ℕ DatasetFault × List ℕ
placed_in room bs out = cond (nat_le room (length out)) (Ok (length bs), over bs out) (Err BufferTooShort, out)

-- bs at the front of a buffer that holds them, or a refusal that touches nothing
abbrev pub placed : List ℕ → List ℕ → Result ℕ DatasetFault × List ℕ
placed bs out = placed_in (length bs) bs out

-- bs at the front of a buffer that is known to hold them: how many, and the buffer
abbrev pub written : List ℕ → List ℕ → ℕ × List ℕ
written bs out = (length bs, over bs out)

-- bs at a place of a buffer: the place behind them, and the buffer; else a refusal, and the buffer as it was
abbrev pub placed_at : ℕ → List ℕ → List ℕ → Result ℕ DatasetFault × List ℕ
placed_at place bs out =
    cond (nat_le (place + length bs) (length out)) (Ok (place + length bs), put place bs out) (Err BufferTooShort, out)
