-- What the reader of a data container hands on.
use Rattle.std.specs.Prelude.{ℕ, List, Some, None, Ok, Err, Option, Result}
use Rattle.wire.specs.declared.container.Payload.{Payload}
use Rattle.wire.specs.declared.fault.DatasetFault.{DatasetFault}

-- the payload with its place
abbrev pub behind_head : Option (List ℕ) → Option (List ℕ × ℕ)
behind_head None = None
behind_head (Some payload) = Some (payload, 12)

-- what the reader's answer holds
abbrev pub seen_payload : Result Payload DatasetFault → Result (List ℕ × ℕ) DatasetFault
seen_payload (Ok p) = Ok (p.bytes.now, p.place)
seen_payload (Err e) = Err e
