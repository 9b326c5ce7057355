-- The parameters of a response.
use Rattle.std.specs.Prelude.{ℕ, cond, List, length, take, Some, None, Option, nat_le}
use Rattle.wire.specs.declared.response.Parameters.{Parameters}

-- those that count
abbrev pub listed : Parameters → List ℕ
listed p = take p.count p.values

-- these parameters, if a response has room for them
abbrev pub at_most_five : List ℕ → Option (List ℕ)
at_most_five ps = cond (nat_le (length ps) 5) (Some ps) None
