-- A memory of bytes after some are written, and after a gap is closed.
use Rattle.std.specs.Prelude.{ℕ, ◌+◌, ◌-◌, List, ◌++◌, length, take, drop}

-- the bytes with `new` over those from `at` on
abbrev pub written : List ℕ → ℕ → List ℕ → List ℕ
written bytes at new = take at bytes ++ (new ++ drop (at + length new) bytes)

-- the first `total` bytes without the `len` at `at`; what lies behind the new total stays
abbrev pub closed_up : List ℕ → ℕ → ℕ → ℕ → List ℕ
closed_up bytes at len total = take at bytes ++ (take (total - (at + len)) (drop (at + len) bytes) ++ drop (total - len) bytes)
