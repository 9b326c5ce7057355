-- The fields of a command.
use Rattle.std.specs.Prelude.{ℕ, ◌-◌, slice_index}
use Rattle.wire.specs.declared.command.Command.{Command}

-- a command's parameters, counted from 1
abbrev pub parameter : ℕ → Command → ℕ
parameter i c = slice_index c.parameters (i - 1)
