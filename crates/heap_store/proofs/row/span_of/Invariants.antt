use Rattle.std.proofs.Common.{◌≡◌, ◌≤◌, take}
use Rattle.std.specs.List.{position_or_len}
use Rattle.heap_store.specs.Rows.{taken}
use Rattle.heap_store.proofs.Files.{has}
use Rattle.heap_store.proofs.row.span_of.Given as goal

abbrev pub invariant-loop-rank : goal.invariant-loop-rank
invariant-loop-rank l = record { start_is : l.start ≡ taken (take l.rank l.rows); none_before : l.rank ≤ position_or_len (has l.number) l.rows }
