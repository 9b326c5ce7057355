use Rattle.table.proofs.Columns.{rising_from}
use Rattle.lent.proofs.memory.Memory.files.Goals as goal

pub invariant_of-result-clause-rising : goal.invariant_of-result-clause-rising
invariant_of-result-clause-rising c = rising_from _ _ 0 c.requires.sound.ascending
