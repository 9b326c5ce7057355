use Rattle.lent.proofs.Answering.{row_at}
use Rattle.lent.proofs.files.HeldFiles.row.Goals as goal

pub returns : goal.returns
returns c = row_at _ _ _ _ c.in_ok-index_of.ensures
