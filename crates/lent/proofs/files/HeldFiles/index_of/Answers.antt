use Rattle.lent.proofs.Answering.{indexed}
use Rattle.lent.proofs.files.HeldFiles.index_of.Goals as goal

pub returns : goal.returns
returns c = indexed _ _ _ c.find.ensures
