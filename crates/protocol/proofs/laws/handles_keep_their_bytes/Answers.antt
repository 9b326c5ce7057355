use Rattle.protocol.proofs.Keeping.{handles_keep_bytes}
use Rattle.protocol.proofs.laws.handles_keep_their_bytes.Goals as goal

pub returns : goal.returns
returns c = handles_keep_bytes
