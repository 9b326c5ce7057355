use Rattle.object.proofs.Reading.{Sofar}
use Rattle.object.proofs.name.Name.from_bytes.Given as goal

abbrev pub invariant-loop-cell : goal.invariant-loop-cell
invariant-loop-cell l = Sofar l.bytes l.cell-items l.cell-index l.rest
