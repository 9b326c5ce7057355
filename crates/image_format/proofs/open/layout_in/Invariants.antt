use Rattle.image_format.proofs.Opening.{Sofar}
use Rattle.image_format.proofs.open.layout_in.Given as goal

abbrev pub invariant-loop-count : goal.invariant-loop-count
invariant-loop-count l = Sofar l.image l.rest l.count l.last l.total
