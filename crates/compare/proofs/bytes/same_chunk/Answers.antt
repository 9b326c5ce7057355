use Rattle.std.proofs.Common.{replicate}
use Rattle.std.proofs.lemmas.Bool.Decides.{Decides-eqb}
use Rattle.std.proofs.lemmas.Slice.Eq.{slice_eq-Decides}
use Rattle.byte_parts.specs.Parts.{fitting}
use Rattle.store.specs.Contents.{rest_of}
use Rattle.compare.proofs.Chunks.{chunk}
use Rattle.compare.proofs.bytes.same_chunk.Goals as goal

pub returns-then-copy : goal.returns-then-copy
returns-then-copy g c =
    chunk (fitting 64 (rest_of c.args.number c.args.at (g.A.ReadStore.contents c.args.a.now).files))
    (fitting 64 (rest_of c.args.number c.args.at (g.B.ReadStore.contents c.args.b.now).files))
    (replicate 64 0) c.copy.result c.copy-2.result (slice_eq-Decides Decides-eqb _ _ _ c.eq.ensures)
    c.copy.ensures.bytes c.copy-2.ensures.bytes c.copy.ensures.counts c.copy-2.ensures.counts c.if-copy.true
