use Rattle.std.proofs.Common.{refl, arith}
use Rattle.store.specs.Contents.{bytes_of, lookup}
use Rattle.compare.proofs.Chunks.{whole}
use Rattle.compare.proofs.bytes.same_bytes.Goals as goal

pub returns-else-not-same_chunk : goal.returns-else-not-same_chunk
returns-else-not-same_chunk g c = (
  (λ _. whole 64 c.loop-at.at c.args.size
      (bytes_of (lookup c.args.number (g.A.ReadStore.contents c.args.a.now).files)) (bytes_of (lookup c.args.number (g.B.ReadStore.contents c.args.b.now).files))
      c.requires.0 c.requires.1 (omega arith) c.loop-at.invariant (c.same_chunk.ensures.0 c.if-not-same_chunk.false)),
  (λ _. refl),
)
