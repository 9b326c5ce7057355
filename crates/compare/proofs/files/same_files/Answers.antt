use Rattle.std.proofs.Common.{◌≡◌, refl, rules}
use Rattle.std.proofs.lemmas.Iterator.{cases_from_all}
use Rattle.std.proofs.lemmas.Iterator.Consumers.{YieldsList-from_first}
use Rattle.store.specs.Contents.{lookup}
use Rattle.compare.proofs.Walks.{walk_decides}
use Rattle.compare.proofs.files.same_files.Goals as goal

pub returns-then-count : goal.returns-then-count
returns-then-count g c =
    let xs = (g.A.ReadStore.contents c.args.a.now).files in
    let ys = (g.B.ReadStore.contents c.args.b.now).files in
    walk_decides xs ys (g.A.ReadStore.sound c.args.a.now).ascending (g.B.ReadStore.sound c.args.b.now).ascending (search rules) c.numbers_of.result c.numbers_of.ensures c.all.result
    (cases_from_all _ _ c.all.result (λ n. lookup n xs ≡ lookup n ys) (λ n. lookup n xs ≡ lookup n ys → ⊥) c.all.ensures.ran
    (YieldsList-from_first (λ x. x) (λ l. l) c.numbers_of.result refl)
    (λ x q k. search rules) (λ x q k. search rules))
