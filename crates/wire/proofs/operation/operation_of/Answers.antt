use Rattle.std.proofs.Common.{◌==◌, ◌∙◌, rules, tests}
use Rattle.std.proofs.lemmas.Iterator.{YieldsList-from_slice}
use Rattle.std.proofs.lemmas.Iterator.Search.{find_from_yields_List}
use Rattle.wire.specs.Operations.{operation_number, operations, operation_of}
use Rattle.wire.proofs.operation.operation_of.Goals as goal

pub returns-clause-value : goal.returns-clause-value
unfolding operation_of
returns-clause-value c =
    c.copied.ensures
    ∙ find_from_yields_List (λ o. operation_number o.code == c.args.code) _ _ _ c.find.ensures.ran (YieldsList-from_slice operations cc) (λ x b q k. search (rules, tests))
