use Rattle.std.proofs.Common.{ℕ, List, Ok, ap, ◌∙◌, rules}
use Rattle.wire.specs.Containers.{number_at, command_in}
use Rattle.wire.proofs.Mapped.{mapped}
use Rattle.wire.proofs.command.Command.read.Goals as goal

pub returns-clause-value : goal.returns-clause-value
unfolding command_in
returns-clause-value c =
    let bs = c.args.bytes.now in
    let ps = mapped _ (λ place. number_at 4 place bs) _ (λ x y f' k. search rules) _ _ c.map.ensures.items in
    ap (λ (qs : List ℕ). Ok (record { code = c.number_at.result; transaction = c.number_at-2.result; parameters = qs })) ps ∙ search rules
