use Rattle.std.proofs.Common.{rules}
use Rattle.wire.specs.Operations.{operation_number, operations}
use Rattle.wire.proofs.Mapped.{mapped}
use Rattle.datasets.proofs.device.operation_codes.Goals as goal

pub returns : goal.returns
returns c = mapped _ (λ o. operation_number o.code) _ (λ x y f' k. search rules) operations _ c.map.ensures.items
