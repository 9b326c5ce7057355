use Rattle.store.proofs.Kept.{changes_keep, additions_accepted}
use Rattle.store.proofs.laws.stores_change_one_number.Goals as goal

pub returns : goal.returns
returns c = record { kept = changes_keep; accepted = additions_accepted }
