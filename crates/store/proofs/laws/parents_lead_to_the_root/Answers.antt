use Rattle.store.proofs.Parents.{parents_lead}
use Rattle.store.proofs.laws.parents_lead_to_the_root.Goals as goal

pub returns : goal.returns
returns c = parents_lead
