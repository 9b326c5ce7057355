use Rattle.store.proofs.Told.{told_by_lookups, next_is_least, numbers_walked, past_last_law}
use Rattle.store.proofs.laws.lookups_tell_contents.Goals as goal

pub returns : goal.returns
returns c = record { told = told_by_lookups; least = next_is_least; walked = numbers_walked; past = past_last_law }
