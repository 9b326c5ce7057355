use Rattle.std.proofs.Common.{refl}
use Rattle.object.specs.Legal.{legal_name, stored_name}
use Rattle.object.specs.Names.{named}
use Rattle.image_format.specs.Parsed.{files_from, parsed}
use Rattle.image.proofs.samples.samples_hold.Goals as goal

pub returns : goal.returns
unfolding legal_name stored_name named files_from parsed
returns c = refl
