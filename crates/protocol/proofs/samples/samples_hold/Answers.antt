use Rattle.protocol.proofs.Sampled.{exchanged, written_out, every_operation, samples_sound}
use Rattle.protocol.proofs.samples.samples_hold.Goals as goal

pub returns : goal.returns
returns c = record { exchanged = exchanged; written = written_out; tasks = every_operation; sound = samples_sound }
