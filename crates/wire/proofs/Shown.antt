-- The samples, by computing.
use Rattle.std.proofs.Common.{refl}
use Rattle.wire.specs.Containers.{container, command_in}
use Rattle.wire.specs.Samples.{Samples}

pub samples : Samples
unfolding container command_in
samples =
    record {
      empty_string = refl;
      one_letter = refl;
      command = refl;
      command_read = refl;
    }
