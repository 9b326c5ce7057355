use Rattle.std.proofs.Common.{refl, arith}
use Rattle.object.proofs.Stored.{length_units, units_long, units_short}
use Rattle.object.proofs.name.Name.used.Goals as goal

pub returns : goal.returns
returns c =
    let n = c.args.self.now in
    record { value = refl; bound = (omega (arith, length_units n, units_long n), omega (arith, length_units n, units_short n)) }
