use Rattle.std.proofs.Common.{refl}
use Rattle.bench.proofs.KnownPass.{known_passes_stand}
use Rattle.bench.proofs.known.two_lines.Goals as goal

pub returns : goal.returns
returns c = record { table = refl; known = known_passes_stand }
