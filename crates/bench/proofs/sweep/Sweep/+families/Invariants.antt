use Rattle.std.proofs.Common.{length}
use Rattle.bench.proofs.sweep.Sweep.+families.Given as goal

abbrev pub decreases-families : goal.decreases-families
decreases-families g l = length l.lines.now
