use Rattle.std.proofs.Common.{length}
use Rattle.bench.proofs.sweep.Sweep.+levels.Given as goal

abbrev pub decreases-levels : goal.decreases-levels
decreases-levels g l = length l.lines.now
