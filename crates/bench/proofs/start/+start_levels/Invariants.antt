use Rattle.std.proofs.Common.{length}
use Rattle.bench.proofs.start.+start_levels.Given as goal

abbrev pub decreases-start_levels : goal.decreases-start_levels
decreases-start_levels g l = length l.lines.now
