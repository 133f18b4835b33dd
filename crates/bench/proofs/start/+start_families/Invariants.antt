use Rattle.std.proofs.Common.{length}
use Rattle.bench.proofs.start.+start_families.Given as goal

abbrev pub decreases-start_families : goal.decreases-start_families
decreases-start_families g l = length l.lines.now
