use Rattle.std.proofs.Common.{length}
use Rattle.bench.proofs.start.+start_lines.Given as goal

abbrev pub decreases-start_lines : goal.decreases-start_lines
decreases-start_lines g l = length l.lines.now
