use Rattle.std.proofs.Common.{length}
use Rattle.bench.proofs.link.+link.Given as goal

abbrev pub decreases-link : goal.decreases-link
decreases-link l = length l.lines.now
