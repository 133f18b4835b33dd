use Rattle.std.proofs.Common.{length}
use Rattle.bench.proofs.level.Visit.+set.Given as goal

abbrev pub decreases-set : goal.decreases-set
decreases-set g l = length l.lines.now
