use Rattle.std.proofs.Common.{length}
use Rattle.text_trials.proofs.answer.read_job.Given as goal

abbrev pub decreases-loop-line : goal.decreases-loop-line
decreases-loop-line l = length l.rest
