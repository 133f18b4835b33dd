use Rattle.std.proofs.Common.{length}
use Rattle.text_trials.proofs.judge_all.Given as goal

abbrev pub decreases-loop-input : goal.decreases-loop-input
decreases-loop-input l = length l.rest
