-- Each turn halves the interval of leaves, which stays within the leaves and is never turned round.
use Rattle.std.proofs.Common.{◌-◌, ◌≤◌}
use Rattle.trials.proofs.tree.descend.Given as goal

abbrev pub invariant-loop-high : goal.invariant-loop-high
invariant-loop-high g l = goal.F-IsAlwaysCallable g l.turn × ((l.low ≤ l.high) × (l.high ≤ l.initial.high))

abbrev pub decreases-loop-high : goal.decreases-loop-high
decreases-loop-high g l = l.high - l.low
