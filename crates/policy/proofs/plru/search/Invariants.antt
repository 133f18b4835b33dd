-- What the leaves passed so far leave of the search.
use Rattle.std.proofs.Common.{map, length}
use Rattle.std.specs.List.{range_with_len}
use Rattle.policy.specs.Plru.{leaf_at}
use Rattle.policy.specs.Tree.{Sought}
use Rattle.policy.proofs.plru.search.Given as goal

abbrev pub invariant-loop-i : goal.invariant-loop-i
invariant-loop-i l = Sought l.tag (map (leaf_at l.head l.leaves) (range_with_len 0 (length l.leaves))) l.i l.comparisons
