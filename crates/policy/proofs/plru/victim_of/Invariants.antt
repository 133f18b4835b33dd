-- The node goes down a level with each turn, and the rest of the way leads to the same leaf.
use Rattle.std.proofs.Common.{◌≡◌, ◌-◌, ◌^◌, map}
use Rattle.std.specs.List.{range_with_len}
use Rattle.policy.specs.Plru.{bit, follow}
use Rattle.policy.specs.Tree.{Level}
use Rattle.policy.proofs.plru.victim_of.Given as goal

abbrev pub invariant-loop : goal.invariant-loop
invariant-loop l =
    Level l.counter l.node
    × (follow (map (bit l.head) (range_with_len 0 (2 ^ l.depth - 1))) (l.depth - l.counter) l.node ≡ follow (map (bit l.head) (range_with_len 0 (2 ^ l.depth - 1))) l.depth 1)
