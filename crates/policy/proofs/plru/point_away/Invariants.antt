-- The node climbs a level with each turn, and the rest of the path is still to point away.
use Rattle.std.proofs.Common.{◌≡◌, ◌+◌, ◌-◌, ◌^◌}
use Rattle.policy.specs.Plru.{away_word}
use Rattle.policy.specs.Tree.{Level}
use Rattle.policy.proofs.plru.point_away.Given as goal

abbrev pub invariant-loop : goal.invariant-loop
invariant-loop l =
    Level (l.depth - l.counter) l.node
    × (away_word l.head (l.depth - l.counter) l.node ≡ away_word l.head-2 l.depth (2 ^ l.depth + l.leaf))
