-- The three policies that come with the bench: F, L and P.
use Rattle.policy.specs.Three.{Three, three}
use Rattle.policy.specs.Stack.{fifo_meaning, lru_meaning}
use Rattle.policy.specs.Plru.{plru_meaning}

abbrev pub standard : Three
standard = three fifo_meaning lru_meaning plru_meaning
