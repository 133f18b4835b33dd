use Rattle.std.proofs.Common.{◌+◌, ◌*◌, ◌^◌, take, drop}
use Rattle.policy.specs.Three.{policy_of}
use Rattle.standalone.specs.Run.{Tracks}
use Rattle.standalone.proofs.cache.Cache.touch_all.Given as goal

abbrev pub invariant-loop-access : goal.invariant-loop-access
invariant-loop-access g l =
    let m = policy_of g.S.Suite.suite.three l.self.geometry.member in
    Tracks m (2 ^ l.self.geometry.block_bits) (2 ^ l.self.geometry.set_bits) l.self.geometry.ways (take l.access-index l.accesses) (drop (2 ^ l.self.geometry.set_bits * (l.self.geometry.ways + 1)) l.initial.memory) l.memory l.counts l.comparisons
