use Rattle.std.proofs.Common.{◌≡◌, ◌+◌, ◌*◌, ◌++◌, drop, replicate}
use Rattle.policy.specs.Three.{policy_of}
use Rattle.standalone.specs.Rows.{laid}
use Rattle.standalone.proofs.cache.Cache.start.Given as goal

-- the rows of the sets so far are started
abbrev pub invariant-loop-set : goal.invariant-loop-set
invariant-loop-set g l =
    let m = policy_of g.S.Suite.suite.three l.self.geometry.member in
    l.memory ≡ laid (replicate l.set (m.start (l.self.geometry.ways + 1))) ++ drop (l.set * (l.self.geometry.ways + 1)) l.initial.memory
