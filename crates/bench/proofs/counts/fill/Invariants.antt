use Rattle.std.proofs.Common.{◌≡◌, ◌++◌, map, take, drop}
use Rattle.bench.specs.Counted.{record_of}
use Rattle.bench.proofs.counts.fill.Given as goal

abbrev pub invariant-loop-k : goal.invariant-loop-k
invariant-loop-k l = l.records ≡ map (record_of l.cached) (take l.k l.misses) ++ drop l.k l.initial.records
