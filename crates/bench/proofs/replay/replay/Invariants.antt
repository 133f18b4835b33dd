use Rattle.std.proofs.Common.{◌≡◌, ◌++◌, map, drop}
use Rattle.std.specs.List.{AllWithin}
use Rattle.bench.specs.Held.{bench_of}
use Rattle.bench.specs.Refused.{LinesFromOne}
use Rattle.bench.specs.Spoken.{answer_of, spoken}
use Rattle.bench.specs.State.{bench_answers, bench_run, new_bench}
use Rattle.bench.proofs.replay.replay.Given as goal

abbrev pub invariant-loop-k : goal.invariant-loop-k
invariant-loop-k g l =
    let s = g.S.Suite.suite in
    (bench_of l.bench.held l.workspace ≡ bench_run s (spoken l.k l.calls) (new_bench l.initial.workspace))
    × (map answer_of l.answers ≡ bench_answers s (spoken l.k l.calls) (new_bench l.initial.workspace) ++ map answer_of (drop l.k l.initial.answers))
    × AllWithin LinesFromOne l.answers 0 l.k
    × (drop l.k l.answers ≡ drop l.k l.initial.answers)
