use Rattle.std.proofs.Common.{[], ◌∷◌, None, sym, refl, ap, ◌∙◌}
use Rattle.std.proofs.lemmas.List.{take-replicate}
use Rattle.bench.specs.Calls.{zero}
use Rattle.bench.specs.Held.{bench_of}
use Rattle.bench.specs.State.{no_misses}
use Rattle.bench.proofs.CallKept.{called}
use Rattle.bench.proofs.SameState.{count_is, same_bench}
use Rattle.bench.proofs.bench.Bench.zero.Goals as goal

pub returns : goal.returns
returns g c ws =
    let h = c.args.self.now.held in
    let E = c.new-self.ensures in
    called g.S.Suite.suite g.met.S.Suite.lawful zero (bench_of h ws) _ None refl (same_bench refl (take-replicate _ 64 (0 ∷ 0 ∷ 0 ∷ []) h.table.few ∙ ap no_misses (sym (count_is h.table))) E.cached refl refl E.accesses E.uncached E.frames E.comparisons refl)
