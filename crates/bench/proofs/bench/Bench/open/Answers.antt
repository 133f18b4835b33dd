use Rattle.std.proofs.Common.{◌≡◌, leb, [], ◌∷◌, map, length, Some, None, sym, refl, ap, ◌∙◌, arith}
use Rattle.std.proofs.lemmas.List.{take-replicate, length-map}
use Rattle.std.proofs.lemmas.Bool.{cond-true, le-leb}
use Rattle.bench.specs.Calls.{open_table}
use Rattle.bench.specs.Held.{bench_of}
use Rattle.bench.specs.State.{no_misses}
use Rattle.bench.proofs.CallKept.{passed}
use Rattle.bench.proofs.SameState.{count_is, same_bench}
use Rattle.bench.specs.Held.{lines_of}
use Rattle.bench.specs.Opened.{need, or_else, unless}
use Rattle.bench.specs.Spans.{configs}
use Rattle.bench.specs.State.{restarted}
use Rattle.bench.specs.Table.{config_of, families, families_words}
use Rattle.bench.proofs.bench.Bench.open.Goals as goal

pub returns-clause-called : goal.returns-clause-called
returns-clause-called g c =
    let s = g.S.Suite.suite in
    let L = g.met.S.Suite.lawful in
    let h = c.args.self.now.held in
    let E = c.new-self.ensures in
    let t = c.in_ok-table.table in
    let lines = c.args.lines.now in
    let ws = c.args.workspace.now in
    let read = c.in_ok-table.ensures in
    let same : configs (lines_of t) ≡ map (config_of s.three) lines = read.configs in
    let count : length (lines_of t) ≡ length lines = sym (count_is t) ∙ ap length same ∙ length-map lines (config_of s.three) in
    let wanted : t.need ≡ need s.three lines = t.needs ∙ ap (λ cs. families_words (families cs)) same in
    let room : unless (leb (need s.three lines) (length ws)) 11 ≡ None = cond-true (leb (need s.three lines) (length ws)) None (Some (record { number = 11; line = 0 })) (le-leb _ _ (omega (arith, wanted, c.if-workspace-table.false))) in
    let passes_all = ap (λ o. or_else o (unless (leb (need s.three lines) (length ws)) 11)) read.passes ∙ room in
    passed s L (open_table lines) (bench_of h ws) _ passes_all
    (same_bench same (take-replicate (length (lines_of t)) 64 (0 ∷ 0 ∷ 0 ∷ []) t.few ∙ ap no_misses count) E.cached refl refl E.accesses E.uncached E.frames E.comparisons (c.start.ensures ∙ ap (λ cs. restarted s cs ws) same))
