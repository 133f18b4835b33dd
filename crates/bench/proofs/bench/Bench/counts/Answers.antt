use Rattle.std.proofs.Common.{◌≡◌, ◌++◌, map, length, take, drop, sym, ap, ◌∙◌}
use Rattle.std.proofs.lemmas.List.{length-map, take_at}
use Rattle.bench.specs.Counted.{cache_record, record_of, records_of}
use Rattle.bench.specs.Held.{bench_of, state_of}
use Rattle.bench.specs.Model.{line_caches}
use Rattle.bench.proofs.Records.{records_tracked}
use Rattle.bench.proofs.bench.Bench.counts.Goals as goal

pub returns-clause-tracks : goal.returns-clause-tracks
returns-clause-tracks g c =
    let h = c.args.self.now.held in
    let rs = records_of (state_of h) in
    let same_misses = ap (λ n. take n h.misses) c.len-count.ensures.value in
    let exact : c.fill.new.records ≡ rs ++ drop (length rs) c.args.records.now =
    c.fill.ensures ∙ ap (λ ms. map (record_of h.tally.cached) ms ++ drop (length ms) c.args.records.now) same_misses
    ∙ ap (λ n. rs ++ drop n c.args.records.now) (sym (length-map (take (length h.table.lines.items) h.misses) (record_of h.tally.cached))) in
    λ m ws T.
    let same = records_tracked g.S.Suite.suite m (bench_of h ws) T in
    let size : length rs ≡ length (line_caches m.families) = ap length same ∙ length-map (line_caches m.families) cache_record in
    ap (take (length (line_caches m.families))) exact ∙ take_at rs (drop (length rs) c.args.records.now) (length (line_caches m.families)) size ∙ same
