use Rattle.std.proofs.Common.{◌<◌, [], length, get_or, set, ap, ◌∙◌, arith}
use Rattle.bench.specs.Counted.{record_of}
use Rattle.bench.proofs.Records.{record_more}
use Rattle.bench.proofs.counts.fill.Goals as goal

pub loop-k-preserved : goal.loop-k-preserved
loop-k-preserved c =
    let k = c.loop-k.k in
    let ms = c.args.misses.now in
    let low = c.loop-k-test.true in
    let room : k < length c.args.records.now = omega (arith, c.requires, c.loop-k-test.true) in
    ap (λ r. set c.loop-k.records k r) c.record_of.ensures
    ∙ ap (λ rs. set rs k (record_of c.args.cached.now (get_or ms k []))) c.loop-k.invariant
    ∙ record_more c.args.cached.now ms c.args.records.now k [] c.record_of.result low room
