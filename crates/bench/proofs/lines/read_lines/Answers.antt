use Rattle.std.proofs.Common.{◌≡◌, ◌+◌, length, take, Some, sym, ap, ◌∙◌, arith}
use Rattle.std.proofs.lemmas.List.{length-map, length-take-le}
use Rattle.geometry.specs.Refusal.{refusal_number}
use Rattle.bench.specs.Spans.{config}
use Rattle.bench.specs.Table.{config_of}
use Rattle.bench.proofs.ReadLines.{line_stops}
use Rattle.bench.proofs.lines.read_lines.Goals as goal

-- as many lines are read as were looked at
pub returns-in-Err-clause-passes : goal.returns-in-Err-clause-passes
returns-in-Err-clause-passes g c =
    let p = g.S.Suite.suite.three in
    let lines = c.args.lines.now in
    let k = c.loop-line.line-index in
    let n = refusal_number c.in-Err.refusal in
    let long : c.len.result ≡ k = c.len.ensures.value ∙ sym (length-map c.loop-line.read.items config) ∙ ap length c.loop-line.invariant.read ∙ length-map (take k lines) (config_of p) ∙ length-take-le k lines (omega (arith, c.loop-line-test.true)) in
    sym c.loop-line.invariant.asked ∙ line_stops p c.loop-line.last lines k _ c.loop-line-test.true n c.in-Err.ensures.passes ∙ ap (λ i. Some (record { number = n; line = i + 1 })) (sym long)
