use Rattle.std.proofs.Common.{◌≡◌, ◌<◌, min, ◌++◌, map, length, drop, sym, ap, ◌∙◌, subst, arith}
use Rattle.std.specs.List.{AllWithin}
use Rattle.std.proofs.lemmas.List.Elements.{AllWithin-more_set}
use Rattle.bench.specs.Held.{bench_of}
use Rattle.bench.specs.Refused.{LinesFromOne}
use Rattle.bench.specs.Spoken.{answer_of, do_of, spoken}
use Rattle.bench.specs.State.{bench_answers, bench_run, new_bench}
use Rattle.bench.specs.declared.call.Call.TheVariants.{Flush}
use Rattle.bench.proofs.CallByCall.{answers_step, beyond_step, both_lists, rest_stays, run_step}
use Rattle.bench.proofs.TrackRun.{one_pass}
use Rattle.bench.proofs.replay.replay.Goals as goal

pub loop-k-preserved : goal.loop-k-preserved
loop-k-preserved g c =
    let s = g.S.Suite.suite in
    let calls = c.args.calls.now in
    let k = c.loop-k.k in
    let start = new_bench c.args.workspace.now in
    let b = bench_of c.loop-k.bench.held c.loop-k.workspace in
    let b' = bench_of c.call.new.self.held c.call.new.workspace in
    let low : k < length calls = omega (arith, c.loop-k-test.true, c.min-count.ensures) in
    let room : k < length c.args.answers.now = omega (arith, c.loop-k-test.true, c.min-count.ensures) in (
      run_step s calls k Flush low start b b' c.loop-k.invariant.0 c.call.ensures.called.after,
      answers_step s calls k Flush low start c.loop-k.answers c.args.answers.now c.call.result b room c.loop-k.invariant.0 c.call.ensures.called.answered c.loop-k.invariant.1,
      AllWithin-more_set c.loop-k.answers k c.call.result (omega (arith, room, c.loop-k.auto.answers)) LinesFromOne c.loop-k.invariant.2 c.call.ensures.from_one,
      beyond_step c.loop-k.answers c.args.answers.now k c.call.result c.loop-k.invariant.3,
    )

pub returns : goal.returns
returns g c =
    let s = g.S.Suite.suite in
    let L = g.met.S.Suite.lawful in
    let calls = c.args.calls.now in
    let xs = c.args.answers.now in
    let k = c.loop-k.k in
    let start = new_bench c.args.workspace.now in
    let all : k ≡ min (length calls) (length xs) = omega (arith, c.loop-k-test.false, c.min-count.ensures, c.loop-k.auto.k-end) in
    let told : spoken k calls ≡ spoken (length xs) calls = ap (map do_of) (both_lists calls xs k all) in
    record {
      answers = c.loop-k.invariant.1 ∙ ap (λ cs. bench_answers s cs start ++ map answer_of (drop k xs)) told ∙ ap (λ zs. bench_answers s (spoken (length xs) calls) start ++ map answer_of zs) (rest_stays calls xs k all);
      from_one = subst (AllWithin LinesFromOne c.loop-k.answers 0) all c.loop-k.invariant.2;
      beyond = sym (rest_stays calls c.loop-k.answers k (omega (arith, all, c.loop-k.auto.answers))) ∙ c.loop-k.invariant.3 ∙ rest_stays calls xs k all;
      bench = c.loop-k.invariant.0 ∙ ap (λ cs. bench_run s cs start) told;
      theorem = one_pass s L (spoken (length xs) calls) c.args.workspace.now;
    }
