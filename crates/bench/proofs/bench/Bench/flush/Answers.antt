use Rattle.std.proofs.Common.{leb, [], length, refl, ap, arith}
use Rattle.std.proofs.lemmas.Bool.{le-leb}
use Rattle.geometry.proofs.Asked.{passes}
use Rattle.bench.specs.Calls.{flush}
use Rattle.bench.specs.Held.{bench_of}
use Rattle.bench.specs.Opened.{at_line}
use Rattle.bench.proofs.CallKept.{passed}
use Rattle.bench.proofs.SameState.{same_bench}
use Rattle.bench.specs.State.{state_need}
use Rattle.bench.proofs.bench.Bench.flush.Goals as goal

pub returns : goal.returns
returns g c =
    let s = g.S.Suite.suite in
    let L = g.met.S.Suite.lawful in
    let h = c.args.self.now.held in
    let b = bench_of h c.args.workspace.now in
    let room = ap (at_line 0) (passes 11 (leb (state_need b.state) (length b.words)) [] (le-leb _ _ (omega (arith, h.table.needs, c.if-workspace-self.false)))) in
    passed s L flush b _ room (same_bench refl refl refl refl refl refl refl refl refl c.start.ensures)
