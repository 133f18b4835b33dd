use Rattle.std.proofs.Common.{◌≡◌, length, sym, subst, arith, rules}
use Rattle.bench.specs.Held.{lines_of}
use Rattle.bench.specs.Spans.{FamiliesFit, configs}
use Rattle.bench.specs.Table.{families}
use Rattle.bench.proofs.LinkLines.{linked_spans}
use Rattle.bench.proofs.calls.start.Goals as goal

pub start_families-requires : goal.start_families-requires
start_families-requires g c =
    let t = c.args.table.now in
    let lines_are : c.deref.result.now ≡ lines_of t = search rules in
    subst (λ zs. FamiliesFit zs (length c.args.workspace.now)) (sym lines_are)
    (record { table = families (configs (lines_of t)); spans = linked_spans (lines_of t) t.spans; fits = omega (arith, t.needs, c.requires) })

pub returns : goal.returns
returns g c =
    let t = c.args.table.now in
    let lines_are : c.deref.result.now ≡ lines_of t = search rules in
    (rw lines_are at c.start_families.ensures) (families (configs (lines_of t))) (linked_spans (lines_of t) t.spans)
