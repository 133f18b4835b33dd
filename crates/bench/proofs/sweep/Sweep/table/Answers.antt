use Rattle.std.proofs.Common.{◌≡◌, length, sym, refl, ◌∙◌, subst, arith, rules}
use Rattle.std.proofs.lemmas.List.{length-take-le, take_at}
use Rattle.bench.specs.Held.{lines_of}
use Rattle.bench.specs.Spans.{FamiliesFit, configs}
use Rattle.bench.specs.Table.{families}
use Rattle.bench.proofs.DoneParts.{done_same}
use Rattle.bench.proofs.LinkLines.{linked_spans}
use Rattle.bench.proofs.sweep.Sweep.table.Goals as goal

pub families-requires-clause-fit : goal.families-requires-clause-fit
families-requires-clause-fit g c =
    let t = c.args.table.now in
    let lines_are : c.deref.result.now ≡ lines_of t = search rules in
    subst (λ zs. FamiliesFit zs (length c.args.words.now)) (sym lines_are)
    (record { table = families (configs (lines_of t)); spans = linked_spans (lines_of t) t.spans; fits = omega (arith, t.needs, c.requires) })

pub returns : goal.returns
returns g c =
    let t = c.args.table.now in
    let A = c.args.self.now.access in
    let ms = c.args.misses.now in
    let ms' = c.families.new.misses in
    let lines_are : c.deref.result.now ≡ lines_of t = search rules in
    let count = c.len-count.ensures.value in
    let long : length ms' ≡ length (lines_of t) = c.families.auto.misses ∙ length-take-le c.len-count.result ms (omega (arith, t.few, count, c.told-misses)) ∙ count in
    let done = (rw (lines_are, count) at c.families.ensures) (families (configs (lines_of t))) (linked_spans (lines_of t) t.spans) in
    done_same (take_at ms' _ (length (lines_of t)) long) refl refl done
