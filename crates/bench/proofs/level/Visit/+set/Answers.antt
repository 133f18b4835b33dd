use Rattle.std.proofs.Common.{◌≡◌, ◌+◌, ◌*◌, ◌∷◌, ◌++◌, take, drop, sym, ap, ◌∙◌, subst, refl, rules}
use Rattle.std.proofs.lemmas.List.{length-map}
use Rattle.standalone.specs.Rows.{with_row}
use Rattle.geometry.specs.Kind.{kind_number}
use Rattle.bench.specs.Group.{SetSwept}
use Rattle.bench.specs.Lead.{leads_seen}
use Rattle.bench.specs.Mixed.{own_step}
use Rattle.bench.specs.OpenLines.{kins_of, line_kin}
use Rattle.bench.proofs.OwnMisses.{rows_within}
use Rattle.bench.proofs.SetRows.{row_part, row_put, rows_as, rows_from, rows_more}
use Rattle.bench.proofs.level.Visit.+set.Goals as goal

pub returns-clause-swept : goal.returns-clause-swept
returns-clause-swept g t c =
    let f = own_step g.S.Suite.suite in
    let at = c.args.self.now.place in
    let kind = kind_number at.kind in
    let x = c.in-Some.line.now in
    let es = c.in-Some.lines.now in
    let m = c.in-Some-split_first_mut.mine.now in
    let ms = c.in-Some-split_first_mut.misses.now in
    let ws = c.args.words.now in
    let w = x.geometry.ways + 2 in
    let rows = c.split_at_mut-rows.result.0.now in
    let ms'' = c.set-wider.new.misses in
    let rest = c.set-wider.new.words in
    let lead = leads_seen c.set-wider.new.leads in
    let parts = c.split_at_mut-rows.ensures in
    let E = c.step_owned-hit.ensures in
    let lines_are : c.args.lines.now ≡ x ∷ es = search rules in
    let misses_are : c.args.misses.now ≡ m ∷ ms = search rules in
    let wider = subst (λ zs. SetSwept f at.sets at.set at.tag kind (kins_of es) ms zs ms'' rest c.set-wider.result lead) parts.back c.set-wider.ensures.swept in
    let swept = rows_more f at.sets at.set at.tag kind (line_kin x) (kins_of es) m ms ws ms'' rest c.set-wider.result lead wider c.if-ways-le1.false _ (row_part w at.set rows ∙ ap (λ zs. take w (drop (at.set * w) zs)) parts.front)
    c.count_miss-2.new.misses c.step_owned-hit.new.words c.step_owned-hit.result.0 c.step_owned-hit.result.1 _ E.hit E.comparisons E.words E.leads c.count_miss-2.ensures in
    let put = row_put w at.set rows c.step_owned-hit.new.words ∙ ap (λ zs. with_row w at.set zs c.step_owned-hit.new.words) parts.front in
    rows_from (ap kins_of lines_are) misses_are (rows_as refl (ap (λ zs. zs ++ rest) put) c.saturating_add.ensures swept)

-- seen as lines that keep their own misses
pub returns-clause-rows : goal.returns-clause-rows
returns-clause-rows g t c = rows_within (own_step g.S.Suite.suite) _ _ _ _ (kins_of c.args.lines.now) c.args.misses.now _ (c.requires.long ∙ sym (length-map c.args.lines.now line_kin)) (returns-clause-swept g t c)
