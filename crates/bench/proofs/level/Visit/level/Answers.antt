use Rattle.std.proofs.Common.{◌++◌, sym, refl, ap, ◌∙◌, subst}
use Rattle.std.proofs.lemmas.List.{length-map}
use Rattle.geometry.specs.Kind.{kind_number}
use Rattle.bench.specs.Group.{SetSwept}
use Rattle.bench.specs.Lead.{leads_seen}
use Rattle.bench.specs.Mixed.{own_step}
use Rattle.bench.specs.OpenLines.{kins_of, line_kin}
use Rattle.bench.proofs.DoneParts.{done_same}
use Rattle.bench.proofs.OwnMisses.{visit_within}
use Rattle.bench.proofs.VisitDone.{level_hit, level_miss}
use Rattle.bench.proofs.level.Visit.level.Goals as goal

pub returns-then-hit-clause-visited : goal.returns-then-hit-clause-visited
returns-then-hit-clause-visited g c =
    let at = c.args.self.now.place in
    let E = c.visit_direct-hit.ensures in
    level_hit (own_step g.S.Suite.suite) at.sets at.set at.tag (kind_number at.kind) (kins_of c.args.lines.now) c.args.misses.now c.args.words.now (sym E.hit ∙ c.if-hit.true) E.words E.comparisons

pub returns-clause-visited : goal.returns-clause-visited
returns-clause-visited g c =
    let f = own_step g.S.Suite.suite in
    let at = c.args.self.now.place in
    let kind = kind_number at.kind in
    let ks = kins_of c.args.lines.now in
    let E = c.visit_direct-hit.ensures in
    let parts = c.split_at_mut-rows.ensures in
    let ms' = c.set-compared.new.misses in
    let rest = c.set-compared.new.words in
    let rows = subst (λ zs. SetSwept f at.sets at.set at.tag kind ks c.args.misses.now zs ms' rest c.set-compared.result (leads_seen c.set-compared.new.leads)) parts.back c.set-compared.ensures.swept in
    done_same refl (ap (λ zs. zs ++ rest) parts.front) refl
    (level_miss f at.sets at.set at.tag kind ks c.args.misses.now c.args.words.now (sym E.hit ∙ c.if-hit.false) at.within E.words E.comparisons rows c.saturating_add.ensures)

-- seen as lines that keep their own misses
pub returns-then-hit-clause-level : goal.returns-then-hit-clause-level
returns-then-hit-clause-level g c = visit_within (own_step g.S.Suite.suite) _ _ _ _ (kins_of c.args.lines.now) c.args.misses.now _ (c.requires.long ∙ sym (length-map c.args.lines.now line_kin)) (returns-then-hit-clause-visited g c)

pub returns-clause-level : goal.returns-clause-level
returns-clause-level g c = visit_within (own_step g.S.Suite.suite) _ _ _ _ (kins_of c.args.lines.now) c.args.misses.now _ (c.requires.long ∙ sym (length-map c.args.lines.now line_kin)) (returns-clause-visited g c)
