use Rattle.std.proofs.Common.{◌≡◌, ◌<◌, length, get_or, sym, refl, ◌∙◌, subst₂, arith, rules}
use Rattle.geometry.specs.Kind.{kind_number}
use Rattle.bench.specs.Mixed.{own_step}
use Rattle.bench.specs.Spans.{FamiliesFit, LevelsFit}
use Rattle.bench.proofs.DoneParts.{done_same}
use Rattle.bench.proofs.FamiliesSwept.{families_go, families_stop, first_family, later_fit, levels_fit, none_swept, within}
use Rattle.bench.proofs.sweep.Sweep.+families.Goals as goal

pub returns-in_default : goal.returns-in_default
returns-in_default g t c = none_swept (own_step g.S.Suite.suite) c.args.self.now.last c.args.self.now.access.address (kind_number c.args.self.now.access.kind) c.args.lines.now c.args.misses.now c.args.words.now (search rules)

pub returns-then-repeats : goal.returns-then-repeats
returns-then-repeats g t c fs sp =
    let es = c.args.lines.now in
    let x = c.in-Some.first.now in
    let is : x ≡ get_or es 0 x = search rules in
    let some : 0 < length es = search rules in
    let A = c.args.self.now.access in
    families_stop (own_step g.S.Suite.suite) c.args.self.now.last A.address (kind_number A.kind) es (first_family fs es x is some sp) c.args.misses.now c.requires.long c.args.words.now (sym c.repeats.ensures ∙ c.if-repeats.true)

pub split_at-requires : goal.split_at-requires
split_at-requires g t c =
    let es = c.args.lines.now in
    let x = c.in-Some.first.now in
    let is : x ≡ get_or es 0 x = search rules in
    let some : 0 < length es = search rules in
    (within es x is (length c.args.words.now) some c.requires.fit).lines

pub split_at_mut-words-requires : goal.split_at_mut-words-requires
split_at_mut-words-requires g t c =
    let es = c.args.lines.now in
    let x = c.in-Some.first.now in
    let is : x ≡ get_or es 0 x = search rules in
    let some : 0 < length es = search rules in
    (within es x is (length c.args.words.now) some c.requires.fit).words

pub levels-compared-requires-clause-fit : goal.levels-compared-requires-clause-fit
levels-compared-requires-clause-fit g t c =
    let es = c.args.lines.now in
    let x = c.in-Some.first.now in
    let is : x ≡ get_or es 0 x = search rules in
    let some : 0 < length es = search rules in
    subst₂ (λ zs vs. LevelsFit zs (length vs)) (sym c.split_at.ensures.front) (sym c.split_at_mut-words.ensures.front) (levels_fit es x is c.args.words.now some c.requires.fit)

pub families-requires : goal.families-requires
families-requires g t c κs below =
    let es = c.args.lines.now in
    let x = c.in-Some.first.now in
    let is : x ≡ get_or es 0 x = search rules in
    let some : 0 < length es = search rules in
    let W = within es x is (length c.args.words.now) some c.requires.fit in
    let fit = subst₂ (λ zs vs. FamiliesFit zs (length vs)) (sym c.split_at.ensures.back) (sym c.split_at_mut-words.ensures.back) (later_fit es x is c.args.words.now some c.requires.fit) in
    let falls : length c.split_at.result.1.now < length es = omega (arith, c.split_at.ensures.back_len, W.some, W.lines) in
    (search rules, (search rules, (fit, omega (arith, c.requires.long, c.split_at.ensures.back_len, c.split_at_mut-misses.ensures.back_len))))

pub returns : goal.returns
returns g t c fs sp =
    let es = c.args.lines.now in
    let x = c.in-Some.first.now in
    let is : x ≡ get_or es 0 x = search rules in
    let some : 0 < length es = search rules in
    let A = c.args.self.now.access in
    let L = c.split_at.ensures in
    let M = c.split_at_mut-misses.ensures in
    let V = c.split_at_mut-words.ensures in
    let here = rw (L.front, V.front, M.front) at c.levels-compared.ensures in
    let later = rw (L.back, V.back, M.back) at c.families.ensures in
    done_same refl refl c.saturating_add.ensures
    (families_go (own_step g.S.Suite.suite) c.args.self.now.last A.address (kind_number A.kind) es (first_family fs es x is some sp) c.args.misses.now c.requires.long c.args.words.now (sym c.repeats.ensures ∙ c.if-repeats.false) here later)
