use Rattle.std.proofs.Common.{◌≡◌, ◌<◌, length, get_or, sym, subst₂, arith, rules}
use Rattle.bench.specs.Spans.{FamiliesFit, LevelsFit}
use Rattle.bench.proofs.FamiliesSwept.{first_family, later_fit, levels_fit, within}
use Rattle.bench.proofs.LevelsStarted.{families_more, families_none}
use Rattle.bench.proofs.start.+start_families.Goals as goal

pub returns-in_default : goal.returns-in_default
returns-in_default g t c = families_none g.S.Suite.suite c.args.lines.now c.args.words.now (search rules)

pub split_at-requires : goal.split_at-requires
split_at-requires g t c =
    let es = c.args.lines.now in
    let x = c.in-Some.first.now in
    let is : x ≡ get_or es 0 x = search rules in
    let some : 0 < length es = search rules in
    (within es x is (length c.args.words.now) some c.requires).lines

pub split_at_mut-words-requires : goal.split_at_mut-words-requires
split_at_mut-words-requires g t c =
    let es = c.args.lines.now in
    let x = c.in-Some.first.now in
    let is : x ≡ get_or es 0 x = search rules in
    let some : 0 < length es = search rules in
    (within es x is (length c.args.words.now) some c.requires).words

pub start_levels-requires : goal.start_levels-requires
start_levels-requires g t c =
    let es = c.args.lines.now in
    let x = c.in-Some.first.now in
    let is : x ≡ get_or es 0 x = search rules in
    let some : 0 < length es = search rules in
    subst₂ (λ zs vs. LevelsFit zs (length vs)) (sym c.split_at.ensures.front) (sym c.split_at_mut-words.ensures.front) (levels_fit es x is c.args.words.now some c.requires)

pub start_families-requires : goal.start_families-requires
start_families-requires g t c κs below =
    let es = c.args.lines.now in
    let x = c.in-Some.first.now in
    let is : x ≡ get_or es 0 x = search rules in
    let some : 0 < length es = search rules in
    let W = within es x is (length c.args.words.now) some c.requires in
    let fit = subst₂ (λ zs vs. FamiliesFit zs (length vs)) (sym c.split_at.ensures.back) (sym c.split_at_mut-words.ensures.back) (later_fit es x is c.args.words.now some c.requires) in
    let falls : length c.split_at.result.1.now < length es = omega (arith, c.split_at.ensures.back_len, W.some, W.lines) in
    (search rules, (search rules, fit))

pub returns : goal.returns
returns g t c fs sp =
    let es = c.args.lines.now in
    let x = c.in-Some.first.now in
    let is : x ≡ get_or es 0 x = search rules in
    let some : 0 < length es = search rules in
    let L = c.split_at.ensures in
    let V = c.split_at_mut-words.ensures in
    let here = rw (L.front, V.front) at c.start_levels.ensures in
    let later = rw (L.back, V.back) at c.start_families.ensures in
    families_more g.S.Suite.suite es (first_family fs es x is some sp) c.args.words.now _ _ here later
