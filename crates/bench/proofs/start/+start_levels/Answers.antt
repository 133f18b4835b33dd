use Rattle.std.proofs.Common.{◌≡◌, ◌^◌, ◌<◌, ◌≤◌, length, get_or, sym, subst, subst₂, arith, rules}
use Rattle.bench.specs.OpenLines.{kins_of}
use Rattle.bench.specs.Level.{level_words}
use Rattle.bench.specs.Spans.{LevelsFit}
use Rattle.bench.proofs.LevelsStarted.{levels_more, levels_none}
use Rattle.bench.proofs.LevelsSwept.{first_level, later_fit, visit_room, within}
use Rattle.bench.proofs.start.+start_levels.Goals as goal

pub returns-in_default : goal.returns-in_default
returns-in_default g t c = levels_none g.S.Suite.suite c.args.lines.now c.args.words.now (search rules)

pub split_at-requires : goal.split_at-requires
split_at-requires g t c =
    let es = c.args.lines.now in
    let x = c.in-Some.first.now in
    let is : x ≡ get_or es 0 x = search rules in
    let some : 0 < length es = search rules in
    (within es x is (length c.args.words.now) some c.requires).lines

pub split_at_mut-words-requires : goal.split_at_mut-words-requires
split_at_mut-words-requires g t c =
    let es = c.args.lines.now in
    let x = c.in-Some.first.now in
    let is : x ≡ get_or es 0 x = search rules in
    let some : 0 < length es = search rules in
    (within es x is (length c.args.words.now) some c.requires).words

pub start_level-requires : goal.start_level-requires
start_level-requires g t c =
    let es = c.args.lines.now in
    let x = c.in-Some.first.now in
    let is : x ≡ get_or es 0 x = search rules in
    let some : 0 < length es = search rules in
    subst (λ n. level_words n (kins_of c.split_at.result.0.now) ≤ length c.split_at_mut-words.result.0.now) (sym c.sets-sets.ensures)
    (subst₂ (λ zs vs. level_words (2 ^ x.geometry.set_bits) (kins_of zs) ≤ length vs) (sym c.split_at.ensures.front) (sym c.split_at_mut-words.ensures.front) (visit_room es x is c.args.words.now some c.requires))

pub start_levels-requires : goal.start_levels-requires
start_levels-requires g t c κs below =
    let es = c.args.lines.now in
    let x = c.in-Some.first.now in
    let is : x ≡ get_or es 0 x = search rules in
    let some : 0 < length es = search rules in
    let W = within es x is (length c.args.words.now) some c.requires in
    let fit = subst₂ (λ zs vs. LevelsFit zs (length vs)) (sym c.split_at.ensures.back) (sym c.split_at_mut-words.ensures.back) (later_fit es x is c.args.words.now some c.requires) in
    let falls : length c.split_at.result.1.now < length es = omega (arith, c.split_at.ensures.back_len, W.some, W.lines) in
    (search rules, (search rules, fit))

pub returns : goal.returns
returns g t c b ls sp =
    let es = c.args.lines.now in
    let x = c.in-Some.first.now in
    let is : x ≡ get_or es 0 x = search rules in
    let some : 0 < length es = search rules in
    let L = c.split_at.ensures in
    let V = c.split_at_mut-words.ensures in
    let here = rw (L.front, V.front) at c.start_level.ensures in
    let later = rw (L.back, V.back) at c.start_levels.ensures in
    levels_more g.S.Suite.suite es (first_level b ls es x is some sp) c.sets-sets.result c.args.words.now _ _ c.sets-sets.ensures here later
