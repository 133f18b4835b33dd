use Rattle.std.proofs.Common.{◌≡◌, ◌^◌, ◌<◌, ◌≤◌, ◌++◌, length, get_or, sym, ap, refl, ◌∙◌, subst, subst₂, arith, rules}
use Rattle.geometry.specs.Kind.{kind_number}
use Rattle.bench.specs.Mixed.{own_step}
use Rattle.bench.specs.OpenLines.{kins_of}
use Rattle.bench.specs.Level.{level_words}
use Rattle.bench.specs.Spans.{LevelsFit}
use Rattle.bench.proofs.DoneParts.{done_same}
use Rattle.bench.proofs.LevelsSwept.{first_level, later_fit, levels_go, levels_stop, none_swept, visit_room, within}
use Rattle.bench.proofs.sweep.Sweep.+levels.Goals as goal

pub returns-in_default : goal.returns-in_default
returns-in_default g t c = none_swept (own_step g.S.Suite.suite) c.args.self.now.access.address (kind_number c.args.self.now.access.kind) c.args.lines.now c.args.misses.now c.args.words.now (search rules)

pub split_at-requires : goal.split_at-requires
split_at-requires g t c =
    let es = c.args.lines.now in
    let x = c.in-Some.first.now in
    let is : x ≡ get_or es 0 x = search rules in
    let some : 0 < length es = search rules in
    (within es x is (length c.args.words.now) some c.requires.fit).lines

pub split_at_mut-words-requires : goal.split_at_mut-words-requires
split_at_mut-words-requires g t c =
    let es = c.args.lines.now in
    let x = c.in-Some.first.now in
    let is : x ≡ get_or es 0 x = search rules in
    let some : 0 < length es = search rules in
    (within es x is (length c.args.words.now) some c.requires.fit).words

pub level-hit-requires-clause-room : goal.level-hit-requires-clause-room
level-hit-requires-clause-room g t c =
    let es = c.args.lines.now in
    let x = c.in-Some.first.now in
    let is : x ≡ get_or es 0 x = search rules in
    let some : 0 < length es = search rules in
    subst (λ n. level_words n (kins_of c.split_at.result.0.now) ≤ length c.split_at_mut-words.result.0.now) (sym c.of-place.ensures.sets)
    (subst₂ (λ zs vs. level_words (2 ^ x.geometry.set_bits) (kins_of zs) ≤ length vs) (sym c.split_at.ensures.front) (sym c.split_at_mut-words.ensures.front) (visit_room es x is c.args.words.now some c.requires.fit))

pub levels-requires : goal.levels-requires
levels-requires g t c κs below =
    let es = c.args.lines.now in
    let x = c.in-Some.first.now in
    let is : x ≡ get_or es 0 x = search rules in
    let some : 0 < length es = search rules in
    let W = within es x is (length c.args.words.now) some c.requires.fit in
    let fit = subst₂ (λ zs vs. LevelsFit zs (length vs)) (sym c.split_at.ensures.back) (sym c.split_at_mut-words.ensures.back) (later_fit es x is c.args.words.now some c.requires.fit) in
    let falls : length c.split_at.result.1.now < length es = omega (arith, c.split_at.ensures.back_len, W.some, W.lines) in
    (search rules, (search rules, (fit, omega (arith, c.requires.long, c.split_at.ensures.back_len, c.split_at_mut-misses.ensures.back_len))))

pub returns-then-hit : goal.returns-then-hit
returns-then-hit g t c b ls sp =
    let es = c.args.lines.now in
    let x = c.in-Some.first.now in
    let is : x ≡ get_or es 0 x = search rules in
    let some : 0 < length es = search rules in
    let A = c.args.self.now.access in
    let L = c.split_at.ensures in
    let M = c.split_at_mut-misses.ensures in
    let V = c.split_at_mut-words.ensures in
    let P = c.of-place.ensures in
    let visited = rw (L.front, V.front, M.front, P.kind) at c.level-hit.ensures.visited in
    let hit = rw V.front at c.level-hit.ensures.hit in
    done_same (ap (λ ns. c.level-hit.new.misses ++ ns) M.back) (ap (λ vs. c.level-hit.new.words ++ vs) V.back) refl
    (levels_stop (own_step g.S.Suite.suite) A.address (kind_number A.kind) es (first_level b ls es x is some sp) c.args.misses.now c.requires.long c.args.words.now c.of-place.result P.sets P.set P.tag visited (sym hit ∙ c.if-hit.true))

pub returns : goal.returns
returns g t c b ls sp =
    let es = c.args.lines.now in
    let x = c.in-Some.first.now in
    let is : x ≡ get_or es 0 x = search rules in
    let some : 0 < length es = search rules in
    let A = c.args.self.now.access in
    let L = c.split_at.ensures in
    let M = c.split_at_mut-misses.ensures in
    let V = c.split_at_mut-words.ensures in
    let P = c.of-place.ensures in
    let visited = rw (L.front, V.front, M.front, P.kind) at c.level-hit.ensures.visited in
    let hit = rw V.front at c.level-hit.ensures.hit in
    let later = rw (L.back, V.back, M.back) at c.levels.ensures in
    done_same refl refl c.saturating_add.ensures
    (levels_go (own_step g.S.Suite.suite) A.address (kind_number A.kind) es (first_level b ls es x is some sp) c.args.misses.now c.requires.long c.args.words.now c.of-place.result P.sets P.set P.tag visited (sym hit ∙ c.if-hit.false) later)
