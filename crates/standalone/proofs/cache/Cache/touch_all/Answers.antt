use Rattle.std.proofs.Common.{rules}
use Rattle.std.proofs.lemmas.Nat.{pow_pos}
use Rattle.geometry.specs.Kind.{kind_number}
use Rattle.standalone.proofs.Step.{going, misses_fit, hits_fit, compared_fit, tracks_more}
use Rattle.standalone.proofs.cache.Cache.touch_all.Goals as goal

pub add-requires : goal.add-requires
add-requires g c =
    let geometry = c.args.self.now.geometry in
    let G = going (g.met.S.Suite.lawful.laws geometry.member) c.requires.takes (pow_pos geometry.set_bits) c.requires.allowed c.requires.few c.loop-access-test.true c.loop-access.invariant in
    let kind = kind_number c.in-Ok.checked.kind in
    record { misses_fit = misses_fit G _ c.in-Ok.ensures kind; hits_fit = hits_fit G _ c.in-Ok.ensures kind }

pub overflow_add-comparisons : goal.overflow_add-comparisons
overflow_add-comparisons g c =
    let geometry = c.args.self.now.geometry in
    let G = going (g.met.S.Suite.lawful.laws geometry.member) c.requires.takes (pow_pos geometry.set_bits) c.requires.allowed c.requires.few c.loop-access-test.true c.loop-access.invariant in
    let fits = compared_fit G _ c.in-Ok.ensures c.touch-hit.result.1 c.touch-hit.ensures.comparisons in
    search rules

pub loop-access-preserved : goal.loop-access-preserved
loop-access-preserved g c =
    let geometry = c.args.self.now.geometry in
    let G = going (g.met.S.Suite.lawful.laws geometry.member) c.requires.takes (pow_pos geometry.set_bits) c.requires.allowed c.requires.few c.loop-access-test.true c.loop-access.invariant in
    tracks_more G _ c.in-Ok.ensures c.touch-hit.result.0 c.touch-hit.result.1 c.touch-hit.new.memory c.add.new.self
    c.touch-hit.ensures.hit c.touch-hit.ensures.comparisons c.touch-hit.ensures.row c.add.ensures.misses c.add.ensures.hits
