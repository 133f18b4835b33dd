use Rattle.std.proofs.Common.{◌≤◌, leb, ◌∷◌, length, ◌∙◌, arith}
use Rattle.std.proofs.lemmas.Bool.{le-leb}
use Rattle.geometry.specs.Refusal.{ask}
use Rattle.geometry.specs.Line.{line_questions}
use Rattle.geometry.proofs.Asked.{after_none, passes}
use Rattle.standalone.specs.Run.{need, access_questions}
use Rattle.standalone.proofs.Questions.{all_allowed}
use Rattle.standalone.proofs.Runs.{need_is}
use Rattle.standalone.proofs.cache.Cache.prepare.Goals as goal

pub returns : goal.returns
returns g c =
    let p = g.S.Suite.suite.three in
    let line = c.args.line.now in
    let xs = c.args.accesses.now in
    let checked = c.in_ok-geometry.ensures in
    let room : need line ≤ c.args.words = omega (arith, need_is p line c.in_ok-geometry.geometry checked.geometry) in
    let few : length xs ≤ 4294967295 = c.if-accesses.false in
    let accesses = c.in_ok-check_accesses.ensures in
    record {
      asked = after_none (line_questions p line) (ask 11 (leb (need line) c.args.words) ∷ ask 14 (leb (length xs) 4294967295) ∷ access_questions xs) checked.passes
          ∙ passes 11 (leb (need line) c.args.words) (ask 14 (leb (length xs) 4294967295) ∷ access_questions xs) (le-leb _ _ room)
          ∙ passes 14 (leb (length xs) 4294967295) (access_questions xs) (le-leb _ _ few)
          ∙ accesses;
      geometry = checked.geometry;
      room = room;
      few = few;
      allowed = all_allowed xs accesses;
    }
