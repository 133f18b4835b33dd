use Rattle.std.proofs.Common.{[], ◌∷◌}
use Rattle.std.proofs.lemmas.Result.{err_from_is_err_and}
use Rattle.geometry.specs.Line.{line_questions}
use Rattle.geometry.specs.Refusal.{ask, refusal_number}
use Rattle.geometry.proofs.Asked.{after_some}
use Rattle.bench.specs.Opened.{in_order}
use Rattle.bench.proofs.lines.check_line.Goals as goal

-- a line that is refused
pub returns-in_err-geometry : goal.returns-in_err-geometry
returns-in_err-geometry g c =
    let p = g.S.Suite.suite.three in
    let out = err_from_is_err_and c.from_residual.result c.from_residual.ensures.1 in
    let line = c.args.line.now in
    record {
      passes = rw (out.1, out.2) (after_some (line_questions p line) (ask 10 (in_order c.args.last line) ∷ []) (refusal_number c.in_err-geometry.field-0.0) c.in_err-geometry.ensures.passes);
      geometry = rw out.1 tt;
    }
