use Rattle.std.proofs.Common.{rules, tests, ◌∙◌, sym}
use Rattle.std.proofs.lemmas.Iterator.{YieldsList-from_slice}
use Rattle.std.proofs.lemmas.Iterator.Search.{any_from_yields_List}
use Rattle.bench.specs.OpenLines.{wide_of}
use Rattle.bench.proofs.AnyOf.{any_listed}
use Rattle.bench.proofs.start.any_of.Goals as goal

pub returns : goal.returns
returns c = any_from_yields_List (wide_of c.args.member) _ _ c.any.result c.any.ensures.ran (YieldsList-from_slice c.args.lines.now cc) (λ x b q k. search (rules, tests)) ∙ sym (any_listed c.args.member c.args.lines.now)
