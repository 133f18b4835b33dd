-- The answer of the search is the position of the first word that is the tag.
use Rattle.std.proofs.Common.{rules, ◌==◌, subst, sym, ◌∙◌, arith}
use Rattle.std.proofs.lemmas.Iterator.{YieldsList-from_slice}
use Rattle.std.proofs.lemmas.Iterator.Search.{position_from_yields_List}
use borrow.Author.Tests.{tests}
use Rattle.policy.proofs.Find.{Says, says}
use Rattle.policy.proofs.stack.find.Goals as goal

pub returns-in-Some : goal.returns-in-Some
returns-in-Some c =
    let t = c.args.tag in
    let ws = c.args.words.now in
    let at = position_from_yields_List (λ x. x == t) _ _ _ c.position.ensures.ran (YieldsList-from_slice ws cc) (λ x b q k. search (rules, tests)) in
    let says = subst (Says t ws 0) (sym at ∙ c.in-Some.is) (says t ws) in
    record { hit = sym says.0; comparisons = omega arith }

pub returns-in-None : goal.returns-in-None
returns-in-None c =
    let t = c.args.tag in
    let ws = c.args.words.now in
    let at = position_from_yields_List (λ x. x == t) _ _ _ c.position.ensures.ran (YieldsList-from_slice ws cc) (λ x b q k. search (rules, tests)) in
    let says = subst (Says t ws 0) (sym at ∙ c.in-None.is) (says t ws) in
    record { hit = sym says.0; comparisons = sym says.1 }
