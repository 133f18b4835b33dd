use Rattle.std.proofs.Common.{◌≡◌, ◌+◌, ◌<◌, ◌∷◌, length, get_or, sym, ap, subst, arith, rules}
use Rattle.bench.specs.Joins.{Joins}
use Rattle.bench.specs.Spans.{Linked}
use Rattle.bench.proofs.LinkLines.{linked_more, spans_few}
use Rattle.bench.proofs.link.+link.Goals as goal

pub join-requires-clause-level_few : goal.join-requires-clause-level_few
join-requires-clause-level_few t c =
    let es = c.link-words.new.lines in
    let y = c.in-Some-first.next.now in
    let lines_are : c.args.lines.now ≡ c.in-Some.first.now ∷ c.in-Some.later.now = search rules in
    let next : y ≡ get_or es 0 y = search rules in
    let some : 0 < length es = search rules in
    (spans_few es y next some (omega (arith, c.requires, ap length lines_are, c.link-words.auto.lines)) c.link-words.ensures.spans).0

pub join-requires-clause-family_few : goal.join-requires-clause-family_few
join-requires-clause-family_few t c =
    let es = c.link-words.new.lines in
    let y = c.in-Some-first.next.now in
    let lines_are : c.args.lines.now ≡ c.in-Some.first.now ∷ c.in-Some.later.now = search rules in
    let next : y ≡ get_or es 0 y = search rules in
    let some : 0 < length es = search rules in
    (spans_few es y next some (omega (arith, c.requires, ap length lines_are, c.link-words.auto.lines)) c.link-words.ensures.spans).1

pub returns-in-Some-first : goal.returns-in-Some-first
returns-in-Some-first t c =
    let z = c.in-Some.first.now in
    let later = c.in-Some.later.now in
    let es = c.link-words.new.lines in
    let x = c.join.new.self in
    let y = c.in-Some-first.next.now in
    let E = c.join.ensures in
    let lines_are : c.args.lines.now ≡ z ∷ later = search rules in
    let next : y ≡ get_or es 0 y = search rules in
    let some : 0 < length es = search rules in
    let joins = subst (λ g. Joins g y x.level x.family c.join.result) (sym E.geometry) E.joins in
    subst (λ zs. Linked zs (x ∷ es) (c.link-words.result + c.join.result)) (sym lines_are)
    (linked_more (z ∷ later) es x y z c.link-words.result c.join.result (omega arith) some next E.geometry c.link-words.ensures joins E.small)
