use Rattle.std.proofs.Common.{◌≡◌, ◌+◌, ◌-◌, ◌∷◌, length, take, drop, set, ap, ◌∙◌, arith, rules}
use Rattle.std.proofs.lemmas.List.{length-set, length-take, length-drop}
use Rattle.policy.specs.Suite.{meaning, nest}
use Rattle.bench.proofs.RowWords.{row_left}
use Rattle.bench.proofs.row.leave_leader.Goals as goal

pub returns-clause-words : goal.returns-clause-words
returns-clause-words g c =
    let m = meaning g.S.Suite.suite c.args.member in
    let e = nest g.S.Suite.suite c.args.member in
    let ws = c.args.words.now in
    let wide = c.args.leader.now.before.items in
    let n : length (take (length (set ws 0 0) - 1) (drop 1 (set ws 0 0))) ≡ length ws - 2 + 1 = simp (length-take, length-drop, length-set) (omega arith) in
    let same : c.deref.result.now ≡ wide = search rules in
    row_left ws c.touch-leader.new.row (omega arith)
    ∙ ap (λ r. 0 ∷ r) (c.touch-leader.ensures.row ∙ ap (λ r. (m.touch r c.args.tag).row) (c.truncate.ensures ∙ ap (e.truncate _) same ∙ ap (λ k. e.truncate k wide) n))
