use Rattle.std.proofs.Common.{◌∙◌, rules}
use Rattle.policy.proofs.StackTouch.{hit_room, lru_hit_row}
use Rattle.policy.proofs.stack.promote.Goals as goal

pub move_front-requires-clause-place : goal.move_front-requires-clause-place
move_front-requires-clause-place c = hit_room c.args.row.now c.args.tag c.args.at (search rules) (search rules)

pub returns : goal.returns
returns c = c.move_front.ensures ∙ lru_hit_row c.args.row.now c.args.tag c.args.at c.count_of-count.result (search rules) (search rules) (search rules)
