use Rattle.std.proofs.Common.{◌≡◌, ◌∙◌, arith, rules}
use Rattle.policy.specs.Stack.{fifo, touched_row}
use Rattle.policy.specs.StackRow.{admitted}
use Rattle.policy.proofs.StackTouch.{lru_miss_row}
use Rattle.policy.proofs.stack.admit.Goals as goal

pub returns : goal.returns
returns c =
    let r = c.args.row.now in
    let row : c.move_front.new.row ≡ touched_row fifo r c.args.tag = c.move_front.ensures ∙ admitted r c.args.tag c.min-last.result c.count_of.result (search rules) (search rules) (search rules) (omega arith) in
    record { fifo = row; lru = row ∙ lru_miss_row r c.args.tag (search rules) }
