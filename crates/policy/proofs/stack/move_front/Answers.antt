use Rattle.std.proofs.Common.{rules}
use Rattle.policy.specs.Shift.{promoted}
use Rattle.policy.proofs.stack.move_front.Goals as goal

pub returns : goal.returns
returns c = promoted c.args.row.now c.push_front.new.words c.args.last c.args.count c.args.tag (search rules) c.push_front.ensures
