use Rattle.std.proofs.Common.{length, arith}
use Rattle.policy.specs.StackLaws.{copied}
use Rattle.policy.proofs.stack.copy_first.Goals as goal

pub returns-then-kept-gt0 : goal.returns-then-kept-gt0
returns-then-kept-gt0 c =
    copied c.args.wide.now c.fill.new.self c.copy_from_slice.new.self (length c.args.narrow.now) c.min-kept.result
    (c.fill.ensures.after (λ y e. e)) c.if-kept-gt0.true (omega arith) c.copy_from_slice.ensures.after
