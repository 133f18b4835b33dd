-- One level down, with the bounds of the node.
use Rattle.std.proofs.Common.{◌<◌, sym, ◌∙◌, arith}
use Rattle.policy.specs.Tree.{follow_more, level_child, level_lt}
use Rattle.policy.proofs.plru.victim_of.Goals as goal

pub read_bit-requires : goal.read_bit-requires
read_bit-requires c = omega (arith, level_lt c.loop.counter 4 c.loop.node c.loop.invariant.0 (omega arith))

pub loop-preserved : goal.loop-preserved
loop-preserved c =
    let bit : c.read_bit.result < 2 = omega arith in
    let step = follow_more c.args.head c.args.depth c.loop.counter c.loop.node c.loop-test.true c.loop.invariant.0 in (
      level_child c.loop.counter c.loop.node c.read_bit.result c.loop.invariant.0 bit,
      simp c.read_bit.ensures (sym step ∙ c.loop.invariant.1),
    )
