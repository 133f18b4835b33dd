-- One level up, with the bounds of the parent.
use Rattle.std.proofs.Common.{◌+◌, ◌-◌, ◌/◌, sym, ◌∙◌, arith, pow_pos}
use Rattle.policy.specs.Tree.{away_word_more, level_lt, level_up}
use Rattle.policy.proofs.plru.point_away.Goals as goal

pub overflow_sub-parent : goal.overflow_sub-parent
overflow_sub-parent c =
    let up = level_up c.args.depth c.loop.counter c.loop.node c.loop-test.true c.loop.invariant.0 in
    omega (arith, pow_pos (c.args.depth - (c.loop.counter + 1)))

pub write_bit-head-requires : goal.write_bit-head-requires
write_bit-head-requires c =
    let up = level_up c.args.depth c.loop.counter c.loop.node c.loop-test.true c.loop.invariant.0 in
    let low = level_lt (c.args.depth - (c.loop.counter + 1)) 4 (c.loop.node / 2) up (omega arith) in
    omega arith

pub loop-preserved : goal.loop-preserved
loop-preserved c =
    let up = level_up c.args.depth c.loop.counter c.loop.node c.loop-test.true c.loop.invariant.0 in
    let step = away_word_more c.loop.head c.args.depth c.loop.counter c.loop.node c.loop-test.true in
    (up, simp (c.write_bit-head.ensures, c.away_from.ensures) (sym step ∙ c.loop.invariant.1))
