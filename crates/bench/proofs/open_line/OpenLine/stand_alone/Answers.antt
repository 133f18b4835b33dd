use Rattle.std.proofs.Common.{arith, rules}
use Rattle.bench.proofs.Sizes.{sets_most}
use Rattle.bench.proofs.open_line.OpenLine.stand_alone.Goals as goal

pub invariant_of-span : goal.invariant_of-span
invariant_of-span c =
    let most = sets_most c.args.self.now.geometry.set_bits (search rules) in
    record { small = omega (arith, most, c.sets.ensures, c.row_words.ensures.small) }
