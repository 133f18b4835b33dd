-- The mask clears the bit, and the shifted value fills it.
use Rattle.std.proofs.lemmas.Nat.{one_shl, shl_whole}
use Rattle.std.proofs.Common.{arith}
use Rattle.policy.specs.Bits.{and_not_or}
use Rattle.policy.proofs.plru.write_bit.Goals as goal

pub returns : goal.returns
returns c =
    let p = c.requires in
    simp (one_shl c.args.at 32 p.0, shl_whole c.args.value 1 c.args.at 32 p.1 (omega arith))
    (and_not_or c.args.word c.args.value c.args.at p.0 (omega arith) p.1)
