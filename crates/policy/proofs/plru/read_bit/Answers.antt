-- The mask 1 gives the remainder by 2.
use lib.Bits.{and_mask}
use Rattle.std.proofs.Common.{◌/◌, ◌^◌}
use Rattle.policy.proofs.plru.read_bit.Goals as goal

pub returns : goal.returns
returns c = and_mask (c.args.word / 2 ^ c.args.at) 1
