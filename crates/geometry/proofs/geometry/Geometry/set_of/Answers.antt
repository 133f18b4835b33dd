use Rattle.std.proofs.Common.{rules, arith}
use Rattle.geometry.proofs.Powers.{set_low}
use Rattle.geometry.proofs.geometry.Geometry.set_of.Goals as goal

pub returns : goal.returns
returns c = set_low _ c.args.address c.args.self.now.block_bits c.args.self.now.set_bits (omega arith) (search rules)
