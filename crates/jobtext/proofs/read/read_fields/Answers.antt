use Rattle.std.proofs.Common.{◌==◌, rules}
use Rattle.std.proofs.lemmas.List.Splits.{length-slice_split}
use Rattle.jobtext.proofs.read.read_fields.Goals as goal

pub returns-in_default : goal.returns-in_default
returns-in_default c = let n = length-slice_split (λ b. b == 44) c.args.rest.now in search rules
