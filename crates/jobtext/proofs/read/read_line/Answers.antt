use Rattle.jobtext.proofs.Canonical.{one_text}
use Rattle.jobtext.proofs.read.read_line.Goals as goal

pub returns-clause-apart : goal.returns-clause-apart
returns-clause-apart c = one_text c.args.text.now _
