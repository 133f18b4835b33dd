use Rattle.bench.proofs.StartedRows.{row_leads}
use Rattle.bench.proofs.start.start_row.Goals as goal

pub returns-else-follows : goal.returns-else-follows
returns-else-follows g c =
    let s = g.S.Suite.suite in
    row_leads s c.args.follows c.args.member c.args.row.now c.start.new.row c.requires c.if-follows.false c.start.ensures
