-- Leads as the code keeps them.
use Rattle.std.specs.Prelude.{Some, None, Option}
use Rattle.bench.specs.Rows as rows
use Rattle.bench.specs.Mixed as mixed
use Rattle.bench.specs.declared.lead.Lead.{Lead}
use Rattle.bench.specs.declared.lead.Leads.{Leads}

-- what a leader did
abbrev pub lead_value : Lead → rows.Lead
lead_value l = record { hit = l.answer.0; place = l.answer.1; before = l.before.items }

-- none, where there is no leader
abbrev pub lead_seen : Option Lead → Option rows.Lead
lead_seen None = None
lead_seen (Some l) = Some (lead_value l)

-- of both nesting policies
abbrev pub leads_seen : Leads → mixed.Leads
leads_seen l = record { first = lead_seen l.first; second = lead_seen l.second }
