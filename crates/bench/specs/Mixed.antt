-- The sweep at one set of a level: the rows of all its wider lines, by letter and then by ways.
use Rattle.std.specs.Prelude.{ℕ, ◌+◌, Bool, cond, List, [], ◌∷◌, None, Option}
use Rattle.policy.specs.declared.three.Member.{Member}
use Rattle.policy.specs.declared.three.Member.TheVariants.{First, Second, Further}
use Rattle.policy.specs.Suite.{Suite, meaning, nesting, nest, same}
use Rattle.bench.specs.Rows.{Slot, Lead, Stepped, step, step_alone}

-- A row, and whose it is.
pub record Owned : Type 0 where
  pub member : Member
  pub slot : Slot

-- what the nearest wider leader of each nesting policy did
pub record Leads : Type 0 where
  pub first : Option Lead
  pub second : Option Lead

-- before the widest rows
abbrev pub no_leads : Leads
no_leads = record { first = None; second = None }

-- the leader of a policy; the further one has none
abbrev pub lead_of : Leads → Member → Option Lead
lead_of l First = l.first
lead_of l Second = l.second
lead_of l Further = None

-- with another leader of a policy
abbrev pub with_lead : Leads → Member → Option Lead → Leads
with_lead l First x = record { first = x; second = l.second }
with_lead l Second x = record { first = l.first; second = x }
with_lead l Further x = l

-- the step of a row by its own policy
abbrev pub own_step : Suite → Owned → ℕ → Leads → Stepped
own_step s x t l = cond (nesting x.member) (step (meaning s x.member) (nest s x.member) x.slot t (lead_of l x.member)) (step_alone (meaning s x.member) x.slot t None)

-- What the sweep makes of all rows.
pub record SweptAll : Type 0 where
  pub rows : List Owned
  pub hits : List Bool
  pub comparisons : ℕ
  pub leads : Leads

-- one row after the wider ones
abbrev pub one_more : Owned → Stepped → SweptAll → SweptAll
one_more x r w = record {
  rows = record { member = x.member; slot = r.slot } ∷ w.rows;
  hits = r.hit ∷ w.hits;
  comparisons = r.comparisons + w.comparisons;
  leads = with_lead w.leads x.member r.lead;
}

-- the widest line of each policy first
abbrev pub sweep_all : (Owned → ℕ → Leads → Stepped) → List Owned → ℕ → SweptAll
sweep_all f [] t = record { rows = []; hits = []; comparisons = 0; leads = no_leads }
sweep_all f (x ∷ xs) t = one_more x (f x t (sweep_all f xs t).leads) (sweep_all f xs t)

-- the rows of one policy
abbrev pub rows_of : Member → List Owned → List Slot
rows_of k [] = []
rows_of k (x ∷ xs) = cond (same k x.member) (x.slot ∷ rows_of k xs) (rows_of k xs)
