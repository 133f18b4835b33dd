-- The sweep at one set: the rows of one policy at one level, listed from narrow to wide and touched from wide to narrow.
use Rattle.std.specs.Prelude.{ℕ, ◌+◌, Bool, true, false, cond, List, [], ◌∷◌, Some, None, Option, ◌==◌, nat_le}
use Rattle.policy.specs.Policy.{Meaning}
use Rattle.policy.specs.Nesting.{Nest}

-- A row in one set.
pub record Slot : Type 0 where
  pub ways : ℕ
  -- the lead word
  pub lead : ℕ
  pub row : List ℕ

-- a lead word 0 says that the row leads; else it follows: its residents are the first of the next wider row that leads
abbrev pub leads : Slot → Bool
leads x = x.lead == 0

-- What the nearest wider leader did in this sweep.
pub record Lead : Type 0 where
  pub hit : Bool
  -- its comparisons: on a hit the tag's place
  pub place : ℕ
  -- its row before the touch
  pub before : List ℕ

-- What the sweep makes of a row.
pub record Stepped : Type 0 where
  pub slot : Slot
  pub hit : Bool
  -- the comparisons that are reported: those of a row that led before
  pub comparisons : ℕ
  -- the nearest leader of a narrower row
  pub lead : Option Lead

-- a leader is touched
abbrev pub touch_leader : Meaning → Slot → ℕ → Stepped
touch_leader m x t = record {
  slot = record { ways = x.ways; lead = x.lead; row = (m.touch x.row t).row };
  hit = (m.touch x.row t).hit;
  comparisons = (m.touch x.row t).comparisons;
  lead = Some (record { hit = (m.touch x.row t).hit; place = (m.touch x.row t).comparisons; before = x.row });
}

-- a follower that stays hits or misses as its leader tells
abbrev pub stay : Slot → Bool → Option Lead → Stepped
stay x hit lead = record { slot = x; hit = hit; comparisons = 0; lead = lead }

-- a follower that leaves is truncated from the leader's row as it was before, touched, and leads from now on: a leader that missed
abbrev pub leave : Meaning → Nest → Slot → ℕ → Lead → Stepped
leave m e x t l = record {
  slot = record { ways = x.ways; lead = 0; row = (m.touch (e.truncate (x.ways + 1) l.before) t).row };
  hit = false;
  comparisons = 0;
  lead = Some (record { hit = false; place = 0; before = [] });
}

-- a follower stays, unless its leader hit beyond its ways and the policy does not keep nesting
abbrev pub step_follower : Meaning → Nest → Slot → ℕ → Option Lead → Stepped
step_follower m e x t None = stay x false None
step_follower m e x t (Some l) =
    cond l.hit
    (cond (nat_le l.place x.ways) (stay x true (Some l))
    (cond e.keeps (stay x false (Some l)) (leave m e x t l)))
    (stay x false (Some l))

-- the step of a row: a leader is touched, a follower reads off its leader
abbrev pub step : Meaning → Nest → Slot → ℕ → Option Lead → Stepped
step m e x t lead = cond (leads x) (touch_leader m x t) (step_follower m e x t lead)

-- a row of the further policy always leads, and tells nothing
abbrev pub step_alone : Meaning → Slot → ℕ → Option Lead → Stepped
step_alone m x t lead = record {
  slot = record { ways = x.ways; lead = x.lead; row = (m.touch x.row t).row };
  hit = (m.touch x.row t).hit;
  comparisons = (m.touch x.row t).comparisons;
  lead = lead;
}

-- What the sweep makes of all rows.
pub record Swept : Type 0 where
  pub slots : List Slot
  pub hits : List Bool
  pub comparisons : ℕ
  pub lead : Option Lead

-- one row after the wider ones
abbrev pub swept_more : Stepped → Swept → Swept
swept_more r w = record { slots = r.slot ∷ w.slots; hits = r.hit ∷ w.hits; comparisons = r.comparisons + w.comparisons; lead = r.lead }

-- the widest row first
abbrev pub sweep : (Slot → ℕ → Option Lead → Stepped) → List Slot → ℕ → Swept
sweep f [] t = record { slots = []; hits = []; comparisons = 0; lead = None }
sweep f (x ∷ xs) t = swept_more (f x t (sweep f xs t).lead) (sweep f xs t)
