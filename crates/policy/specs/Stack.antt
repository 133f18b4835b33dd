-- FIFO and LRU: what each does to the list of residents, and the words of a row.
use Rattle.std.specs.Prelude.{◌≡◌, ℕ, ◌-◌, ◌^◌, ◌<◌, ◌≤◌, min, Bool, true, false, cond, ◌&&◌, List, [], ◌∷◌, ◌++◌, length, take, drop, replicate, ◌==◌, nat_le}
use Rattle.std.specs.List.{AllByRecursion}
use Rattle.policy.specs.Search.{member, place, Distinct}
use Rattle.policy.specs.Policy.{Meaning, Touched}
use Rattle.policy.specs.Nesting.{Nest}

-- the other residents, in their order
abbrev pub without : ℕ → List ℕ → List ℕ
without t [] = []
without t (x ∷ xs) = cond (t == x) xs (x ∷ without t xs)

-- FIFO: a miss puts the tag in front and drops what stands beyond the ways; a hit changes nothing
abbrev pub fifo : ℕ → List ℕ → ℕ → List ℕ
fifo a rs t = cond (member t rs) rs (take a (t ∷ rs))

-- LRU: a hit moves the tag to the front, a miss acts as in FIFO
abbrev pub lru : ℕ → List ℕ → ℕ → List ℕ
lru a rs t = cond (member t rs) (t ∷ without t rs) (take a (t ∷ rs))

-- the words of a row of a ways with these residents: their number, the residents in order, zeros
abbrev pub layout : ℕ → List ℕ → List ℕ
layout a rs = length rs ∷ (rs ++ replicate (a - length rs) 0)

-- the ways of a row of any length: the words after the head word, as far as that can count them
abbrev pub ways_of : List ℕ → ℕ
ways_of ws = min (length ws) 4294967295

-- the residents of any row: as many words as the head word says, or all
abbrev pub residents_of : List ℕ → List ℕ
residents_of [] = []
residents_of (h ∷ ws) = take h ws

-- a row with other residents; words after these stay
abbrev pub relaid : List ℕ → List ℕ → List ℕ
relaid ws rs = length rs ∷ (rs ++ drop (length rs) ws)

-- the row after a touch, by what the policy does to the residents; a row without words stays as it is
abbrev pub touched_row : (ℕ → List ℕ → ℕ → List ℕ) → List ℕ → ℕ → List ℕ
touched_row policy [] t = []
touched_row policy (h ∷ ws) t = relaid ws (policy (ways_of ws) (take h ws) t)

-- a touch of any row
abbrev pub touch_by : (ℕ → List ℕ → ℕ → List ℕ) → List ℕ → ℕ → Touched
touch_by policy r t = record {
  hit = member t (residents_of r);
  comparisons = place t (residents_of r);
  row = touched_row policy r t;
}

-- a row of m words with the first residents of a wide one
abbrev pub truncate_of : ℕ → List ℕ → List ℕ
truncate_of m wide = take m (layout (m - 1) (take (m - 1) (residents_of wide)))

-- a row that FIFO or LRU made: at most a distinct tags of 32 bits, laid out
pub record Stacked (a : ℕ) (r : List ℕ) : Type 0 where
  pub tags : List ℕ
  pub few : length tags ≤ a
  pub distinct : Distinct tags
  pub width : AllByRecursion (λ w. w < 2 ^ 32) tags
  pub laid : r ≡ layout a tags

-- 1 to 16 ways
abbrev pub one_to_sixteen : ℕ → Bool
one_to_sixteen a = nat_le 1 a && nat_le a 16

-- a policy on the list of residents
abbrev pub stack_meaning : ℕ → (ℕ → List ℕ → ℕ → List ℕ) → Meaning
stack_meaning letter policy = record {
  letter = letter;
  takes = one_to_sixteen;
  start = λ m. replicate m 0;
  touch = touch_by policy;
  residents = residents_of;
  Row = Stacked;
}

-- FIFO has the letter F
abbrev pub fifo_meaning : Meaning
fifo_meaning = stack_meaning 70 fifo

-- LRU has the letter L
abbrev pub lru_meaning : Meaning
lru_meaning = stack_meaning 76 lru

-- after a hit beyond its ways the narrow FIFO row has taken a tag that stays where it was in the wide one
abbrev pub fifo_nest : Nest
fifo_nest = record { truncate = truncate_of; keeps = false }

-- LRU moves the tag to the front of both
abbrev pub lru_nest : Nest
lru_nest = record { truncate = truncate_of; keeps = true }

-- On a row that is laid out, a touch is what the policy does to the residents.
abbrev pub OnLayout : (ℕ → List ℕ → ℕ → List ℕ) → Type 0
OnLayout policy = (a : ℕ) (rs : List ℕ) (t : ℕ) → length rs ≤ a → a < 2 ^ 32
    → touch_by policy (layout a rs) t ≡ record { hit = member t rs; comparisons = place t rs; row = layout a (policy a rs t) }
