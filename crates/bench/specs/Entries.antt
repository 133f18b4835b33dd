-- Lines with their misses, and how misses are counted.
use Rattle.std.specs.Prelude.{ℕ, ◌+◌, min, Bool, cond, List, [], ◌∷◌, map, slice_index, slice_set}
use Rattle.policy.specs.declared.three.Member.{Member}
use Rattle.bench.specs.Words.{Kin}

-- one miss more of a kind, unless it is a hit; a count stops at 4,294,967,295, which no run reaches
abbrev pub counted : ℕ → Bool → List ℕ → List ℕ
counted kind hit misses = cond hit misses (slice_set misses kind (min (slice_index misses kind + 1) 4294967295))

-- the comparisons stop at 2 ^ 64 - 1, which no run reaches
abbrev pub capped : ℕ → ℕ
capped n = min n 18446744073709551615

-- the misses of lines of which these hit
abbrev pub all_counted : ℕ → List Bool → List (List ℕ) → List (List ℕ)
all_counted kind [] ms = ms
all_counted kind (h ∷ hs) [] = []
all_counted kind (h ∷ hs) (m ∷ ms) = counted kind h m ∷ all_counted kind hs ms

-- A line of a level with its misses, by kind.
pub record Entry : Type 0 where
  pub member : Member
  pub ways : ℕ
  pub misses : List ℕ

-- the policies and the ways of lines
abbrev pub kin_of : List Entry → List Kin
kin_of es = map (λ x. record { member = x.member; ways = x.ways }) es

-- the misses of each line, by kind
abbrev pub misses_of : List Entry → List (List ℕ)
misses_of es = map (λ x. x.misses) es

-- lines of these policies and ways, with these misses
abbrev pub entries : List Kin → List (List ℕ) → List Entry
entries [] ms = []
entries (k ∷ ks) [] = []
entries (k ∷ ks) (m ∷ ms) = record { member = k.member; ways = k.ways; misses = m } ∷ entries ks ms
