-- Swept rows beside the rows of the standalone caches, in one set.
use Rattle.std.specs.Prelude.{◌≡◌, ℕ, ◌+◌, ◌≤◌, Bool, true, false, cond, List, [], ◌∷◌, map, take, Some, None, Option}
use Rattle.std.specs.List.{AllByRecursion}
use Rattle.policy.specs.Policy.{Meaning}
use Rattle.bench.specs.Rows.{Slot, leads}

-- the narrowest row that leads
abbrev pub leader : List Slot → Option Slot
leader [] = None
leader (x ∷ xs) = cond (leads x) (Some x) (leader xs)

-- a leader has the residents of its standalone row
pub record Leading (m : Meaning) (x : Slot) (q : List ℕ) : Type 0 where
  pub made : m.Row x.ways x.row
  pub same : m.residents x.row ≡ m.residents q

-- the standalone row of a follower has the first residents of the nearest wider leader
pub record Follows (m : Meaning) (x : Slot) (xs : List Slot) (q : List ℕ) : Type 0 where
  pub of : Slot
  pub nearest : leader xs ≡ Some of
  pub first : m.residents q ≡ take x.ways (m.residents of.row)

-- a row beside its standalone row: the ways rise
pub record Beside (m : Meaning) (x : Slot) (xs : List Slot) (q : List ℕ) : Type 0 where
  pub takes : m.takes x.ways ≡ true
  pub made : m.Row x.ways q
  pub rising : AllByRecursion (λ y. x.ways ≤ y.ways) xs
  pub leading : leads x ≡ true → Leading m x q
  pub follows : leads x ≡ false → Follows m x xs q

-- all rows beside their standalone rows
abbrev pub AllBeside : Meaning → List Slot → List (List ℕ) → Type 0
AllBeside m [] [] = Unit {0}
AllBeside m [] (q ∷ qs) = ⊥
AllBeside m (x ∷ xs) [] = ⊥
AllBeside m (x ∷ xs) (q ∷ qs) = Beside m x xs q × AllBeside m xs qs

-- the standalone rows after a touch, what they answered, and their comparisons
abbrev pub rows_touched : Meaning → ℕ → List (List ℕ) → List (List ℕ)
rows_touched m t qs = map (λ q. (m.touch q t).row) qs

abbrev pub rows_hit : Meaning → ℕ → List (List ℕ) → List Bool
rows_hit m t qs = map (λ q. (m.touch q t).hit) qs

abbrev pub rows_compared : Meaning → ℕ → List (List ℕ) → ℕ
rows_compared m t [] = 0
rows_compared m t (q ∷ qs) = (m.touch q t).comparisons + rows_compared m t qs
