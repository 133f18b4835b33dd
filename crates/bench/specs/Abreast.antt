-- The swept rows of one set, of all policies, beside the rows of the standalone caches.
use Rattle.std.specs.Prelude.{◌≡◌, ℕ, ◌+◌, Bool, true, false, List, [], ◌∷◌}
use Rattle.policy.specs.Suite.{Suite, meaning, nesting}
use Rattle.bench.specs.Mixed.{Owned, rows_of}
use Rattle.bench.specs.Beside.{Beside}

-- a row of the further policy is its standalone row
pub record Equal (s : Suite) (x : Owned) (q : List ℕ) : Type 0 where
  pub takes : (meaning s x.member).takes x.slot.ways ≡ true
  pub made : (meaning s x.member).Row x.slot.ways q
  pub same : x.slot.row ≡ q

-- a row beside its standalone row, where xs are the rows of the lines after it
pub record Abreast (s : Suite) (x : Owned) (xs : List Owned) (q : List ℕ) : Type 0 where
  pub nested : nesting x.member ≡ true → Beside (meaning s x.member) x.slot (rows_of x.member xs) q
  pub alone : nesting x.member ≡ false → Equal s x q

-- all rows beside theirs
abbrev pub AllAbreast : Suite → List Owned → List (List ℕ) → Type 0
AllAbreast s [] [] = Unit {0}
AllAbreast s [] (q ∷ qs) = ⊥
AllAbreast s (x ∷ xs) [] = ⊥
AllAbreast s (x ∷ xs) (q ∷ qs) = Abreast s x xs q × AllAbreast s xs qs

-- the standalone rows after a touch, each by the policy of the row beside it; what they answered, and their comparisons
abbrev pub rows_after : Suite → ℕ → List Owned → List (List ℕ) → List (List ℕ)
rows_after s t [] qs = []
rows_after s t (x ∷ xs) [] = []
rows_after s t (x ∷ xs) (q ∷ qs) = ((meaning s x.member).touch q t).row ∷ rows_after s t xs qs

abbrev pub hits_of : Suite → ℕ → List Owned → List (List ℕ) → List Bool
hits_of s t [] qs = []
hits_of s t (x ∷ xs) [] = []
hits_of s t (x ∷ xs) (q ∷ qs) = ((meaning s x.member).touch q t).hit ∷ hits_of s t xs qs

abbrev pub compared_of : Suite → ℕ → List Owned → List (List ℕ) → ℕ
compared_of s t [] qs = 0
compared_of s t (x ∷ xs) [] = 0
compared_of s t (x ∷ xs) (q ∷ qs) = ((meaning s x.member).touch q t).comparisons + compared_of s t xs qs
