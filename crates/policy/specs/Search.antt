-- A search through the residents of a row, from the first on.
use Rattle.std.specs.Prelude.{◌≡◌, ℕ, suc, Bool, false, cond, ◌||◌, List, [], ◌∷◌, ◌==◌}

-- whether a tag is resident
abbrev pub member : ℕ → List ℕ → Bool
member t [] = false
member t (x ∷ xs) = t == x || member t xs

-- how many residents a search for a tag is compared with: its place, from 1, or all of them where it is not resident
abbrev pub place : ℕ → List ℕ → ℕ
place t [] = 0
place t (x ∷ xs) = cond (t == x) 1 (suc (place t xs))

-- no tag stands twice
abbrev pub Distinct : List ℕ → Type 0
Distinct [] = Unit {0}
Distinct (x ∷ xs) = (member x xs ≡ false) × Distinct xs
