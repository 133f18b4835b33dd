-- The words that a start writes, over lines that tell where their levels end.
use Rattle.std.specs.Prelude.{◌≡◌, ℕ, Bool, cond, List, ◌∷◌, ◌++◌, drop, replicate}
use Rattle.policy.specs.declared.three.Member.{Member}
use Rattle.bench.specs.Spans.{SpansFamilies, SpansLevels}
use Rattle.bench.specs.Start.{started, started_levels}
use Rattle.policy.specs.Suite.{Suite, meaning}
use Rattle.bench.specs.Table.{Family, Level, families_words, levels_words}
use Rattle.bench.specs.declared.open_line.OpenLine.{OpenLine}

-- a row of n words after its lead word
abbrev pub new_row : Suite → Bool → Member → ℕ → List ℕ
new_row s follows k n = cond follows (1 ∷ replicate n 0) (0 ∷ (meaning s k).start n)

-- the levels of one block size; the words beyond stay
abbrev pub LevelsStarted : Suite → List OpenLine → List ℕ → List ℕ → Type 0
LevelsStarted s lines words words' = (b : ℕ) (ls : List Level) → SpansLevels b ls lines → words' ≡ started_levels s ls ++ drop (levels_words ls) words

-- all levels
abbrev pub FamiliesStarted : Suite → List OpenLine → List ℕ → List ℕ → Type 0
FamiliesStarted s lines words words' = (fs : List Family) → SpansFamilies fs lines → words' ≡ started s fs ++ drop (families_words fs) words
