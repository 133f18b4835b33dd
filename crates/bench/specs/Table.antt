-- A table of lines: the levels that they name, and the words that they need.
use Rattle.std.specs.Prelude.{ℕ, ◌+◌, cond, List, [], ◌∷◌, Some, None, Option, ◌==◌}
use Rattle.policy.specs.Three.{Three, which}
use Rattle.policy.specs.declared.three.Member.{Member}
use Rattle.policy.specs.declared.three.Member.TheVariants.{First}
use Rattle.geometry.specs.declared.line.Line.{Line}
use Rattle.bench.specs.Level.{level_words}
use Rattle.bench.specs.Words.{Kin}

-- A line of an open table: the policy that its letter names, and its numbers.
pub record Config : Type 0 where
  pub member : Member
  pub block : ℕ
  pub sets : ℕ
  pub ways : ℕ

-- the policy of a letter; a letter that names none is refused, and the first is then never asked
abbrev pub named : Option Member → Member
named None = First
named (Some k) = k

-- a table line as the bench holds it
abbrev pub config_of : Three → Line → Config
config_of p line = record { member = named (which p line.letter); block = line.block; sets = line.sets; ways = line.ways }

-- the policy and the ways alone
abbrev pub kin : Config → Kin
kin c = record { member = c.member; ways = c.ways }

-- A level: the lines of one block size and one number of sets.
pub record Level : Type 0 where
  pub sets : ℕ
  pub lines : List Kin

-- The levels of one block size.
pub record Family : Type 0 where
  pub block : ℕ
  pub levels : List Level

-- a line with a level of its own
abbrev pub new_level : Config → Level
new_level c = record { sets = c.sets; lines = kin c ∷ [] }

-- a line before the levels of its block size: in the first one where that has its sets, and else in a new one
abbrev pub in_levels : Config → List Level → List Level
in_levels c [] = new_level c ∷ []
in_levels c (l ∷ ls) = cond (c.sets == l.sets) (record { sets = l.sets; lines = kin c ∷ l.lines } ∷ ls) (new_level c ∷ l ∷ ls)

-- a line with a block size of its own
abbrev pub new_family : Config → Family
new_family c = record { block = c.block; levels = new_level c ∷ [] }

-- a line before the others of its table
abbrev pub in_families : Config → List Family → List Family
in_families c [] = new_family c ∷ []
in_families c (f ∷ fs) = cond (c.block == f.block) (record { block = f.block; levels = in_levels c f.levels } ∷ fs) (new_family c ∷ f ∷ fs)

-- the lines of a table by block size, then by sets
abbrev pub families : List Config → List Family
families [] = []
families (c ∷ cs) = in_families c (families cs)

-- the words of the levels of one block size
abbrev pub levels_words : List Level → ℕ
levels_words [] = 0
levels_words (l ∷ ls) = level_words l.sets l.lines + levels_words ls

-- the words of all of them: what a table needs
abbrev pub families_words : List Family → ℕ
families_words [] = 0
families_words (f ∷ fs) = levels_words f.levels + families_words fs
