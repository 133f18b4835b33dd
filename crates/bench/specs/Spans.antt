-- How the lines of an open table tell where each level and each block size ends.
use Rattle.std.specs.Prelude.{◌≡◌, ℕ, ◌+◌, ◌*◌, ◌^◌, ◌<◌, ◌≤◌, true, List, [], ◌∷◌, map, length, take, drop}
use Rattle.bench.specs.OpenLines.{line_kin}
use Rattle.bench.specs.Joins.{linked}
use Rattle.bench.specs.Level.{level_words}
use Rattle.bench.specs.declared.open_line.OpenLine.{OpenLine}
use Rattle.bench.specs.Table.{Config, Family, Level, families, families_words, levels_words}

-- the line of the table that an open line is
abbrev pub config : OpenLine → Config
config x = record { member = x.geometry.member; block = 2 ^ x.geometry.block_bits; sets = 2 ^ x.geometry.set_bits; ways = x.geometry.ways }

-- the lines of a table that open lines are
abbrev pub configs : List OpenLine → List Config
configs es = map config es

-- the first of the lines xs is the first of level l, at block size b
pub record LevelSpan (b : ℕ) (l : Level) (x : OpenLine) (xs : List OpenLine) : Type 0 where
  pub block : 2 ^ x.geometry.block_bits ≡ b
  pub sets : 2 ^ x.geometry.set_bits ≡ l.sets
  pub lines : x.level.lines ≡ length l.lines
  pub words : x.level.words ≡ level_words l.sets l.lines
  pub kin : map line_kin (take (length l.lines) xs) ≡ l.lines
  pub some : 0 < length l.lines

-- the lines of levels, one level after the other
abbrev pub SpansLevels : ℕ → List Level → List OpenLine → Type 0
SpansLevels b [] xs = xs ≡ []
SpansLevels b (l ∷ ls) [] = ⊥
SpansLevels b (l ∷ ls) (x ∷ xs) = LevelSpan b l x (x ∷ xs) × SpansLevels b ls (drop (length l.lines) (x ∷ xs))

-- how many lines levels have
abbrev pub levels_lines : List Level → ℕ
levels_lines [] = 0
levels_lines (l ∷ ls) = length l.lines + levels_lines ls

-- line x is the first of a block size
pub record FamilySpan (f : Family) (x : OpenLine) : Type 0 where
  pub block : 2 ^ x.geometry.block_bits ≡ f.block
  pub lines : x.family.lines ≡ levels_lines f.levels
  pub words : x.family.words ≡ levels_words f.levels
  pub some : 0 < levels_lines f.levels

-- the lines of a table, one block size after the other
abbrev pub SpansFamilies : List Family → List OpenLine → Type 0
SpansFamilies [] xs = xs ≡ []
SpansFamilies (f ∷ fs) [] = ⊥
SpansFamilies (f ∷ fs) (x ∷ xs) =
    FamilySpan f x
    × (SpansLevels f.block f.levels (take (levels_lines f.levels) (x ∷ xs))
    × SpansFamilies fs (drop (levels_lines f.levels) (x ∷ xs)))

-- lines of some levels of one block size, and room for their words
pub record LevelsFit (xs : List OpenLine) (room : ℕ) : Type 0 where
  pub block : ℕ
  pub levels : List Level
  pub spans : SpansLevels block levels xs
  pub fits : levels_words levels ≤ room

-- lines of some table, and room for their words
pub record FamiliesFit (xs : List OpenLine) (room : ℕ) : Type 0 where
  pub table : List Family
  pub spans : SpansFamilies table xs
  pub fits : families_words table ≤ room

-- lines before and after they are told where levels end, and the words that they need
pub record Linked (es es' : List OpenLine) (words : ℕ) : Type 0 where
  pub geometry : map (λ x. x.geometry) es' ≡ map (λ x. x.geometry) es
  pub spans : linked es' ≡ true
  pub need : words ≡ families_words (families (configs es'))
  pub small : words ≤ length es' * 327680
