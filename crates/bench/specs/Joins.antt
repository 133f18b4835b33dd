-- A line put before others: whether it joins the level and the block size of the first of them.
use Rattle.std.specs.Prelude.{◌≡◌, ℕ, ◌+◌, ◌*◌, ◌^◌, Bool, true, cond, ◌&&◌, List, [], ◌∷◌, ◌==◌}
use Rattle.geometry.specs.declared.geometry.Geometry.{Geometry}
use Rattle.bench.specs.Words.{row_words}
use Rattle.bench.specs.declared.open_line.OpenLine.{OpenLine}
use Rattle.bench.specs.declared.open_line.Span.{Span}

-- the words of a line's rows, and with those of a level's direct-mapped cache
abbrev pub rows : Geometry → ℕ
rows g = row_words (2 ^ g.set_bits) (record { member = g.member; ways = g.ways })

abbrev pub whole : Geometry → ℕ
whole g = 2 * 2 ^ g.set_bits + rows g

-- the same block size, and the same level
abbrev pub joins_family : Geometry → OpenLine → Bool
joins_family g y = g.block_bits == y.geometry.block_bits

abbrev pub joins_level : Geometry → OpenLine → Bool
joins_level g y = joins_family g y && g.set_bits == y.geometry.set_bits

-- the spans of the line, and the words that it adds
pub record Joins (g : Geometry) (y : OpenLine) (level family : Span) (words : ℕ) : Type 0 where
  pub adds : words ≡ cond (joins_level g y) (rows g) (whole g)
  pub level_lines : level.lines ≡ cond (joins_level g y) (y.level.lines + 1) 1
  pub level_words : level.words ≡ cond (joins_level g y) (y.level.words + rows g) (whole g)
  pub family_lines : family.lines ≡ cond (joins_family g y) (y.family.lines + 1) 1
  pub family_words : family.words ≡ cond (joins_family g y) (y.family.words + words) (whole g)

-- the words that a line adds to those of the lines after it
abbrev pub added : Geometry → OpenLine → ℕ
added g y = cond (joins_level g y) (rows g) (whole g)

-- whether a line has the spans that it must have before the lines xs
abbrev pub placed : OpenLine → List OpenLine → Bool
placed x [] =
    (x.level.lines == 1) && (x.level.words == whole x.geometry
    && (x.family.lines == 1 && x.family.words == whole x.geometry))
placed x (y ∷ ys) =
    (x.level.lines == cond (joins_level x.geometry y) (y.level.lines + 1) 1)
    && (x.level.words == cond (joins_level x.geometry y) (y.level.words + rows x.geometry) (whole x.geometry)
    && (x.family.lines == cond (joins_family x.geometry y) (y.family.lines + 1) 1
    && x.family.words == cond (joins_family x.geometry y) (y.family.words + added x.geometry y) (whole x.geometry)))

-- and whether all lines have
abbrev pub linked : List OpenLine → Bool
linked [] = true
linked (x ∷ xs) = placed x xs && linked xs
