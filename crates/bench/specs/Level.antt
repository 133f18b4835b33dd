-- The sweep of one level: its direct-mapped cache first, and the rows of its lines only where that misses.
use Rattle.std.specs.Prelude.{◌≡◌, ℕ, ◌+◌, ◌*◌, Bool, true, cond, List, ◌++◌, map, take, drop}
use Rattle.bench.specs.Rows.{Stepped}
use Rattle.bench.specs.Mixed.{Leads, Owned}
use Rattle.bench.specs.Direct.{direct_after, direct_compared, direct_hit}
use Rattle.bench.specs.Entries.{Entry, all_counted, capped, kin_of, misses_of}
use Rattle.bench.specs.Group.{sweep_at}
use Rattle.bench.specs.Words.{Kin, lines_words, spread, wide, with_rows}

-- the words of a level: 2 a set for the direct-mapped cache, then the rows of its wider lines
abbrev pub level_words : ℕ → List Kin → ℕ
level_words s ks = 2 * s + lines_words s (wide ks)

-- What comes of an access at a level.
pub record Visited : Type 0 where
  pub words : List ℕ
  -- what each line did
  pub hits : List Bool
  pub comparisons : ℕ

-- a line that is skipped hits
abbrev pub all_hit : List Kin → List Bool
all_hit ks = map (λ _. true) ks

-- the direct-mapped cache hits: all lines do, and no row is looked at
abbrev pub hit_level : ℕ → List Kin → List ℕ → Visited
hit_level i ks ws = record { words = ws; hits = all_hit ks; comparisons = direct_compared ws i }

-- it misses and takes the tag, and the rows of the set are swept
abbrev pub miss_level : (Owned → ℕ → Leads → Stepped) → ℕ → ℕ → ℕ → List Kin → List ℕ → Visited
miss_level f s i t ks ws = record {
  words = take (2 * s) (direct_after ws i t) ++ with_rows s i (wide ks) (sweep_at f s i t (wide ks) (drop (2 * s) ws)).rows (drop (2 * s) ws);
  hits = spread ks (sweep_at f s i t (wide ks) (drop (2 * s) ws)).hits;
  comparisons = direct_compared ws i + (sweep_at f s i t (wide ks) (drop (2 * s) ws)).comparisons;
}

-- an access at a level: set i of s, with tag t
abbrev pub visit : (Owned → ℕ → Leads → Stepped) → ℕ → ℕ → ℕ → List Kin → List ℕ → Visited
visit f s i t ks ws = cond (direct_hit ws i t) (hit_level i ks ws) (miss_level f s i t ks ws)

-- misses and words before and after, and the comparisons, are as v says
pub record Done (v : Visited) (kind : ℕ) (ms ms' : List (List ℕ)) (words' : List ℕ) (comparisons : ℕ) : Type 0 where
  pub words : words' ≡ v.words
  pub misses : ms' ≡ all_counted kind v.hits ms
  pub compared : comparisons ≡ capped v.comparisons

-- the same of lines that keep their own misses
pub record LevelVisited (f : Owned → ℕ → Leads → Stepped) (s i t kind : ℕ) (lines : List Entry) (words : List ℕ) (lines' : List Entry) (words' : List ℕ) (comparisons : ℕ) : Type 0 where
  pub rows : words' ≡ (visit f s i t (kin_of lines) words).words
  pub misses : misses_of lines' ≡ all_counted kind (visit f s i t (kin_of lines) words).hits (misses_of lines)
  pub kin : kin_of lines' ≡ kin_of lines
  pub compared : comparisons ≡ capped (visit f s i t (kin_of lines) words).comparisons
