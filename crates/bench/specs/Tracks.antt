-- The workspace's words beside the reference model's caches.
use Rattle.std.specs.Prelude.{◌≡◌, ℕ, ◌*◌, ◌<◌, cond, List, [], ◌∷◌, map, length, take, drop, Some, None, Option, slice_index_or}
use Rattle.policy.specs.Suite.{Suite}
use Rattle.bench.specs.Words.{Kin, one_way, rows_at, wide}
use Rattle.bench.specs.Level.{level_words}
use Rattle.bench.specs.Table.{levels_words}
use Rattle.bench.specs.Abreast.{AllAbreast}
use Rattle.bench.specs.Model.{FamilyModel, LevelModel, LineModel, level_of}

-- the words of a direct-mapped cache: for each set, whether it is filled, and its tag or 0
abbrev pub direct_layout : List (Option ℕ) → List ℕ
direct_layout [] = []
direct_layout (None ∷ ts) = 0 ∷ 0 ∷ direct_layout ts
direct_layout (Some t ∷ ts) = 1 ∷ t ∷ direct_layout ts

-- the standalone rows of set i, of the lines that have rows in the workspace
abbrev pub set_rows : ℕ → List LineModel → List (List ℕ)
set_rows i [] = []
set_rows i (l ∷ ls) = cond (one_way l.kin) (set_rows i ls) (slice_index_or l.cache.rows i [] ∷ set_rows i ls)

-- the policies and ways of a level's lines
abbrev pub kins : LevelModel → List Kin
kins l = (level_of l).lines

-- the words of a level: its direct-mapped cache, then in each set rows beside the standalone ones
pub record LevelTracks (s : Suite) (l : LevelModel) (ws : List ℕ) : Type 0 where
  pub whole : length ws ≡ level_words l.sets (kins l)
  pub direct : take (2 * l.sets) ws ≡ direct_layout l.direct.tags
  pub rows : (i : ℕ) → i < l.sets → AllAbreast s (rows_at l.sets i (wide (kins l)) (drop (2 * l.sets) ws)) (set_rows i l.lines)

-- level after level
abbrev pub LevelsTrack : Suite → List LevelModel → List ℕ → Type 0
LevelsTrack s [] ws = ws ≡ []
LevelsTrack s (l ∷ ls) ws = LevelTracks s l (take (level_words l.sets (kins l)) ws) × LevelsTrack s ls (drop (level_words l.sets (kins l)) ws)

-- block size after block size; words beyond are any
abbrev pub FamiliesTrack : Suite → List FamilyModel → List ℕ → Type 0
FamiliesTrack s [] ws = Unit {0}
FamiliesTrack s (f ∷ fs) ws = LevelsTrack s f.levels (take (levels_words (map level_of f.levels)) ws) × FamiliesTrack s fs (drop (levels_words (map level_of f.levels)) ws)
