-- What the reference model answers to a cached access: which lines hit.
use Rattle.std.specs.Prelude.{ℕ, Bool, List, [], ◌∷◌, ◌++◌, map}
use Rattle.standalone.specs.Cache.{touch_of}
use Rattle.standalone.specs.declared.access.Access.{Access}
use Rattle.policy.specs.Suite.{Suite, meaning}
use Rattle.bench.specs.Model.{FamilyModel, LevelModel, LineModel}

-- whether the cache of a line, in a level of so many sets and block size b, hits
abbrev pub line_hit : Suite → ℕ → ℕ → Access → LineModel → Bool
line_hit s b sets x l = (touch_of (meaning s l.kin.member) b sets l.cache.rows x).hit

-- of the lines of levels
abbrev pub level_answers : Suite → ℕ → Access → List LevelModel → List Bool
level_answers s b x [] = []
level_answers s b x (l ∷ ls) = map (line_hit s b l.sets x) l.lines ++ level_answers s b x ls

-- of all lines, in the order of the table
abbrev pub answers : Suite → Access → List FamilyModel → List Bool
answers s x [] = []
answers s x (f ∷ fs) = level_answers s f.block x f.levels ++ answers s x fs
