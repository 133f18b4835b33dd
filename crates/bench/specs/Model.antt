-- The reference model: what a bench means. Every line has a standalone cache, every level a direct-mapped one, and each
-- cached access touches them all.
use Rattle.std.specs.Prelude.{ℕ, ◌+◌, Bool, true, false, cond, List, [], ◌∷◌, ◌++◌, map, replicate, Some, None, Option, slice_index_or, slice_set}
use Rattle.geometry.specs.Address.{set_of, tag_of}
use Rattle.standalone.specs.Cache.{Cache, accessed, new_cache}
use Rattle.standalone.specs.declared.access.Access.{Access}
use Rattle.policy.specs.Suite.{Suite, meaning}
use Rattle.bench.specs.Table.{Family, Level}
use Rattle.bench.specs.Words.{Kin, one_way}

-- A direct-mapped cache.
pub record Direct : Type 0 where
  -- the tag last touched in each set, where there is one
  pub tags : List (Option ℕ)
  pub comparisons : ℕ

-- A line: its policy and ways, and its cache run alone.
pub record LineModel : Type 0 where
  pub kin : Kin
  pub cache : Cache

-- A level: its number of sets, its direct-mapped cache and its lines.
pub record LevelModel : Type 0 where
  pub sets : ℕ
  pub direct : Direct
  pub lines : List LineModel

-- The levels of one block size.
pub record FamilyModel : Type 0 where
  pub block : ℕ
  pub levels : List LevelModel

-- new caches
abbrev pub new_line : Suite → ℕ → Kin → LineModel
new_line s sets k = record { kin = k; cache = new_cache (meaning s k.member) sets k.ways }

abbrev pub new_direct : ℕ → Direct
new_direct sets = record { tags = replicate sets None; comparisons = 0 }

abbrev pub new_level : Suite → Level → LevelModel
new_level s l = record { sets = l.sets; direct = new_direct l.sets; lines = map (new_line s l.sets) l.lines }

abbrev pub new_family : Suite → Family → FamilyModel
new_family s f = record { block = f.block; levels = map (new_level s) f.levels }

-- one comparison, unless the set is empty
abbrev pub asked : Option ℕ → ℕ
asked None = 0
asked (Some t) = 1

-- an access at a direct-mapped cache, which then holds its tag
abbrev pub touch_direct : ℕ → ℕ → Access → Direct → Direct
touch_direct b s x d = record {
  tags = slice_set d.tags (set_of x.address b s) (Some (tag_of x.address b s));
  comparisons = d.comparisons + asked (slice_index_or d.tags (set_of x.address b s) None);
}

-- and at the cache of a line
abbrev pub touch_line : Suite → ℕ → ℕ → Access → LineModel → LineModel
touch_line s b sets x l = record { kin = l.kin; cache = accessed (meaning s l.kin.member) b sets l.cache x }

abbrev pub touch_level : Suite → ℕ → Access → LevelModel → LevelModel
touch_level s b x l = record { sets = l.sets; direct = touch_direct b l.sets x l.direct; lines = map (touch_line s b l.sets x) l.lines }

abbrev pub touch_family : Suite → Access → FamilyModel → FamilyModel
touch_family s x f = record { block = f.block; levels = map (touch_level s f.block x) f.levels }

-- what the caches are of, without what they hold
abbrev pub level_of : LevelModel → Level
level_of l = record { sets = l.sets; lines = map (λ x. x.kin) l.lines }

abbrev pub family_of : FamilyModel → Family
family_of f = record { block = f.block; levels = map level_of f.levels }

-- the caches of all lines, in the order of the table
abbrev pub level_caches : List LevelModel → List Cache
level_caches [] = []
level_caches (l ∷ ls) = map (λ x. x.cache) l.lines ++ level_caches ls

abbrev pub line_caches : List FamilyModel → List Cache
line_caches [] = []
line_caches (f ∷ fs) = level_caches f.levels ++ line_caches fs

-- whether a level has a line of one way, whose cache alone is as good as the direct-mapped one
abbrev pub single : List LineModel → Bool
single [] = false
single (l ∷ ls) = cond (one_way l.kin) true (single ls)

-- the comparisons of the separate caches: those of all lines, and of the direct-mapped caches of levels without a line of one way
abbrev pub lines_compared : List LineModel → ℕ
lines_compared [] = 0
lines_compared (l ∷ ls) = l.cache.comparisons + lines_compared ls

abbrev pub levels_compared : List LevelModel → ℕ
levels_compared [] = 0
levels_compared (l ∷ ls) = cond (single l.lines) 0 l.direct.comparisons + lines_compared l.lines + levels_compared ls

abbrev pub separate : List FamilyModel → ℕ
separate [] = 0
separate (f ∷ fs) = levels_compared f.levels + separate fs
