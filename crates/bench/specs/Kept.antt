-- What holds in the reference model between calls, whatever was called before: each direct-mapped cache knows the tag that was
-- last touched in each set, and where it would hit, so would every cache of its block size with at least as many sets.
use Rattle.std.specs.Prelude.{◌≡◌, ℕ, ◌+◌, ◌*◌, ◌/◌, ◌%◌, ◌^◌, ◌<◌, true, List, [], ◌∷◌, length, Some, None, Option, slice_index_or}
use Rattle.std.specs.List.{AllByRecursion}
use Rattle.policy.specs.Policy.{Meaning}
use Rattle.policy.specs.Suite.{Suite, meaning}
use Rattle.bench.specs.Model.{FamilyModel, LevelModel, LineModel}

-- a row of a ways that was touched with tag t last
pub record TouchedWith (m : Meaning) (a t : ℕ) (r : List ℕ) : Type 0 where
  pub before : List ℕ
  pub made : m.Row a before
  pub tag : t < 2 ^ 32
  pub is : r ≡ (m.touch before t).row

-- a row that was touched with a tag last, or was never touched
abbrev pub Recent : Meaning → ℕ → Option ℕ → List ℕ → Type 0
Recent m a None r = r ≡ m.start (a + 1)
Recent m a (Some t) r = TouchedWith m a t r

-- the rows of a line agree with the tags that its level's direct-mapped cache holds
pub record LineKept (s : Suite) (sets : ℕ) (tags : List (Option ℕ)) (l : LineModel) : Type 0 where
  pub takes : (meaning s l.kin.member).takes l.kin.ways ≡ true
  pub rows : length l.cache.rows ≡ sets
  pub recent : (i : ℕ) → i < sets → Recent (meaning s l.kin.member) l.kin.ways (slice_index_or tags i None) (slice_index_or l.cache.rows i [])

-- a level whose lines do
pub record LevelKept (s : Suite) (l : LevelModel) : Type 0 where
  pub some : 0 < l.sets
  pub tags : length l.direct.tags ≡ l.sets
  pub lines : AllByRecursion (LineKept s l.sets l.direct.tags) l.lines

-- the direct-mapped cache of a level would hit block k
abbrev pub Holds : LevelModel → ℕ → Type 0
Holds l k = slice_index_or l.direct.tags (k % l.sets) None ≡ Some (k / l.sets)

-- a level of more sets would hit what this one would
pub record Includes (l larger : LevelModel) : Type 0 where
  pub more : l.sets < larger.sets
  pub factor : ℕ
  pub multiple : larger.sets ≡ l.sets * factor
  pub holds : (k : ℕ) → Holds l k → Holds larger k

-- the levels of one block size
abbrev pub LevelsKept : Suite → List LevelModel → Type 0
LevelsKept s [] = Unit {0}
LevelsKept s (l ∷ ls) = LevelKept s l × (AllByRecursion (Includes l) ls × LevelsKept s ls)

-- block sizes of which each is a multiple of those before
pub record Coarser (f larger : FamilyModel) : Type 0 where
  pub factor : ℕ
  pub multiple : larger.block ≡ f.block * factor

-- all levels
abbrev pub FamiliesKept : Suite → List FamilyModel → Type 0
FamiliesKept s [] = Unit {0}
FamiliesKept s (f ∷ fs) = (0 < f.block) × (LevelsKept s f.levels × (AllByRecursion (Coarser f) fs × FamiliesKept s fs))

-- an address whose block every direct-mapped cache would hit
abbrev pub HeldBy : ℕ → FamilyModel → Type 0
HeldBy address f = AllByRecursion (λ l. Holds l (address / f.block)) f.levels

-- the last cached access, if there is one, would hit everywhere
abbrev pub HeldLast : Option ℕ → List FamilyModel → Type 0
HeldLast last fs = (a : ℕ) → last ≡ Some a → AllByRecursion (HeldBy a) fs
