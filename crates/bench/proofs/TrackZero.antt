-- Caches without counts, as an open and a zero make them: they are as many as the lines of the table. What a zero leaves: rows and
-- tags, so that the words still stand beside the caches.
use Rattle.std.proofs.Common.{◌≡◌, ℕ, suc, ◌+◌, ◌*◌, cond, eqb, List, [], ◌∷◌, map, length, get_or, take, drop, sym, refl, ap, ◌∙◌, subst, ap₂, subst₂, arith}
use Rattle.std.specs.List.{AllByRecursion}
use Rattle.std.proofs.ByRecursion.{All-append, All-map, All-weaker}
use Rattle.std.proofs.lemmas.List.{length-append, length-map}
use Rattle.std.proofs.lemmas.Bool.{cond_both}
use Rattle.standalone.specs.Cache.{Cache}
use Rattle.policy.specs.Suite.{Suite}
use Rattle.bench.specs.Words.{Kin, one_way, rows_at, wide}
use Rattle.bench.specs.Level.{level_words}
use Rattle.bench.specs.Table.{Config, Family, Level, families, in_families, in_levels, levels_words}
use Rattle.bench.specs.Model.{FamilyModel, LevelModel, LineModel, family_of, level_caches, level_of, line_caches, new_family, new_level, new_line}
use Rattle.bench.specs.Calls.{zero_family, zero_level, zero_line}
use Rattle.bench.specs.State.{no_misses}
use Rattle.bench.specs.Abreast.{AllAbreast}
use Rattle.bench.specs.Kept.{Coarser, FamiliesKept, HeldBy, Includes, LevelKept, LevelsKept, LineKept}
use Rattle.bench.specs.Sums.{Summed, sums}
use Rattle.bench.specs.Tracks.{FamiliesTrack, LevelTracks, LevelsTrack, kins, set_rows}

-- how many lines levels have, and a table
abbrev levels_lines : List Level → ℕ
levels_lines [] = 0
levels_lines (l ∷ ls) = length l.lines + levels_lines ls

abbrev families_lines : List Family → ℕ
families_lines [] = 0
families_lines (f ∷ fs) = levels_lines f.levels + families_lines fs

one_level_more : (c : Config) (ls : List Level) → levels_lines (in_levels c ls) ≡ suc (levels_lines ls)
one_level_more c [] = omega arith
one_level_more c (l ∷ ls) = cond_both (eqb c.sets l.sets) _ _ (λ ms. levels_lines ms ≡ suc (levels_lines (l ∷ ls))) (λ _. omega arith) (λ _. omega arith)

one_line_more : (c : Config) (fs : List Family) → families_lines (in_families c fs) ≡ suc (families_lines fs)
one_line_more c [] = omega arith
one_line_more c (f ∷ fs) = cond_both (eqb c.block f.block) _ _ (λ gs. families_lines gs ≡ suc (families_lines (f ∷ fs))) (λ _. omega (arith, one_level_more c f.levels)) (λ _. omega arith)

table_lines : (cs : List Config) → families_lines (families cs) ≡ length cs
table_lines [] = refl
table_lines (c ∷ cs) = one_line_more c (families cs) ∙ ap suc (table_lines cs)

-- one cache a line
level_lines : (ls : List LevelModel) → length (level_caches ls) ≡ levels_lines (map level_of ls)
level_lines [] = refl
level_lines (l ∷ ls) = length-append (map (λ z. z.cache) l.lines) (level_caches ls) ∙ ap₂ ◌+◌ (length-map l.lines (λ z. z.cache) ∙ sym (length-map l.lines (λ z. z.kin))) (level_lines ls)

all_lines : (fs : List FamilyModel) → length (line_caches fs) ≡ families_lines (map family_of fs)
all_lines [] = refl
all_lines (f ∷ fs) = length-append (level_caches f.levels) (line_caches fs) ∙ ap₂ ◌+◌ (level_lines f.levels) (all_lines fs)

-- a cache without counts
abbrev Uncounted : Cache → Type 0
Uncounted c = (c.misses ≡ 0 ∷ 0 ∷ 0 ∷ []) × (c.hits ≡ 0 ∷ 0 ∷ 0 ∷ [])

none_missed : (cs : List Cache) → AllByRecursion Uncounted cs → map (λ c. c.misses) cs ≡ no_misses (length cs)
none_missed [] U = refl
none_missed (c ∷ cs) U = ap₂ (λ m ms. m ∷ ms) U.0.0 (none_missed cs U.1)

module _ (fs : List FamilyModel) (U : AllByRecursion Uncounted (line_caches fs)) where
  pub uncounted_misses : (cs : List Config) → map family_of fs ≡ families cs → no_misses (length cs) ≡ map (λ c. c.misses) (line_caches fs)
  uncounted_misses cs shape = sym (none_missed (line_caches fs) U ∙ ap no_misses (all_lines fs ∙ ap families_lines shape ∙ table_lines cs))

  pub uncounted_sums : AllByRecursion (Summed (0 ∷ 0 ∷ 0 ∷ [])) (line_caches fs)
  uncounted_sums = All-weaker Uncounted (Summed (0 ∷ 0 ∷ 0 ∷ [])) (λ c u. (ap length u.0, ap length u.1, ap₂ sums u.0 u.1)) (line_caches fs) U

-- new caches
lines_new : (s : Suite) (sets : ℕ) (ks : List Kin) → AllByRecursion Uncounted (map (λ z. z.cache) (map (new_line s sets) ks))
lines_new s sets [] = tt
lines_new s sets (k ∷ ks) = ((refl, refl), lines_new s sets ks)

levels_new : (s : Suite) (ls : List Level) → AllByRecursion Uncounted (level_caches (map (new_level s) ls))
levels_new s [] = tt
levels_new s (l ∷ ls) = All-append Uncounted _ _ (lines_new s l.sets l.lines) (levels_new s ls)

pub new_uncounted : (s : Suite) (fs : List Family) → AllByRecursion Uncounted (line_caches (map (new_family s) fs))
new_uncounted s [] = tt
new_uncounted s (f ∷ fs) = All-append Uncounted _ _ (levels_new s f.levels) (new_uncounted s fs)

-- those after a zero
lines_zeroed : (zs : List LineModel) → AllByRecursion Uncounted (map (λ z. z.cache) (map zero_line zs))
lines_zeroed [] = tt
lines_zeroed (z ∷ zs) = ((refl, refl), lines_zeroed zs)

levels_zeroed : (ls : List LevelModel) → AllByRecursion Uncounted (level_caches (map zero_level ls))
levels_zeroed [] = tt
levels_zeroed (l ∷ ls) = All-append Uncounted _ _ (lines_zeroed l.lines) (levels_zeroed ls)

pub zero_uncounted : (fs : List FamilyModel) → AllByRecursion Uncounted (line_caches (map zero_family fs))
zero_uncounted [] = tt
zero_uncounted (f ∷ fs) = All-append Uncounted _ _ (levels_zeroed f.levels) (zero_uncounted fs)

-- the caches after a zero are of the same table
kins_zeroed : (zs : List LineModel) → map (λ z. z.kin) (map zero_line zs) ≡ map (λ z. z.kin) zs
kins_zeroed [] = refl
kins_zeroed (z ∷ zs) = ap (λ ks. z.kin ∷ ks) (kins_zeroed zs)

level_zeroed : (l : LevelModel) → level_of (zero_level l) ≡ level_of l
level_zeroed l = ap (λ ks. record { sets = l.sets; lines = ks }) (kins_zeroed l.lines)

levels_shape : (ls : List LevelModel) → map level_of (map zero_level ls) ≡ map level_of ls
levels_shape [] = refl
levels_shape (l ∷ ls) = ap₂ (λ m ms. m ∷ ms) (level_zeroed l) (levels_shape ls)

pub zero_shape : (fs : List FamilyModel) → map family_of (map zero_family fs) ≡ map family_of fs
zero_shape [] = refl
zero_shape (f ∷ fs) = ap₂ (λ ls gs. record { block = f.block; levels = ls } ∷ gs) (levels_shape f.levels) (zero_shape fs)

-- what holds between calls holds of them
level_kept : (s : Suite) (l : LevelModel) → LevelKept s l → LevelKept s (zero_level l)
level_kept s l K = record {
  some = K.some;
  tags = K.tags;
  lines = All-map _ zero_line l.lines (All-weaker _ (λ z. LineKept s l.sets l.direct.tags (zero_line z)) (λ z k. record { takes = k.takes; rows = k.rows; recent = k.recent }) l.lines K.lines);
}

levels_kept : (s : Suite) (ls : List LevelModel) → LevelsKept s ls → LevelsKept s (map zero_level ls)
levels_kept s [] K = tt
levels_kept s (l ∷ ls) K = (
  level_kept s l K.0,
  (
    All-map _ zero_level ls (All-weaker (Includes l) (λ z. Includes (zero_level l) (zero_level z)) (λ z i. record { more = i.more; factor = i.factor; multiple = i.multiple; holds = i.holds }) ls K.1.0),
    levels_kept s ls K.1.1,
  ),
)

pub zero_kept : (s : Suite) (fs : List FamilyModel) → FamiliesKept s fs → FamiliesKept s (map zero_family fs)
zero_kept s [] K = tt
zero_kept s (f ∷ fs) K =
    let coarser = All-map _ zero_family fs (All-weaker (Coarser f) (λ g. Coarser (zero_family f) (zero_family g)) (λ g c. record { factor = c.factor; multiple = c.multiple }) fs K.1.1.0) in
    (K.0, (levels_kept s f.levels K.1.0, (coarser, zero_kept s fs K.1.1.1)))

pub zero_held : (a : ℕ) (fs : List FamilyModel) → AllByRecursion (HeldBy a) fs → AllByRecursion (HeldBy a) (map zero_family fs)
zero_held a fs H = All-map _ zero_family fs (All-weaker (HeldBy a) (λ f. HeldBy a (zero_family f)) (λ f h. All-map _ zero_level f.levels h) fs H)

-- and the words stand beside them
rows_zeroed : (i : ℕ) (zs : List LineModel) → set_rows i (map zero_line zs) ≡ set_rows i zs
rows_zeroed i [] = refl
rows_zeroed i (z ∷ zs) = ap (λ rs. cond (one_way z.kin) rs (get_or z.cache.rows i [] ∷ rs)) (rows_zeroed i zs)

level_tracks : (s : Suite) (l : LevelModel) (ws : List ℕ) → LevelTracks s l ws → LevelTracks s (zero_level l) ws
level_tracks s l ws T = record {
  whole = T.whole ∙ ap (level_words l.sets) (sym (kins_zeroed l.lines));
  direct = T.direct;
  rows = λ i low. subst₂ (λ ks qs. AllAbreast s (rows_at l.sets i (wide ks) (drop (2 * l.sets) ws)) qs) (sym (kins_zeroed l.lines)) (sym (rows_zeroed i l.lines)) (T.rows i low);
}

levels_track : (s : Suite) (ls : List LevelModel) (ws : List ℕ) → LevelsTrack s ls ws → LevelsTrack s (map zero_level ls) ws
levels_track s [] ws T = T
levels_track s (l ∷ ls) ws T =
    let same : level_words l.sets (kins (zero_level l)) ≡ level_words l.sets (kins l) = ap (level_words l.sets) (kins_zeroed l.lines) in
    subst (λ n. LevelTracks s (zero_level l) (take n ws) × LevelsTrack s (map zero_level ls) (drop n ws)) (sym same) (level_tracks s l _ T.0, levels_track s ls _ T.1)

pub zero_tracks : (s : Suite) (fs : List FamilyModel) (ws : List ℕ) → FamiliesTrack s fs ws → FamiliesTrack s (map zero_family fs) ws
zero_tracks s [] ws T = tt
zero_tracks s (f ∷ fs) ws T =
    subst (λ ls. LevelsTrack s (map zero_level f.levels) (take (levels_words ls) ws) × FamiliesTrack s (map zero_family fs) (drop (levels_words ls) ws)) (sym (levels_shape f.levels))
    (levels_track s f.levels _ T.0, zero_tracks s fs _ T.1)
