-- What a flush leaves of the reference model's caches: their counts, and what they are of. Their rows and tags are fresh.
use Rattle.std.proofs.Common.{◌≡◌, ℕ, ◌+◌, cond, List, [], ◌∷◌, ◌++◌, map, length, refl, ap, ◌∙◌, ap₂}
use Rattle.std.specs.List.{AllByRecursion}
use Rattle.standalone.specs.Cache.{Cache}
use Rattle.policy.specs.Suite.{Suite}
use Rattle.bench.specs.Calls.{flush_family, flush_level, flush_line}
use Rattle.bench.specs.Model.{FamilyModel, LevelModel, LineModel, family_of, level_caches, level_of, levels_compared, line_caches, lines_compared, separate, single}
use Rattle.bench.specs.Sums.{Summed, sums}
use Rattle.bench.specs.Words.{one_way}
use Rattle.bench.proofs.Fresh.{FreshFamilies, FreshLevel, FreshLine}

-- caches with the same counts
data SameCounts : List Cache → List Cache → Type 0 where
  none : SameCounts [] []
  more : {c d : Cache} {cs ds : List Cache} → d.misses ≡ c.misses → d.hits ≡ c.hits → SameCounts cs ds → SameCounts (c ∷ cs) (d ∷ ds)

joined : {cs ds cs' ds' : List Cache} → SameCounts cs ds → SameCounts cs' ds' → SameCounts (cs ++ cs') (ds ++ ds')
joined none q = q
joined (more em eh p) q = more em eh (joined p q)

same_misses : {cs ds : List Cache} → SameCounts cs ds → map (λ c. c.misses) ds ≡ map (λ c. c.misses) cs
same_misses none = refl
same_misses (more em eh p) = ap₂ (λ m ms. m ∷ ms) em (same_misses p)

same-sums : (cached : List ℕ) {cs ds : List Cache} → SameCounts cs ds → AllByRecursion (Summed cached) cs → AllByRecursion (Summed cached) ds
same-sums cached none S = tt
same-sums cached (more em eh p) S = ((ap length em ∙ S.0.0, ap length eh ∙ S.0.1, ap₂ sums em eh ∙ S.0.2), same-sums cached p S.1)

-- after a flush
module _ (s : Suite) where
  lines_same : (sets : ℕ) (zs : List LineModel) → SameCounts (map (λ z. z.cache) zs) (map (λ z. z.cache) (map (flush_line s sets) zs))
  lines_same sets [] = none
  lines_same sets (z ∷ zs) = more refl refl (lines_same sets zs)

  levels_same : (ls : List LevelModel) → SameCounts (level_caches ls) (level_caches (map (flush_level s) ls))
  levels_same [] = none
  levels_same (l ∷ ls) = joined (lines_same l.sets l.lines) (levels_same ls)

  all_same : (fs : List FamilyModel) → SameCounts (line_caches fs) (line_caches (map (flush_family s) fs))
  all_same [] = none
  all_same (f ∷ fs) = joined (levels_same f.levels) (all_same fs)

  pub flushed_misses : (fs : List FamilyModel) → map (λ c. c.misses) (line_caches (map (flush_family s) fs)) ≡ map (λ c. c.misses) (line_caches fs)
  flushed_misses fs = same_misses (all_same fs)

  pub flushed_sums : (cached : List ℕ) (fs : List FamilyModel) → AllByRecursion (Summed cached) (line_caches fs) → AllByRecursion (Summed cached) (line_caches (map (flush_family s) fs))
  flushed_sums cached fs S = same-sums cached (all_same fs) S

  -- the comparisons stay
  single_flushed : (sets : ℕ) (zs : List LineModel) → single (map (flush_line s sets) zs) ≡ single zs
  single_flushed sets [] = refl
  single_flushed sets (z ∷ zs) = ap (cond (one_way z.kin) _) (single_flushed sets zs)

  lines_flushed : (sets : ℕ) (zs : List LineModel) → lines_compared (map (flush_line s sets) zs) ≡ lines_compared zs
  lines_flushed sets [] = refl
  lines_flushed sets (z ∷ zs) = ap (λ n. z.cache.comparisons + n) (lines_flushed sets zs)

  levels_flushed : (ls : List LevelModel) → levels_compared (map (flush_level s) ls) ≡ levels_compared ls
  levels_flushed [] = refl
  levels_flushed (l ∷ ls) = ap₂ ◌+◌ (ap₂ (λ b n. cond b 0 l.direct.comparisons + n) (single_flushed l.sets l.lines) (lines_flushed l.sets l.lines)) (levels_flushed ls)

  pub separate_flushed : (fs : List FamilyModel) → separate (map (flush_family s) fs) ≡ separate fs
  separate_flushed [] = refl
  separate_flushed (f ∷ fs) = ap₂ ◌+◌ (levels_flushed f.levels) (separate_flushed fs)

  -- the caches are of the same table, and fresh
  lines_shape : (sets : ℕ) (zs : List LineModel) → map (λ z. z.kin) (map (flush_line s sets) zs) ≡ map (λ z. z.kin) zs
  lines_shape sets [] = refl
  lines_shape sets (z ∷ zs) = ap (λ ks. z.kin ∷ ks) (lines_shape sets zs)

  levels_shape : (ls : List LevelModel) → map level_of (map (flush_level s) ls) ≡ map level_of ls
  levels_shape [] = refl
  levels_shape (l ∷ ls) = ap₂ (λ ks ms. record { sets = l.sets; lines = ks } ∷ ms) (lines_shape l.sets l.lines) (levels_shape ls)

  pub flushed_shape : (fs : List FamilyModel) → map family_of (map (flush_family s) fs) ≡ map family_of fs
  flushed_shape [] = refl
  flushed_shape (f ∷ fs) = ap₂ (λ ls gs. record { block = f.block; levels = ls } ∷ gs) (levels_shape f.levels) (flushed_shape fs)

  lines_fresh : (sets : ℕ) (zs : List LineModel) → AllByRecursion (FreshLine s sets) (map (flush_line s sets) zs)
  lines_fresh sets [] = tt
  lines_fresh sets (z ∷ zs) = (refl, lines_fresh sets zs)

  levels_fresh : (ls : List LevelModel) → AllByRecursion (FreshLevel s) (map (flush_level s) ls)
  levels_fresh [] = tt
  levels_fresh (l ∷ ls) = (record { tags = refl; lines = lines_fresh l.sets l.lines }, levels_fresh ls)

  pub flushed_fresh : (fs : List FamilyModel) → FreshFamilies s (map (flush_family s) fs)
  flushed_fresh [] = tt
  flushed_fresh (f ∷ fs) = (levels_fresh f.levels, flushed_fresh fs)
