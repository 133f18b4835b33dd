-- The counts of the standalone caches after an access: one miss more where a line missed, and one hit more where it hit.
use Rattle.std.proofs.Common.{◌≡◌, ℕ, zero, suc, ◌+◌, ◌<◌, min, Bool, true, false, cond, List, [], ◌∷◌, ◌++◌, map, length, get_or, set, refl, ap, ◌∙◌, ap₂, arith}
use Rattle.std.specs.List.{AllByRecursion}
use Rattle.std.proofs.lemmas.List.{length-set}
use Rattle.standalone.specs.Cache.{Cache}
use Rattle.standalone.specs.Counting.{one_more}
use Rattle.standalone.specs.declared.access.Access.{Access}
use Rattle.policy.specs.Suite.{Suite}
use Rattle.bench.specs.Entries.{all_counted}
use Rattle.bench.specs.Sums.{Summed, sums}
use Rattle.bench.specs.Answers.{answers, level_answers, line_hit}
use Rattle.bench.specs.Model.{FamilyModel, LevelModel, LineModel, level_caches, line_caches, touch_family, touch_level, touch_line}

-- caches before and after an access of a kind, of which these hit
data Counts (kind : ℕ) : List Bool → List Cache → List Cache → Type 0 where
  none : Counts kind [] [] []
  more : {h : Bool} {c d : Cache} {hs : List Bool} {cs ds : List Cache} → d.misses ≡ cond h c.misses (one_more kind c.misses) → d.hits ≡ cond h (one_more kind c.hits) c.hits
      → Counts kind hs cs ds → Counts kind (h ∷ hs) (c ∷ cs) (d ∷ ds)

joined : (kind : ℕ) {hs hs' : List Bool} {cs ds cs' ds' : List Cache} → Counts kind hs cs ds → Counts kind hs' cs' ds' → Counts kind (hs ++ hs') (cs ++ cs') (ds ++ ds')
joined kind none q = q
joined kind (more em eh p) q = more em eh (joined kind p q)

module _ (s : Suite) (x : Access) where
  lines_count : (b sets : ℕ) (zs : List LineModel) → Counts x.kind (map (line_hit s b sets x) zs) (map (λ z. z.cache) zs) (map (λ z. z.cache) (map (touch_line s b sets x) zs))
  lines_count b sets [] = none
  lines_count b sets (z ∷ zs) = more refl refl (lines_count b sets zs)

  levels_count : (b : ℕ) (ls : List LevelModel) → Counts x.kind (level_answers s b x ls) (level_caches ls) (level_caches (map (touch_level s b x) ls))
  levels_count b [] = none
  levels_count b (l ∷ ls) = joined x.kind (lines_count b l.sets l.lines) (levels_count b ls)

  all_count : (fs : List FamilyModel) → Counts x.kind (answers s x fs) (line_caches fs) (line_caches (map (touch_family s x) fs))
  all_count [] = none
  all_count (f ∷ fs) = joined x.kind (levels_count f.block f.levels) (all_count fs)

-- counts below the highest one
misses_count : (kind : ℕ) {hs : List Bool} {cs ds : List Cache} → Counts kind hs cs ds → AllByRecursion (λ c. get_or c.misses kind 0 < 4294967295) cs → map (λ c. c.misses) ds ≡ all_counted kind hs (map (λ c. c.misses) cs)
misses_count kind none low = refl
misses_count kind (more {h} {c} {d} {hs} {cs} {ds} em eh p) low =
    let below : get_or c.misses kind 0 + 1 ≡ min (get_or c.misses kind 0 + 1) 4294967295 = omega (arith, low.0) in
    ap₂ (λ m ms. m ∷ ms) (em ∙ ap (λ n. cond h c.misses (set c.misses kind n)) below) (misses_count kind p low.1)

-- one more on either side is one more of the sum
sums_left : (kind : ℕ) (ms ns : List ℕ) → sums (one_more kind ms) ns ≡ one_more kind (sums ms ns)
sums_left kind [] ns = refl
sums_left zero (m ∷ ms) [] = refl
sums_left (suc kind) (m ∷ ms) [] = refl
sums_left zero (m ∷ ms) (n ∷ ns) = ap (λ k. k ∷ sums ms ns) (omega arith)
sums_left (suc kind) (m ∷ ms) (n ∷ ns) = ap (λ ks. (m + n) ∷ ks) (sums_left kind ms ns)

sums_right : (kind : ℕ) (ms ns : List ℕ) → sums ms (one_more kind ns) ≡ one_more kind (sums ms ns)
sums_right kind [] ns = refl
sums_right kind (m ∷ ms) [] = refl
sums_right zero (m ∷ ms) (n ∷ ns) = ap (λ k. k ∷ sums ms ns) (omega arith)
sums_right (suc kind) (m ∷ ms) (n ∷ ns) = ap (λ ks. (m + n) ∷ ks) (sums_right kind ms ns)

summed_more : (kind : ℕ) (cached : List ℕ) (h : Bool) (c d : Cache) → d.misses ≡ cond h c.misses (one_more kind c.misses) → d.hits ≡ cond h (one_more kind c.hits) c.hits → Summed cached c → Summed (one_more kind cached) d
summed_more kind cached true c d em eh S = (ap length em ∙ S.0, ap length eh ∙ length-set c.hits kind _ ∙ S.1, ap₂ sums em eh ∙ sums_right kind c.misses c.hits ∙ ap (one_more kind) S.2)
summed_more kind cached false c d em eh S = (ap length em ∙ length-set c.misses kind _ ∙ S.0, ap length eh ∙ S.1, ap₂ sums em eh ∙ sums_left kind c.misses c.hits ∙ ap (one_more kind) S.2)

sums_count : (kind : ℕ) (cached : List ℕ) {hs : List Bool} {cs ds : List Cache} → Counts kind hs cs ds → AllByRecursion (Summed cached) cs → AllByRecursion (Summed (one_more kind cached)) ds
sums_count kind cached none S = tt
sums_count kind cached (more {h} {c} {d} em eh p) S = (summed_more kind cached h c d em eh S.0, sums_count kind cached p S.1)

module _ (s : Suite) (x : Access) (fs : List FamilyModel) where
  pub misses_counted : AllByRecursion (λ c. get_or c.misses x.kind 0 < 4294967295) (line_caches fs) → map (λ c. c.misses) (line_caches (map (touch_family s x) fs)) ≡ all_counted x.kind (answers s x fs) (map (λ c. c.misses) (line_caches fs))
  misses_counted low = misses_count x.kind (all_count s x fs) low

  pub sums_counted : (cached : List ℕ) → AllByRecursion (Summed cached) (line_caches fs) → AllByRecursion (Summed (one_more x.kind cached)) (line_caches (map (touch_family s x) fs))
  sums_counted cached S = sums_count x.kind cached (all_count s x fs) S
