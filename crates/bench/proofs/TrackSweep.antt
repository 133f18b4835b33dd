-- An access at all levels: the sweep answers as the standalone caches, compares no more, and leaves words that stand beside the
-- caches after the access. The levels that it skips hold the block already.
use Rattle.std.proofs.Common.{◌≡◌, ℕ, ◌+◌, ◌/◌, ◌^◌, ◌<◌, ◌≤◌, Bool, true, List, [], ◌∷◌, ◌++◌, map, length, take, drop, Some, None, Option, sym, refl, ap, ◌∙◌, subst, ap₂, arith}
use Rattle.std.specs.List.{AllByRecursion}
use Rattle.std.proofs.lemmas.List.{drop_at, drop-drop, length-append, take-append-drop, take_at}
use Rattle.std.proofs.lemmas.Bool.{cond_both, eqb-true, true≢false}
use Rattle.geometry.specs.Address.{set_of, tag_of}
use Rattle.standalone.specs.declared.access.Access.{Access}
use Rattle.policy.specs.Suite.{Suite, Lawful}
use Rattle.bench.specs.Mixed.{own_step}
use Rattle.bench.specs.Direct.{direct_hit}
use Rattle.bench.specs.Level.{Visited, all_hit, level_words}
use Rattle.bench.specs.Table.{families_words, levels_words}
use Rattle.bench.specs.Model.{FamilyModel, LevelModel, family_of, level_of, levels_compared, separate, touch_family, touch_level}
use Rattle.bench.specs.Answers.{answers, level_answers}
use Rattle.bench.specs.Sweep.{and_then, families_hit, levels_hit, same_block, skip, sweep_families, sweep_levels, visit_of}
use Rattle.bench.specs.Kept.{Coarser, FamiliesKept, HeldBy, HeldLast, Holds, LevelsKept}
use Rattle.bench.specs.Tracks.{FamiliesTrack, LevelTracks, LevelsTrack, kins}
use Rattle.bench.proofs.Inclusion.{later_hold, same_coarser, skipped_level}
use Rattle.bench.proofs.TrackLevel.{LevelSwept, direct_holds, level_shape, level_swept, skipped_swept}

-- an access leaves the levels what they are of
pub touched_shape : (s : Suite) (b : ℕ) (x : Access) (ls : List LevelModel) → map level_of (map (touch_level s b x) ls) ≡ map level_of ls
touched_shape s b x [] = refl
touched_shape s b x (l ∷ ls) = ap₂ (λ z zs. z ∷ zs) (level_shape s b x l) (touched_shape s b x ls)

pub families_shape : (s : Suite) (x : Access) (fs : List FamilyModel) → map family_of (map (touch_family s x) fs) ≡ map family_of fs
families_shape s x [] = refl
families_shape s x (f ∷ fs) = ap₂ (λ ls gs. record { block = f.block; levels = ls } ∷ gs) (touched_shape s f.block x f.levels) (families_shape s x fs)

-- the words of levels are as many as they need, and those of all levels at least as many
levels_length : (s : Suite) (ls : List LevelModel) (ws : List ℕ) → LevelsTrack s ls ws → length ws ≡ levels_words (map level_of ls)
levels_length s [] ws T = ap length T
levels_length s (l ∷ ls) ws T =
    let n = level_words l.sets (kins l) in
    ap length (sym (take-append-drop n ws)) ∙ length-append (take n ws) (drop n ws) ∙ ap₂ ◌+◌ T.0.whole (levels_length s ls (drop n ws) T.1)

pub families_room : (s : Suite) (fs : List FamilyModel) (ws : List ℕ) → FamiliesTrack s fs ws → families_words (map family_of fs) ≤ length ws
families_room s [] ws T = omega arith
families_room s (f ∷ fs) ws T =
    let n = levels_words (map level_of f.levels) in
    omega (arith, ap length (take-append-drop n ws), length-append (take n ws) (drop n ws), levels_length s f.levels (take n ws) T.0, families_room s fs (drop n ws) T.1)

-- two skips, one after the other
skip_both : (hits more : List Bool) (n : ℕ) (ws : List ℕ) → and_then (skip hits (take n ws)) (skip more (drop n ws)) ≡ skip (hits ++ more) ws
skip_both hits more n ws = ap (skip (hits ++ more)) (take-append-drop n ws)

-- a sweep of levels of one block size that answers as the caches of their lines, compares no more than the separate caches, and
-- leaves words that stand beside them
record LevelsSwept (s : Suite) (x : Access) (b : ℕ) (ls : List LevelModel) (v : Visited) : Type 0 where
  hits : v.hits ≡ level_answers s b x ls
  track : LevelsTrack s (map (touch_level s b x) ls) v.words
  few : v.comparisons + levels_compared ls ≤ levels_compared (map (touch_level s b x) ls)

levels_joined : (s : Suite) (x : Access) (b : ℕ) (l : LevelModel) (ls : List LevelModel) (v w : Visited) → LevelSwept s b x l v → LevelsSwept s x b ls w → LevelsSwept s x b (l ∷ ls) (and_then v w)
levels_joined s x b l ls v w V W =
    let whole = V.tracks.whole in
    record {
      hits = ap₂ ◌++◌ V.hits W.hits;
      track = (subst (LevelTracks s (touch_level s b x l)) (sym (take_at v.words w.words _ whole)) V.tracks, subst (LevelsTrack s (map (touch_level s b x) ls)) (sym (drop_at v.words w.words _ whole)) W.track);
      few = omega (arith, V.few, W.few);
    }

module _ (s : Suite) (L : Lawful s) (x : Access) (small : x.address < 2 ^ 32) where
  skipped_levels : (b : ℕ) (ls : List LevelModel) → LevelsKept s ls → AllByRecursion (λ l. Holds l (x.address / b)) ls → (ws : List ℕ) → LevelsTrack s ls ws → LevelsSwept s x b ls (skip (levels_hit (map level_of ls)) ws)
  skipped_levels b [] K H ws T = record { hits = refl; track = T; few = omega arith }
  skipped_levels b (l ∷ ls) K H ws T =
      let n = level_words l.sets (kins l) in
      subst (LevelsSwept s x b (l ∷ ls)) (skip_both (all_hit (kins l)) (levels_hit (map level_of ls)) n ws)
      (levels_joined s x b l ls _ _ (skipped_swept s b x l (skipped_level s L x small b l K.0 H.0) (take n ws) T.0) (skipped_levels b ls K.1.1 H.1 (drop n ws) T.1))

  levels_swept : (b : ℕ) (ls : List LevelModel) → LevelsKept s ls → (ws : List ℕ) → LevelsTrack s ls ws → LevelsSwept s x b ls (sweep_levels (own_step s) b x.address (map level_of ls) ws)
  levels_swept b [] K ws T = record { hits = refl; track = T; few = omega arith }
  levels_swept b (l ∷ ls) K ws T =
      let n = level_words l.sets (kins l) in
      levels_joined s x b l ls (visit_of (own_step s) b x.address (level_of l) (take n ws)) _ (level_swept s L x small b l K.0 (take n ws) T.0)
      (cond_both (direct_hit (take n ws) (set_of x.address b l.sets) (tag_of x.address b l.sets)) (skip (levels_hit (map level_of ls)) (drop n ws)) (sweep_levels (own_step s) b x.address (map level_of ls) (drop n ws)) (LevelsSwept s x b ls)
      (λ h. skipped_levels b ls K.1.1 (later_hold l ls (x.address / b) K.1.0 (direct_holds s L x small b l K.0 (take n ws) T.0 h)) (drop n ws) T.1)
      (λ _. levels_swept b ls K.1.1 (drop n ws) T.1))

-- a sweep of all levels that does the same, and leaves the words beyond them
record FamiliesSwept (s : Suite) (x : Access) (fs : List FamilyModel) (ws : List ℕ) (v : Visited) : Type 0 where
  hits : v.hits ≡ answers s x fs
  track : FamiliesTrack s (map (touch_family s x) fs) v.words
  few : v.comparisons + separate fs ≤ separate (map (touch_family s x) fs)
  whole : length v.words ≡ length ws
  beyond : drop (families_words (map family_of fs)) v.words ≡ drop (families_words (map family_of fs)) ws

families_joined : (s : Suite) (x : Access) (f : FamilyModel) (fs : List FamilyModel) (ws : List ℕ) (v w : Visited) → LevelsTrack s f.levels (take (levels_words (map level_of f.levels)) ws)
    → LevelsSwept s x f.block f.levels v → FamiliesSwept s x fs (drop (levels_words (map level_of f.levels)) ws) w → FamiliesSwept s x (f ∷ fs) ws (and_then v w)
families_joined s x f fs ws v w T V W =
    let n = levels_words (map level_of f.levels) in
    let more = families_words (map family_of fs) in
    let ls = map (touch_level s f.block x) f.levels in
    let stay : levels_words (map level_of ls) ≡ n = ap levels_words (touched_shape s f.block x f.levels) in
    let long : length v.words ≡ n = levels_length s ls v.words V.track ∙ stay in
    let before : length (take n ws) ≡ n = levels_length s f.levels (take n ws) T in
    let after : drop n (v.words ++ w.words) ≡ w.words = drop_at v.words w.words n long in
    record {
      hits = ap₂ ◌++◌ V.hits W.hits;
      track = (subst (LevelsTrack s ls) (sym (ap (λ k. take k (v.words ++ w.words)) stay ∙ take_at v.words w.words n long)) V.track, subst (FamiliesTrack s (map (touch_family s x) fs)) (sym (ap (λ k. drop k (v.words ++ w.words)) stay ∙ after)) W.track);
      few = omega (arith, V.few, W.few);
      whole = length-append v.words w.words ∙ ap₂ ◌+◌ (long ∙ sym before) W.whole ∙ sym (length-append (take n ws) (drop n ws)) ∙ ap length (take-append-drop n ws);
      beyond = sym (drop-drop more n (v.words ++ w.words)) ∙ ap (drop more) after ∙ W.beyond ∙ drop-drop more n ws;
    }

-- the block of the last access is held
held_alike : (a c : ℕ) (f : FamilyModel) → a / f.block ≡ c / f.block → HeldBy a f → HeldBy c f
held_alike a c f same H = subst (λ k. AllByRecursion (λ l. Holds l k) f.levels) same H

-- addresses in one block are so at all larger block sizes
held_later : (a c : ℕ) (f : FamilyModel) (fs : List FamilyModel) → a / f.block ≡ c / f.block → AllByRecursion (Coarser f) fs → AllByRecursion (HeldBy a) fs → AllByRecursion (HeldBy c) fs
held_later a c f [] same C H = tt
held_later a c f (g ∷ fs) same C H = (held_alike a c g (same_coarser a c f.block g.block C.0.factor C.0.multiple same) H.0, held_later a c f fs same C.1 H.1)

block_held : (s : Suite) (c : ℕ) (f : FamilyModel) (fs : List FamilyModel) (last : Option ℕ) → FamiliesKept s (f ∷ fs) → HeldLast last (f ∷ fs) → same_block last c f.block ≡ true → AllByRecursion (HeldBy c) (f ∷ fs)
block_held s c f fs None K held h = absurd (true≢false (sym h))
block_held s c f fs (Some a) K held h =
    let same = eqb-true (a / f.block) (c / f.block) h in
    (held_alike a c f same (held a refl).0, held_later a c f fs same K.1.1.0 (held a refl).1)

module _ (s : Suite) (L : Lawful s) (x : Access) (small : x.address < 2 ^ 32) where
  skipped_families : (fs : List FamilyModel) → FamiliesKept s fs → AllByRecursion (HeldBy x.address) fs → (ws : List ℕ) → FamiliesTrack s fs ws → FamiliesSwept s x fs ws (skip (families_hit (map family_of fs)) ws)
  skipped_families [] K H ws T = record { hits = refl; track = tt; few = omega arith; whole = refl; beyond = refl }
  skipped_families (f ∷ fs) K H ws T =
      let n = levels_words (map level_of f.levels) in
      subst (FamiliesSwept s x (f ∷ fs) ws) (skip_both (levels_hit (map level_of f.levels)) (families_hit (map family_of fs)) n ws)
      (families_joined s x f fs ws _ _ T.0 (skipped_levels s L x small f.block f.levels K.1.0 H.0 (take n ws) T.0) (skipped_families fs K.1.1.1 H.1 (drop n ws) T.1))

  families-swept : (last : Option ℕ) (fs : List FamilyModel) → FamiliesKept s fs → HeldLast last fs → (ws : List ℕ) → FamiliesTrack s fs ws → FamiliesSwept s x fs ws (sweep_families (own_step s) last x.address (map family_of fs) ws)
  families-swept last [] K held ws T = record { hits = refl; track = tt; few = omega arith; whole = refl; beyond = refl }
  families-swept last (f ∷ fs) K held ws T =
      let n = levels_words (map level_of f.levels) in
      cond_both (same_block last x.address f.block) (skip (families_hit (map family_of (f ∷ fs))) ws)
      (and_then (sweep_levels (own_step s) f.block x.address (map level_of f.levels) (take n ws)) (sweep_families (own_step s) last x.address (map family_of fs) (drop n ws))) (FamiliesSwept s x (f ∷ fs) ws)
      (λ h. skipped_families (f ∷ fs) K (block_held s x.address f fs last K held h) ws T)
      (λ _. families_joined s x f fs ws _ _ T.0 (levels_swept s L x small f.block f.levels K.1.0 (take n ws) T.0) (families-swept last fs K.1.1.1 (λ a e. (held a e).1) (drop n ws) T.1))

-- all levels
module _ (s : Suite) (L : Lawful s) (x : Access) (small : x.address < 2 ^ 32) (last : Option ℕ) (fs : List FamilyModel) (K : FamiliesKept s fs) (held : HeldLast last fs) (ws : List ℕ) (T : FamiliesTrack s fs ws) where
  pub families_hits : (sweep_families (own_step s) last x.address (map family_of fs) ws).hits ≡ answers s x fs
  families_hits = (families-swept s L x small last fs K held ws T).hits

  pub families_track : FamiliesTrack s (map (touch_family s x) fs) (sweep_families (own_step s) last x.address (map family_of fs) ws).words
  families_track = (families-swept s L x small last fs K held ws T).track

  pub families_few : (sweep_families (own_step s) last x.address (map family_of fs) ws).comparisons + separate fs ≤ separate (map (touch_family s x) fs)
  families_few = (families-swept s L x small last fs K held ws T).few

  pub families_length : length (sweep_families (own_step s) last x.address (map family_of fs) ws).words ≡ length ws
  families_length = (families-swept s L x small last fs K held ws T).whole

  pub families_beyond : drop (families_words (map family_of fs)) (sweep_families (own_step s) last x.address (map family_of fs) ws).words ≡ drop (families_words (map family_of fs)) ws
  families_beyond = (families-swept s L x small last fs K held ws T).beyond
