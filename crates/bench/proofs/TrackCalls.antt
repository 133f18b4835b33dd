-- A bench tracks the reference model from call to call: each call is refused by both or by neither, and where one passes, what the
-- bench makes of it stands beside what it means. Here are a new bench and all calls but an access.
use Rattle.std.proofs.Common.{◌≡◌, ℕ, zero, suc, ◌+◌, ◌<◌, ◌≤◌, Bool, true, false, leb, List, [], ◌∷◌, ◌++◌, map, length, get_or, drop, set, None, sym, refl, ap, ◌∙◌, subst, ap₂, arith, Option}
use Rattle.std.proofs.lemmas.List.{length-append, length-drop, length-map}
use Rattle.std.proofs.lemmas.Bool.{leb-true}
use Rattle.geometry.specs.Refusal.{ask}
use Rattle.geometry.specs.declared.line.Line.{Line}
use Rattle.policy.specs.Suite.{Suite, Lawful}
use Rattle.bench.specs.Asked.{access_refusal, flush_refusal, frame_refusal}
use Rattle.bench.specs.BenchTracks.{BenchTracks}
use Rattle.bench.specs.Calls.{Do, Model, access, flush, flush_family, flushed, frame, framed, model_does, model_refusal, new_model, off, open_table, opened, window, with_windows, zero as zero-call, zero_family, zeroed}
use Rattle.bench.specs.Kept.{FamiliesKept}
use Rattle.bench.specs.Model.{FamilyModel, family_of, new_family}
use Rattle.bench.specs.Opened.{need, open_refusal, table_refusal, unless}
use Rattle.bench.specs.Start.{started}
use Rattle.bench.specs.State.{Bench, bench_does, bench_refusal, flush_state, frame_state, new_state, no_misses, open_state, restarted, state_need, window_state, zero_state}
use Rattle.bench.specs.Table.{Config, config_of, families, families_words}
use Rattle.bench.specs.Tracks.{FamiliesTrack}
use Rattle.bench.specs.Window.{off_window, on_window}
use Rattle.bench.specs.declared.window.Window.{Window}
use Rattle.bench.proofs.Proper.{ProperFamilies, accepted_proper, all_pass, none_at, none_both}
use Rattle.bench.proofs.Fresh.{FreshFamilies, fresh_kept, fresh_tracks, new_fresh, new_shape, started_words}
use Rattle.bench.proofs.TrackFlush.{flushed_fresh, flushed_misses, flushed_shape, flushed_sums, separate_flushed}
use Rattle.bench.proofs.TrackZero.{new_uncounted, uncounted_misses, uncounted_sums, zero_held, zero_kept, zero_shape, zero_tracks, zero_uncounted}

-- no accesses of any kind
no_count : (k : ℕ) → ◌≡◌ {A = ℕ} (get_or (0 ∷ 0 ∷ 0 ∷ []) k 0) 0
no_count zero = refl
no_count (suc zero) = refl
no_count (suc (suc zero)) = refl
no_count (suc (suc (suc k))) = refl

-- a new bench
pub new_tracks : (s : Suite) (words : List ℕ) → BenchTracks s new_model (record { state = new_state; words = words })
new_tracks s words = record {
  configs = refl;
  accepted = λ some. absurd (omega arith);
  shape = refl;
  kept = tt;
  words = tt;
  last = λ a e. tt;
  misses = refl;
  hits = tt;
  windows = refl;
  accesses = refl;
  uncached = refl;
  frames = refl;
  kinds = refl;
  cached_few = λ k. omega (arith, no_count k);
  uncached_few = omega arith;
  accesses_few = omega arith;
  few = omega arith;
}

-- a bench that tracks a model, with a workspace of so many words
abbrev pub Tracked : Suite → ℕ → Model → Bench → Type 0
Tracked s n m b = BenchTracks s m b × (length b.words ≡ n)

module _ (s : Suite) (m : Model) (b : Bench) (T : BenchTracks s m b) where
  same-need : state_need b.state ≡ need s.three m.lines
  same-need = ap (λ cs. families_words (families cs)) T.configs

  pub same_refusal : (c : Do) → bench_refusal s b c ≡ model_refusal s (length b.words) m c
  same_refusal (open_table lines) = refl
  same_refusal (access x) = ap₂ (λ n a. access_refusal n (length b.words) a x) same-need T.accesses
  same_refusal (window number first end) = refl
  same_refusal (off number) = refl
  same_refusal flush = ap (λ n. flush_refusal n (length b.words)) same-need
  same_refusal zero-call = refl
  same_refusal frame = ap frame_refusal T.frames

  -- other windows, made alike on both sides
  windows_track : (f : List (Option Window) → List (Option Window)) → Tracked s (length b.words) (with_windows (f m.windows) m) (record { state = window_state (f b.state.windows) b.state; words = b.words })
  windows_track f = (
    record {
      configs = T.configs;
      accepted = T.accepted;
      shape = T.shape;
      kept = T.kept;
      words = T.words;
      last = T.last;
      misses = T.misses;
      hits = T.hits;
      windows = ap f T.windows;
      accesses = T.accesses;
      uncached = T.uncached;
      frames = T.frames;
      kinds = T.kinds;
      cached_few = T.cached_few;
      uncached_few = T.uncached_few;
      accesses_few = T.accesses_few;
      few = T.few;
    },
    refl,
  )

  pub window_tracks : (number first end : ℕ) → Tracked s (length b.words) (model_does s (window number first end) m) (bench_does s (window number first end) b)
  window_tracks number first end = windows_track (λ ws. set ws number (on_window first end))

  pub off_tracks : (number : ℕ) → Tracked s (length b.words) (model_does s (off number) m) (bench_does s (off number) b)
  off_tracks number = windows_track (λ ws. set ws number off_window)

  pub framed_tracks : Tracked s (length b.words) (framed m) (record { state = frame_state b.state; words = b.words })
  framed_tracks = (
    record {
      configs = T.configs;
      accepted = T.accepted;
      shape = T.shape;
      kept = T.kept;
      words = T.words;
      last = T.last;
      misses = T.misses;
      hits = T.hits;
      windows = T.windows;
      accesses = T.accesses;
      uncached = T.uncached;
      frames = ap (λ n. n + 1) T.frames;
      kinds = T.kinds;
      cached_few = T.cached_few;
      uncached_few = T.uncached_few;
      accesses_few = T.accesses_few;
      few = T.few;
    },
    refl,
  )

  pub zeroed_tracks : Tracked s (length b.words) (zeroed m) (record { state = zero_state b.state; words = b.words })
  zeroed_tracks =
      let fs = m.families in
      let shape = zero_shape fs ∙ T.shape in (
        record {
          configs = T.configs;
          accepted = T.accepted;
          shape = shape;
          kept = zero_kept s fs T.kept;
          words = zero_tracks s fs b.words T.words;
          last = λ a e. zero_held a fs (T.last a e);
          misses = uncounted_misses (map zero_family fs) (zero_uncounted fs) b.state.configs shape;
          hits = uncounted_sums (map zero_family fs) (zero_uncounted fs);
          windows = T.windows;
          accesses = refl;
          uncached = refl;
          frames = T.frames;
          kinds = refl;
          cached_few = λ k. omega (arith, no_count k);
          uncached_few = omega arith;
          accesses_few = omega arith;
          few = omega arith;
        },
        refl,
      )

-- the words of a table started again, with fresh caches of the same table
module _ (s : Suite) (L : Lawful s) (cs : List Config) (ws : List ℕ) (P : ProperFamilies s (families cs)) where
  restarted-length : families_words (families cs) ≤ length ws → length (restarted s cs ws) ≡ length ws
  restarted-length room =
      let n = families_words (families cs) in
      omega (arith, room, length-append (started s (families cs)) (drop n ws), started_words s L (families cs) P, length-drop n ws)

  module _ (fs : List FamilyModel) (shape : map family_of fs ≡ families cs) (F : FreshFamilies s fs) where
    restarted_kept : FamiliesKept s fs
    restarted_kept = fresh_kept s fs (subst (ProperFamilies s) (sym shape) P) F

    restarted_words : FamiliesTrack s fs (restarted s cs ws)
    restarted_words = subst (λ gs. FamiliesTrack s fs (started s gs ++ drop (families_words (families cs)) ws)) shape (fresh_tracks s L fs (subst (ProperFamilies s) (sym shape) P) F (drop (families_words (families cs)) ws))

-- an open asked for an accepted table and room for its words
unless_none : (passes : Bool) (n : ℕ) → unless passes n ≡ None → passes ≡ true
unless_none true n e = refl
unless_none false n e = let z : ◌≡◌ {A = ℕ} 0 1 = cc in absurd (omega arith)

pub opened_tracks : (s : Suite) (L : Lawful s) (m : Model) (b : Bench) → BenchTracks s m b → (lines : List Line) → open_refusal s.three lines (length b.words) ≡ None → Tracked s (length b.words) (opened s lines m) (open_state s lines b)
opened_tracks s L m b T lines e =
    let (accepted, room) = none_both (table_refusal s.three lines) _ e in
    let cs = map (config_of s.three) lines in
    let P = accepted_proper s lines accepted in
    let fs = map (new_family s) (families cs) in
    let shape = new_shape s (families cs) in
    let fresh = new_fresh s (families cs) in
    let none = new_uncounted s (families cs) in (
      record {
        configs = refl;
        accepted = λ _. accepted;
        shape = shape;
        kept = restarted_kept s L cs b.words P fs shape fresh;
        words = restarted_words s L cs b.words P fs shape fresh;
        last = λ a e. let z : ◌≡◌ {A = ℕ} 0 1 = cc in absurd (omega arith);
        misses = ap no_misses (sym (length-map lines (config_of s.three))) ∙ uncounted_misses fs none cs shape;
        hits = uncounted_sums fs none;
        windows = T.windows;
        accesses = refl;
        uncached = refl;
        frames = refl;
        kinds = refl;
        cached_few = λ k. omega (arith, no_count k);
        uncached_few = omega arith;
        accesses_few = omega arith;
        few = omega arith;
      },
      restarted-length s L cs b.words P (leb-true _ _ (unless_none _ 11 room)),
    )

-- the table is proper: it was accepted, or has no lines
table_proper : (s : Suite) (m : Model) (b : Bench) → BenchTracks s m b → ProperFamilies s (families b.state.configs)
table_proper s m b T = go m.lines T.configs T.accepted
  where
    go : (lines : List Line) → b.state.configs ≡ map (config_of s.three) lines → (0 < length lines → table_refusal s.three lines ≡ None) → ProperFamilies s (families b.state.configs)
    go [] e accepted = subst (λ cs. ProperFamilies s (families cs)) (sym e) tt
    go (l ∷ ls) e accepted = subst (λ cs. ProperFamilies s (families cs)) (sym e) (accepted_proper s (l ∷ ls) (accepted (omega arith)))

pub flushed_tracks : (s : Suite) (L : Lawful s) (m : Model) (b : Bench) → BenchTracks s m b → flush_refusal (state_need b.state) (length b.words) ≡ None
    → Tracked s (length b.words) (flushed s m) (record { state = flush_state b.state; words = restarted s b.state.configs b.words })
flushed_tracks s L m b T e =
    let cs = b.state.configs in
    let P = table_proper s m b T in
    let fs = map (flush_family s) m.families in
    let shape = flushed_shape s m.families ∙ T.shape in
    let fresh = flushed_fresh s m.families in
    let room = all_pass (ask 11 (leb (state_need b.state) (length b.words)) ∷ []) (none_at 0 _ e) in (
      record {
        configs = T.configs;
        accepted = T.accepted;
        shape = shape;
        kept = restarted_kept s L cs b.words P fs shape fresh;
        words = restarted_words s L cs b.words P fs shape fresh;
        last = λ a e. let z : ◌≡◌ {A = ℕ} 0 1 = cc in absurd (omega arith);
        misses = T.misses ∙ sym (flushed_misses s m.families);
        hits = flushed_sums s b.state.cached m.families T.hits;
        windows = T.windows;
        accesses = T.accesses;
        uncached = T.uncached;
        frames = T.frames;
        kinds = T.kinds;
        cached_few = T.cached_few;
        uncached_few = T.uncached_few;
        accesses_few = T.accesses_few;
        few = omega (arith, T.few, separate_flushed s m.families);
      },
      restarted-length s L cs b.words P (leb-true _ _ room.0),
    )
