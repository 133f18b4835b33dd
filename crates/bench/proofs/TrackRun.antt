-- A bench tracks the reference model over any list of calls, and answers each call as it does: one pass is worth the model's run.
use Rattle.std.proofs.Common.{◌≡◌, ℕ, List, [], ◌∷◌, length, Some, None, Option, refl, ap, ◌∙◌, subst, ap₂}
use Rattle.policy.specs.Suite.{Suite, Lawful}
use Rattle.bench.specs.BenchTracks.{BenchTracks}
use Rattle.bench.specs.Calls.{Do, Model, access, flush, frame, model_after, model_answers, model_does, model_run, new_model, off, open_table, unless_refused, window, zero}
use Rattle.bench.specs.Opened.{No}
use Rattle.bench.specs.State.{Bench, bench_after, bench_answers, bench_does, bench_refusal, bench_run, new_state}
use Rattle.bench.specs.Theorem.{OnePass}
use Rattle.bench.proofs.TrackCalls.{Tracked, flushed_tracks, framed_tracks, new_tracks, off_tracks, opened_tracks, same_refusal, window_tracks, zeroed_tracks}
use Rattle.bench.proofs.TrackAccess.{access_passes, accessed_tracks}
use Rattle.bench.proofs.DirectHits.{direct_hits}

module _ (s : Suite) (L : Lawful s) where
  -- a call that passes
  pub does_tracks : (m : Model) (b : Bench) (c : Do) → BenchTracks s m b → bench_refusal s b c ≡ None → Tracked s (length b.words) (model_does s c m) (bench_does s c b)
  does_tracks m b (open_table lines) T e = opened_tracks s L m b T lines e
  does_tracks m b (access x) T e = accessed_tracks s L m b T x (access_passes _ _ _ x e)
  does_tracks m b (window number first end) T e = window_tracks s m b T number first end
  does_tracks m b (off number) T e = off_tracks s m b T number
  does_tracks m b flush T e = flushed_tracks s L m b T e
  does_tracks m b zero T e = zeroed_tracks s m b T
  does_tracks m b frame T e = framed_tracks s m b T

  -- a call, refused or not
  pub tracks_after : (m : Model) (b : Bench) (c : Do) → BenchTracks s m b → BenchTracks s (model_after s (length b.words) c m) (bench_after s c b) × (length (bench_after s c b).words ≡ length b.words)
  tracks_after m b c T =
      subst (λ r. Tracked s (length b.words) (unless_refused r m (model_does s c m)) (bench_after s c b)) (same_refusal s m b T c) (at (bench_refusal s b c) refl)
    where
      at : (o : Option No) → bench_refusal s b c ≡ o → Tracked s (length b.words) (unless_refused o m (model_does s c m)) (unless_refused o b (bench_does s c b))
      at None e = does_tracks m b c T e
      at (Some n) e = (T, refl)

  -- call after call
  pub run_tracks : (cs : List Do) (m : Model) (b : Bench) → BenchTracks s m b → BenchTracks s (model_run s (length b.words) cs m) (bench_run s cs b)
  run_tracks [] m b T = T
  run_tracks (c ∷ cs) m b T =
      let A = tracks_after m b c T in
      subst (λ n. BenchTracks s (model_run s n cs (model_after s (length b.words) c m)) (bench_run s (c ∷ cs) b)) A.1 (run_tracks cs _ _ A.0)

  pub run_answers : (cs : List Do) (m : Model) (b : Bench) → BenchTracks s m b → bench_answers s cs b ≡ model_answers s (length b.words) cs m
  run_answers [] m b T = refl
  run_answers (c ∷ cs) m b T =
      let A = tracks_after m b c T in
      ap₂ (λ no more. no ∷ more) (same_refusal s m b T c) (run_answers cs _ _ A.0 ∙ ap (λ n. model_answers s n cs (model_after s (length b.words) c m)) A.1)

pub one_pass : (s : Suite) → Lawful s → (cs : List Do) (words : List ℕ) → OnePass s cs words
one_pass s L cs words =
    let b : Bench = record { state = new_state; words = words } in
    let T = new_tracks s words in
    record {
      answers = run_answers s L cs new_model b T;
      tracks = run_tracks s L cs new_model b T;
      direct = λ before after x e passes held. direct_hits s L x (access_passes _ _ _ x passes).address _ (run_tracks s L before new_model b T).kept;
    }
