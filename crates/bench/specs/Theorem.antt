-- What one pass is worth, over any list of calls.
use Rattle.std.specs.Prelude.{◌≡◌, ℕ, ◌/◌, ◌≤◌, true, List, ◌∷◌, ◌++◌, length, None}
use Rattle.std.specs.List.{AllByRecursion}
use Rattle.standalone.specs.Counting.{one_more}
use Rattle.standalone.specs.declared.access.Access.{Access}
use Rattle.policy.specs.Suite.{Suite}
use Rattle.bench.specs.Calls.{Do, access, model_answers, model_refusal, model_run, new_model}
use Rattle.bench.specs.Kept.{Holds}
use Rattle.bench.specs.Model.{FamilyModel, LineModel, touch_line}
use Rattle.bench.specs.State.{bench_answers, bench_run, new_bench}
use Rattle.bench.specs.BenchTracks.{BenchTracks}
use Rattle.bench.specs.Window.{cached}

-- an access adds a hit and no miss to a line
pub record AddsHit (s : Suite) (b sets : ℕ) (x : Access) (l : LineModel) : Type 0 where
  pub hit : (touch_line s b sets x l).cache.hits ≡ one_more x.kind l.cache.hits
  pub miss : (touch_line s b sets x l).cache.misses ≡ l.cache.misses

-- where a level's direct-mapped cache hits, so does every line of its block size with at least as many sets
abbrev pub DirectHits : Suite → Access → FamilyModel → Type 0
DirectHits s x f =
    AllByRecursion (λ l. Holds l (x.address / f.block) → AllByRecursion (λ k. l.sets ≤ k.sets → AllByRecursion (AddsHit s f.block k.sets x) k.lines) f.levels) f.levels

-- the calls cs, refused or not, of a new bench with this workspace
pub record OnePass (s : Suite) (cs : List Do) (words : List ℕ) : Type 0 where
  -- each call is answered as in the reference model, which the bench then tracks: counts, totals, and no more comparisons
  pub answers : bench_answers s cs (new_bench words) ≡ model_answers s (length words) cs new_model
  pub tracks : BenchTracks s (model_run s (length words) cs new_model) (bench_run s cs (new_bench words))
  -- each cached access that hits a direct-mapped cache adds hits
  pub direct : (before after : List Do) (x : Access) → cs ≡ before ++ (access x ∷ after)
      → model_refusal s (length words) (model_run s (length words) before new_model) (access x) ≡ None
      → cached (model_run s (length words) before new_model).windows x.address ≡ true
      → AllByRecursion (DirectHits s x) (model_run s (length words) before new_model).families
