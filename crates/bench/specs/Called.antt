-- What a call of a bench gives and leaves.
use Rattle.std.specs.Prelude.{◌≡◌, ℕ, List, length, Option}
use Rattle.policy.specs.Suite.{Suite}
use Rattle.bench.specs.Calls.{Do, Model, model_after, model_refusal, new_model}
use Rattle.bench.specs.BenchTracks.{BenchTracks}
use Rattle.bench.specs.Opened.{No}
use Rattle.bench.specs.State.{Bench, bench_after, bench_refusal}

-- a call c of the bench b with its workspace: the answer, and the bench and the words that it leaves
pub record Called (s : Suite) (c : Do) (b b' : Bench) (answer : Option No) : Type 0 where
  -- they are what the sweep's definition says; a refused call leaves everything as it was
  pub answered : answer ≡ bench_refusal s b c
  pub after : b' ≡ bench_after s c b
  -- and a bench that tracked the reference model tracks it still, with the model's answer
  pub tracks : (m : Model) → BenchTracks s m b → BenchTracks s (model_after s (length b.words) c m) b'
  pub as_model : (m : Model) → BenchTracks s m b → answer ≡ model_refusal s (length b.words) m c

-- a call that takes no workspace: whatever the words are
abbrev pub CalledAlone : Suite → Do → (List ℕ → Bench) → (List ℕ → Bench) → Option No → Type 0
CalledAlone s c b b' answer = (ws : List ℕ) → Called s c (b ws) (b' ws) answer

-- a new bench tracks a new reference model, whatever the words are
abbrev pub NewTracks : Suite → (List ℕ → Bench) → Type 0
NewTracks s b = (ws : List ℕ) → BenchTracks s new_model (b ws)
