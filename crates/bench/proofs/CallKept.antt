-- What a call leaves is what its definition says, so it keeps track of the reference model.
use Rattle.std.proofs.Common.{◌≡◌, length, Some, None, Option, sym, ap, ◌∙◌, subst}
use Rattle.policy.specs.Suite.{Suite, Lawful}
use Rattle.bench.specs.BenchTracks.{BenchTracks}
use Rattle.bench.specs.Called.{Called}
use Rattle.bench.specs.Calls.{Do, model_after, unless_refused}
use Rattle.bench.specs.Opened.{No}
use Rattle.bench.specs.State.{Bench, bench_after, bench_does, bench_refusal}
use Rattle.bench.proofs.TrackCalls.{same_refusal}
use Rattle.bench.proofs.TrackRun.{tracks_after}

pub called : (s : Suite) → Lawful s → (c : Do) (b b' : Bench) (answer : Option No) → answer ≡ bench_refusal s b c → b' ≡ bench_after s c b → Called s c b b' answer
called s L c b b' answer e a = record {
  answered = e;
  after = a;
  tracks = λ m T. subst (BenchTracks s (model_after s (length b.words) c m)) (sym a) (tracks_after s L m b c T).0;
  as_model = λ m T. e ∙ same_refusal s m b T c;
}

-- a call that passes, and one that is refused
pub passed : (s : Suite) → Lawful s → (c : Do) (b b' : Bench) → bench_refusal s b c ≡ None → b' ≡ bench_does s c b → Called s c b b' None
passed s L c b b' e a = called s L c b b' None (sym e) (a ∙ ap (λ o. unless_refused o b (bench_does s c b)) (sym e))

pub refused : (s : Suite) → Lawful s → (c : Do) (b : Bench) (n : No) → bench_refusal s b c ≡ Some n → Called s c b b (Some n)
refused s L c b n e = called s L c b b (Some n) (sym e) (ap (λ o. unless_refused o b (bench_does s c b)) (sym e))
