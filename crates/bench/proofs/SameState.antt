-- Two states with the same parts.
use Rattle.std.proofs.Common.{◌≡◌, ℕ, List, length, Option}
use Rattle.std.proofs.lemmas.List.{length-map}
use Rattle.bench.specs.Held.{lines_of}
use Rattle.bench.specs.Spans.{config, configs}
use Rattle.bench.specs.State.{Bench}
use Rattle.bench.specs.Table.{Config}
use Rattle.bench.specs.declared.table.Table.{Table}
use Rattle.bench.specs.declared.window.Window.{Window}

module _ {cs cs' : List Config} {ms ms' : List (List ℕ)} {ks ks' : List ℕ} {l l' : Option ℕ} {ws ws' : List (Option Window)} {a a' u u' f f' c c' : ℕ} {words words' : List ℕ} where
  pub same_bench : cs ≡ cs' → ms ≡ ms' → ks ≡ ks' → l ≡ l' → ws ≡ ws' → a ≡ a' → u ≡ u' → f ≡ f' → c ≡ c' → words ≡ words'
      → ◌≡◌ {A = Bench}
      (record { state = record { configs = cs; misses = ms; cached = ks; last = l; windows = ws; accesses = a; uncached = u; frames = f; comparisons = c }; words = words })
      (record { state = record { configs = cs'; misses = ms'; cached = ks'; last = l'; windows = ws'; accesses = a'; uncached = u'; frames = f'; comparisons = c' }; words = words' })
  same_bench e₁ e₂ e₃ e₄ e₅ e₆ e₇ e₈ e₉ e i =
      record { state = record { configs = e₁ i; misses = e₂ i; cached = e₃ i; last = e₄ i; windows = e₅ i; accesses = e₆ i; uncached = e₇ i; frames = e₈ i; comparisons = e₉ i }; words = e i }

-- as many lines as the code has
pub count_is : (t : Table) → length (configs (lines_of t)) ≡ length (lines_of t)
count_is t = length-map (lines_of t) config
