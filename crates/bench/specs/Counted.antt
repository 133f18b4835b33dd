-- What a bench tells of its counts.
use Rattle.std.specs.Prelude.{◌≡◌, ℕ, ◌-◌, ◌≤◌, List, [], ◌∷◌, map, length, take, Option, nat_le, slice_index}
use Rattle.geometry.specs.Refusal.{ask}
use Rattle.standalone.specs.Cache.{Cache}
use Rattle.standalone.specs.declared.access.Counts.{Counts}
use Rattle.bench.specs.Asked.{refusal}
use Rattle.bench.specs.Calls.{Model}
use Rattle.bench.specs.Model.{line_caches, separate}
use Rattle.bench.specs.Opened.{No}
use Rattle.bench.specs.BenchTracks.{BenchTracks}
use Rattle.bench.specs.State.{Bench, State}
use Rattle.policy.specs.Suite.{Suite}

-- hits are the cached accesses of each kind without the misses
abbrev pub hits_of : List ℕ → List ℕ → List ℕ
hits_of cached ms = (slice_index cached 0 - slice_index ms 0) ∷ (slice_index cached 1 - slice_index ms 1) ∷ (slice_index cached 2 - slice_index ms 2) ∷ []

-- the record of a line
abbrev pub record_of : List ℕ → List ℕ → Counts
record_of cached ms = record { misses = ms; hits = hits_of cached ms }

-- one record a line
abbrev pub records_of : State → List Counts
records_of b = map (record_of b.cached) b.misses

-- a list of so many records has one for each line
abbrev pub counts_refusal : State → ℕ → Option No
counts_refusal b records = refusal (ask 18 (nat_le (length b.configs) records) ∷ [])

-- the record of a cache run alone
abbrev pub cache_record : Cache → Counts
cache_record c = record { misses = c.misses; hits = c.hits }

-- the totals are those of the reference model, and there are at most the comparisons of the separate caches
pub record TotalsOf (m : Model) (accesses uncached frames comparisons : ℕ) : Type 0 where
  pub same_accesses : accesses ≡ m.accesses
  pub same_uncached : uncached ≡ m.uncached
  pub same_frames : frames ≡ m.frames
  pub few : comparisons ≤ separate m.families

-- so it is for every model that the bench tracks, with whatever words
abbrev pub TotalsTracked : Suite → (List ℕ → Bench) → ℕ → ℕ → ℕ → ℕ → Type 0
TotalsTracked s b accesses uncached frames comparisons = (m : Model) (ws : List ℕ) → BenchTracks s m (b ws) → TotalsOf m accesses uncached frames comparisons

-- and the first records are those of the model's caches, one a line
abbrev pub CountsTracked : Suite → (List ℕ → Bench) → List Counts → Type 0
CountsTracked s b records = (m : Model) (ws : List ℕ) → BenchTracks s m (b ws) → take (length (line_caches m.families)) records ≡ map cache_record (line_caches m.families)
