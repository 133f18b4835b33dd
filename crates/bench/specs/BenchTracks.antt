-- A bench and its workspace beside the reference model.
use Rattle.std.specs.Prelude.{◌≡◌, ℕ, ◌<◌, ◌≤◌, map, length, None, slice_index}
use Rattle.std.specs.List.{AllByRecursion}
use Rattle.policy.specs.Suite.{Suite}
use Rattle.bench.specs.Calls.{Model}
use Rattle.bench.specs.Kept.{FamiliesKept, HeldLast}
use Rattle.bench.specs.Model.{family_of, line_caches, separate}
use Rattle.bench.specs.Opened.{table_refusal}
use Rattle.bench.specs.State.{Bench}
use Rattle.bench.specs.Sums.{Summed}
use Rattle.bench.specs.Table.{config_of, families}
use Rattle.bench.specs.Tracks.{FamiliesTrack}

pub record BenchTracks (s : Suite) (m : Model) (b : Bench) : Type 0 where
  -- the table is the same, and was accepted if it has lines
  pub configs : b.state.configs ≡ map (config_of s.three) m.lines
  pub accepted : 0 < length m.lines → table_refusal s.three m.lines ≡ None
  pub shape : map family_of m.families ≡ families b.state.configs
  -- the words stand beside the caches, and the last access would hit everywhere
  pub kept : FamiliesKept s m.families
  pub words : FamiliesTrack s m.families b.words
  pub last : HeldLast b.state.last m.families
  -- misses are those of the caches, and hits are the cached accesses without them
  pub misses : b.state.misses ≡ map (λ c. c.misses) (line_caches m.families)
  pub hits : AllByRecursion (Summed b.state.cached) (line_caches m.families)
  -- windows and totals are the same
  pub windows : b.state.windows ≡ m.windows
  pub accesses : b.state.accesses ≡ m.accesses
  pub uncached : b.state.uncached ≡ m.uncached
  pub frames : b.state.frames ≡ m.frames
  -- counts by kind are counts of accesses, which fit 32 bits
  pub kinds : length b.state.cached ≡ 3
  pub cached_few : (k : ℕ) → slice_index b.state.cached k ≤ b.state.accesses
  pub uncached_few : b.state.uncached ≤ b.state.accesses
  pub accesses_few : b.state.accesses ≤ 4294967295
  -- and the comparisons are at most those of the separate caches
  pub few : b.state.comparisons ≤ separate m.families
