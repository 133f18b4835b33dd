-- What a sweep makes of one set of a level, in the workspace's words.
use Rattle.std.specs.Prelude.{◌≡◌, ℕ, List}
use Rattle.bench.specs.Rows.{Stepped}
use Rattle.bench.specs.Mixed.{Leads, Owned, SweptAll, sweep_all}
use Rattle.bench.specs.Words.{Kin, rows_at, spread, wide, with_rows}
use Rattle.bench.specs.Entries.{Entry, all_counted, capped, kin_of, misses_of}

-- the sweep of the rows of set i, one a line
abbrev pub sweep_at : (Owned → ℕ → Leads → Stepped) → ℕ → ℕ → ℕ → List Kin → List ℕ → SweptAll
sweep_at f s i t ks ws = sweep_all f (rows_at s i ks ws) t

-- misses and words before and after it, the comparisons, and what narrower rows would be told; ks are the policies and
-- ways of the lines
pub record SetSwept (f : Owned → ℕ → Leads → Stepped) (s i t kind : ℕ) (ks : List Kin) (ms : List (List ℕ)) (words : List ℕ) (ms' : List (List ℕ)) (words' : List ℕ) (comparisons : ℕ) (leads : Leads) : Type 0 where
  pub rows : words' ≡ with_rows s i (wide ks) (sweep_at f s i t (wide ks) words).rows words
  pub misses : ms' ≡ all_counted kind (spread ks (sweep_at f s i t (wide ks) words).hits) ms
  pub compared : comparisons ≡ capped (sweep_at f s i t (wide ks) words).comparisons
  pub told : leads ≡ (sweep_at f s i t (wide ks) words).leads

-- the same of lines that keep their own misses
pub record RowsSwept (f : Owned → ℕ → Leads → Stepped) (s i t kind : ℕ) (lines : List Entry) (words : List ℕ) (lines' : List Entry) (words' : List ℕ) (comparisons : ℕ) (leads : Leads) : Type 0 where
  pub rows : words' ≡ with_rows s i (wide (kin_of lines)) (sweep_at f s i t (wide (kin_of lines)) words).rows words
  pub misses : misses_of lines' ≡ all_counted kind (spread (kin_of lines) (sweep_at f s i t (wide (kin_of lines)) words).hits) (misses_of lines)
  pub kin : kin_of lines' ≡ kin_of lines
  pub compared : comparisons ≡ capped (sweep_at f s i t (wide (kin_of lines)) words).comparisons
  pub told : leads ≡ (sweep_at f s i t (wide (kin_of lines)) words).leads
