-- A sweep over lines that tell where their levels end.
use Rattle.std.specs.Prelude.{ℕ, List, Option}
use Rattle.bench.specs.Rows.{Stepped}
use Rattle.bench.specs.Mixed.{Leads, Owned}
use Rattle.bench.specs.Level.{Done}
use Rattle.bench.specs.Spans.{SpansFamilies, SpansLevels}
use Rattle.bench.specs.Sweep.{sweep_families, sweep_levels}
use Rattle.bench.specs.Table.{Family, Level}
use Rattle.bench.specs.declared.open_line.OpenLine.{OpenLine}

-- the levels of one block size
abbrev pub LevelsDone : (Owned → ℕ → Leads → Stepped) → ℕ → ℕ → List OpenLine → List (List ℕ) → List ℕ → List (List ℕ) → List ℕ → ℕ → Type 0
LevelsDone f address kind lines ms words ms' words' comparisons =
    (b : ℕ) (ls : List Level) → SpansLevels b ls lines → Done (sweep_levels f b address ls words) kind ms ms' words' comparisons

-- all levels
abbrev pub FamiliesDone : (Owned → ℕ → Leads → Stepped) → Option ℕ → ℕ → ℕ → List OpenLine → List (List ℕ) → List ℕ → List (List ℕ) → List ℕ → ℕ → Type 0
FamiliesDone f last address kind lines ms words ms' words' comparisons =
    (fs : List Family) → SpansFamilies fs lines → Done (sweep_families f last address fs words) kind ms ms' words' comparisons
