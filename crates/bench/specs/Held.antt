-- What the code of a bench holds, as a state.
use Rattle.std.specs.Prelude.{ℕ, List, length, take}
use Rattle.bench.specs.Spans.{configs}
use Rattle.bench.specs.State.{Bench, State}
use Rattle.bench.specs.declared.open_line.OpenLine.{OpenLine}
use Rattle.bench.specs.declared.held.Held.{Held}
use Rattle.bench.specs.declared.table.Table.{Table}

-- the lines of a table that are in use
abbrev pub lines_of : Table → List OpenLine
lines_of t = t.lines.items

abbrev pub state_of : Held → State
state_of h = record {
  configs = configs (lines_of h.table);
  misses = take (length h.table.lines.items) h.misses;
  cached = h.tally.cached;
  last = h.last;
  windows = h.windows.table;
  accesses = h.tally.accesses;
  uncached = h.tally.uncached;
  frames = h.tally.frames;
  comparisons = h.tally.comparisons;
}

-- with the words of its workspace
abbrev pub bench_of : Held → List ℕ → Bench
bench_of h ws = record { state = state_of h; words = ws }
