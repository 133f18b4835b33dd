-- What a bench holds, and what the sweep makes of each call.
use Rattle.std.specs.Prelude.{ℕ, ◌+◌, min, false, cond, List, [], ◌∷◌, ◌++◌, map, length, drop, replicate, Some, None, Option, slice_set}
use Rattle.standalone.specs.declared.access.Access.{Access}
use Rattle.geometry.specs.declared.line.Line.{Line}
use Rattle.bench.specs.Asked.{access_refusal, flush_refusal, frame_refusal, off_refusal, window_refusal}
use Rattle.bench.specs.Calls.{Do, open_table, access, window, off, flush, zero, frame, unless_refused}
use Rattle.bench.specs.Entries.{all_counted, capped, counted}
use Rattle.bench.specs.Level.{Visited}
use Rattle.bench.specs.Mixed.{own_step}
use Rattle.bench.specs.Opened.{No, open_refusal}
use Rattle.bench.specs.Start.{started}
use Rattle.policy.specs.Suite.{Suite}
use Rattle.bench.specs.Sweep.{sweep_families}
use Rattle.bench.specs.Table.{Config, config_of, families, families_words}
use Rattle.bench.specs.Window.{cached, new_windows, off_window, on_window}
use Rattle.bench.specs.declared.window.Window.{Window}

-- What a bench holds beside its policies.
pub record State : Type 0 where
  -- the lines of its table, and their misses of each kind
  pub configs : List Config
  pub misses : List (List ℕ)
  -- the cached accesses of each kind
  pub cached : List ℕ
  -- the address of the last cached access since open or flush, if there is one
  pub last : Option ℕ
  pub windows : List (Option Window)
  pub accesses : ℕ
  pub uncached : ℕ
  pub frames : ℕ
  -- the comparisons that are reported
  pub comparisons : ℕ

-- a bench and the words of its workspace
pub record Bench : Type 0 where
  pub state : State
  pub words : List ℕ

abbrev pub new_state : State
new_state = record { configs = []; misses = []; cached = 0 ∷ 0 ∷ 0 ∷ []; last = None; windows = new_windows; accesses = 0; uncached = 0; frames = 0; comparisons = 0 }

-- a new bench, with words of any kind
abbrev pub new_bench : List ℕ → Bench
new_bench ws = record { state = new_state; words = ws }

-- no misses of any kind, for each line
abbrev pub no_misses : ℕ → List (List ℕ)
no_misses n = replicate n (0 ∷ 0 ∷ 0 ∷ [])

-- a count that stops at 4,294,967,295, which no run reaches
abbrev pub more : ℕ → ℕ
more n = min (n + 1) 4294967295

-- the words that the table needs
abbrev pub state_need : State → ℕ
state_need b = families_words (families b.configs)

-- the words of the table started again
abbrev pub restarted : Suite → List Config → List ℕ → List ℕ
restarted s cs ws = started s (families cs) ++ drop (families_words (families cs)) ws

abbrev pub open_state : Suite → List Line → Bench → Bench
open_state s lines b = record {
  state = record {
    configs = map (config_of s.three) lines;
    misses = no_misses (length lines);
    cached = 0 ∷ 0 ∷ 0 ∷ [];
    last = None;
    windows = b.state.windows;
    accesses = 0;
    uncached = 0;
    frames = 0;
    comparisons = 0;
  };
  words = restarted s (map (config_of s.three) lines) b.words;
}

-- the sweep of a cached access
abbrev pub swept : Suite → Access → Bench → Visited
swept s x b = sweep_families (own_step s) b.state.last x.address (families b.state.configs) b.words

abbrev pub after_sweep : Access → Visited → State → State
after_sweep x v b = record {
  configs = b.configs;
  misses = all_counted x.kind v.hits b.misses;
  cached = counted x.kind false b.cached;
  last = Some x.address;
  windows = b.windows;
  accesses = b.accesses + 1;
  uncached = b.uncached;
  frames = b.frames;
  comparisons = capped (b.comparisons + v.comparisons);
}

abbrev pub touch_state : Suite → Access → Bench → Bench
touch_state s x b = record { state = after_sweep x (swept s x b) b.state; words = (swept s x b).words }

-- an uncached access is counted
abbrev pub pass_state : State → State
pass_state b = record {
  configs = b.configs;
  misses = b.misses;
  cached = b.cached;
  last = b.last;
  windows = b.windows;
  accesses = b.accesses + 1;
  uncached = more b.uncached;
  frames = b.frames;
  comparisons = b.comparisons;
}

abbrev pub access_state : Suite → Access → Bench → Bench
access_state s x b = cond (cached b.state.windows x.address) (touch_state s x b) (record { state = pass_state b.state; words = b.words })

abbrev pub window_state : List (Option Window) → State → State
window_state ws b = record {
  configs = b.configs;
  misses = b.misses;
  cached = b.cached;
  last = b.last;
  windows = ws;
  accesses = b.accesses;
  uncached = b.uncached;
  frames = b.frames;
  comparisons = b.comparisons;
}

-- a flush forgets the last access
abbrev pub flush_state : State → State
flush_state b = record {
  configs = b.configs;
  misses = b.misses;
  cached = b.cached;
  last = None;
  windows = b.windows;
  accesses = b.accesses;
  uncached = b.uncached;
  frames = b.frames;
  comparisons = b.comparisons;
}

-- zero does not
abbrev pub zero_state : State → State
zero_state b = record {
  configs = b.configs;
  misses = no_misses (length b.configs);
  cached = 0 ∷ 0 ∷ 0 ∷ [];
  last = b.last;
  windows = b.windows;
  accesses = 0;
  uncached = 0;
  frames = b.frames;
  comparisons = 0;
}

abbrev pub frame_state : State → State
frame_state b = record {
  configs = b.configs;
  misses = b.misses;
  cached = b.cached;
  last = b.last;
  windows = b.windows;
  accesses = b.accesses;
  uncached = b.uncached;
  frames = b.frames + 1;
  comparisons = b.comparisons;
}

-- What a call asks of the bench.
abbrev pub bench_refusal : Suite → Bench → Do → Option No
bench_refusal s b (open_table lines) = open_refusal s.three lines (length b.words)
bench_refusal s b (access x) = access_refusal (state_need b.state) (length b.words) b.state.accesses x
bench_refusal s b (window number first end) = window_refusal number first end
bench_refusal s b (off number) = off_refusal number
bench_refusal s b flush = flush_refusal (state_need b.state) (length b.words)
bench_refusal s b zero = None
bench_refusal s b frame = frame_refusal b.state.frames

-- and what it does where it passes
abbrev pub bench_does : Suite → Do → Bench → Bench
bench_does s (open_table lines) b = open_state s lines b
bench_does s (access x) b = access_state s x b
bench_does s (window number first end) b = record { state = window_state (slice_set b.state.windows number (on_window first end)) b.state; words = b.words }
bench_does s (off number) b = record { state = window_state (slice_set b.state.windows number off_window) b.state; words = b.words }
bench_does s flush b = record { state = flush_state b.state; words = restarted s b.state.configs b.words }
bench_does s zero b = record { state = zero_state b.state; words = b.words }
bench_does s frame b = record { state = frame_state b.state; words = b.words }

abbrev pub bench_after : Suite → Do → Bench → Bench
bench_after s c b = unless_refused (bench_refusal s b c) b (bench_does s c b)

-- call after call
abbrev pub bench_run : Suite → List Do → Bench → Bench
bench_run s [] b = b
bench_run s (c ∷ cs) b = bench_run s cs (bench_after s c b)

abbrev pub bench_answers : Suite → List Do → Bench → List (Option No)
bench_answers s [] b = []
bench_answers s (c ∷ cs) b = bench_refusal s b c ∷ bench_answers s cs (bench_after s c b)
