-- Known passes: small runs of a bench of F, L and P whose outcome is worked out by hand.
use Rattle.std.specs.Prelude.{◌≡◌, ℕ, List, [], ◌∷◌, map, replicate, Some, None, Option}
use Rattle.std.specs.List.{AllByRecursion}
use Rattle.policy.specs.Stack.{fifo_nest, lru_nest}
use Rattle.policy.specs.Standard.{standard}
use Rattle.geometry.specs.declared.line.Line.{Line}
use Rattle.standalone.specs.Known.{read, six_reads}
use Rattle.policy.specs.Suite.{Suite, suite_of}
use Rattle.bench.specs.Calls.{Do, Model, access, model_run, new_model, open_table, window}
use Rattle.bench.specs.Model.{line_caches, separate}
use Rattle.bench.specs.Opened.{No, need}
use Rattle.bench.specs.State.{Bench, bench_answers, bench_run, new_state}

-- the policies F, L and P
abbrev pub standard_suite : Suite
standard_suite = suite_of standard fifo_nest lru_nest

-- A pass: a table, the calls after it is opened, the words of the workspace, and what must come of them.
pub record KnownPass : Type 0 where
  pub table : List Line
  pub calls : List Do
  pub words : ℕ
  -- the words that the table needs
  pub need : ℕ
  -- what the calls answer, that of open first
  pub answers : List (Option No)
  -- misses and hits of each line, by kind
  pub misses : List (List ℕ)
  pub hits : List (List ℕ)
  pub accesses : ℕ
  pub uncached : ℕ
  -- the comparisons of the sweep, and those of the separate caches
  pub comparisons : ℕ
  pub separate : ℕ

-- the table is opened first
abbrev pub all_calls : KnownPass → List Do
all_calls k = open_table k.table ∷ k.calls

-- a new bench, with a workspace of zeros
abbrev pub known_start : KnownPass → Bench
known_start k = record { state = new_state; words = replicate k.words 0 }

-- the bench and the reference model after all calls
abbrev pub known_bench : KnownPass → Bench
known_bench k = bench_run standard_suite (all_calls k) (known_start k)

abbrev pub known_model : KnownPass → Model
known_model k = model_run standard_suite k.words (all_calls k) new_model

-- what must come of a pass does
pub record Stands (k : KnownPass) : Type 0 where
  pub needed : need standard k.table ≡ k.need
  pub answered : bench_answers standard_suite (all_calls k) (known_start k) ≡ k.answers
  -- in the reference model
  pub misses : map (λ c. c.misses) (line_caches (known_model k).families) ≡ k.misses
  pub hits : map (λ c. c.hits) (line_caches (known_model k).families) ≡ k.hits
  pub accesses : (known_model k).accesses ≡ k.accesses
  pub uncached : (known_model k).uncached ≡ k.uncached
  pub apart : separate (known_model k).families ≡ k.separate
  -- and in the bench
  pub missed : (known_bench k).state.misses ≡ k.misses
  pub compared : (known_bench k).state.comparisons ≡ k.comparisons

-- a line of 4 sets of blocks of 16 bytes
abbrev pub line : ℕ → ℕ → Line
line letter ways = record { letter = letter; sets = 4; block = 16; ways = ways }

-- lines of 2 and 3 ways of a policy; they need 2 * 4 words for the direct-mapped cache, and 4 * 4 + 4 * 5 for the rows
abbrev pub two_lines : ℕ → List Line
two_lines letter = line letter 2 ∷ line letter 3 ∷ []

-- The six reads have the tags 7, 8, 9, 7, 6, 7 in set 1. The direct-mapped cache, which no line of one way replaces, never
-- hits: it makes 0 1 1 1 1 1 comparisons. FIFO of 3 ways makes 0 1 2 3 3 3, and hits the fourth read at place 3; FIFO of
-- 2 ways alone makes 0 1 2 2 2 2, and hits the sixth. In the sweep the row of 2 ways follows that of 3, leaves it at the
-- fourth read, and makes 2 2 at the last two. So the sweep makes 5 + 12 + 4, and the separate caches make 5 + 12 + 9.
abbrev pub fifo_pass : KnownPass
fifo_pass = record {
  table = two_lines 70;
  calls = map access six_reads;
  words = 44;
  need = 44;
  answers = replicate 7 None;
  misses = (0 ∷ 5 ∷ 0 ∷ []) ∷ (0 ∷ 5 ∷ 0 ∷ []) ∷ [];
  hits = (0 ∷ 1 ∷ 0 ∷ []) ∷ (0 ∷ 1 ∷ 0 ∷ []) ∷ [];
  accesses = 6;
  uncached = 0;
  comparisons = 21;
  separate = 26;
}

-- LRU of 3 ways makes 0 1 2 3 3 2, and hits the fourth read at place 3 and the sixth at place 2; LRU of 2 ways alone makes
-- 0 1 2 2 2 2, and hits the sixth. In the sweep the row of 2 ways always follows. So the sweep makes 5 + 11, and the
-- separate caches make 5 + 11 + 9.
abbrev pub lru_pass : KnownPass
lru_pass = record {
  table = two_lines 76;
  calls = map access six_reads;
  words = 44;
  need = 44;
  answers = replicate 7 None;
  misses = (0 ∷ 5 ∷ 0 ∷ []) ∷ (0 ∷ 4 ∷ 0 ∷ []) ∷ [];
  hits = (0 ∷ 1 ∷ 0 ∷ []) ∷ (0 ∷ 2 ∷ 0 ∷ []) ∷ [];
  accesses = 6;
  uncached = 0;
  comparisons = 16;
  separate = 25;
}

-- Window 0 ends before the second read, so that only the first is cached; its set is empty, and it is compared with nothing.
abbrev pub window_pass : KnownPass
window_pass = record {
  table = two_lines 70;
  calls = window 0 0 0x1d0 ∷ access (read 0x1cf) ∷ access (read 0x1d0) ∷ [];
  words = 44;
  need = 44;
  answers = replicate 4 None;
  misses = (0 ∷ 1 ∷ 0 ∷ []) ∷ (0 ∷ 1 ∷ 0 ∷ []) ∷ [];
  hits = (0 ∷ 0 ∷ 0 ∷ []) ∷ (0 ∷ 0 ∷ 0 ∷ []) ∷ [];
  accesses = 2;
  uncached = 1;
  comparisons = 0;
  separate = 0;
}

-- One word is missing, so that open is refused: the bench has no lines, and a read is counted.
abbrev pub short_pass : KnownPass
short_pass = record {
  table = two_lines 70;
  calls = access (read 0x1d0) ∷ [];
  words = 43;
  need = 44;
  answers = Some (record { number = 11; line = 0 }) ∷ None ∷ [];
  misses = [];
  hits = [];
  accesses = 1;
  uncached = 0;
  comparisons = 0;
  separate = 0;
}

abbrev pub known_passes : List KnownPass
known_passes = fifo_pass ∷ lru_pass ∷ window_pass ∷ short_pass ∷ []

-- every known pass comes out as it must
abbrev pub KnownPasses : Type 0
KnownPasses = AllByRecursion Stands known_passes
