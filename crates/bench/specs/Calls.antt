-- The calls of a bench, and what each means in the reference model.
use Rattle.std.specs.Prelude.{ℕ, ◌+◌, cond, List, [], ◌∷◌, map, replicate, Some, None, Option, slice_set}
use Rattle.geometry.specs.declared.line.Line.{Line}
use Rattle.standalone.specs.declared.access.Access.{Access}
use Rattle.bench.specs.Asked.{access_refusal, flush_refusal, frame_refusal, off_refusal, window_refusal}
use Rattle.bench.specs.Model.{FamilyModel, LevelModel, LineModel, new_family, touch_family}
use Rattle.bench.specs.Opened.{No, need, open_refusal}
use Rattle.policy.specs.Suite.{Suite, meaning}
use Rattle.bench.specs.Table.{config_of, families}
use Rattle.bench.specs.Window.{cached, new_windows, off_window, on_window}
use Rattle.bench.specs.declared.window.Window.{Window}

-- What a bench is told to do.
pub data Do : Type 0 where
  open_table : List Line → Do
  access : Access → Do
  window : ℕ → ℕ → ℕ → Do
  off : ℕ → Do
  flush : Do
  zero : Do
  frame : Do

-- The reference model: a table with its caches, the windows, and what is counted.
pub record Model : Type 0 where
  pub lines : List Line
  pub families : List FamilyModel
  pub windows : List (Option Window)
  pub accesses : ℕ
  pub uncached : ℕ
  pub frames : ℕ

-- a new one has no lines, window 0 holds every address, and nothing is counted
abbrev pub new_model : Model
new_model = record { lines = []; families = []; windows = new_windows; accesses = 0; uncached = 0; frames = 0 }

-- new caches for the lines and levels of a table; the windows stay
abbrev pub opened : Suite → List Line → Model → Model
opened s lines m = record { lines = lines; families = map (new_family s) (families (map (config_of s.three) lines)); windows = m.windows; accesses = 0; uncached = 0; frames = 0 }

-- a cached access touches its tag in the row of its set, in every cache; an uncached one touches none
abbrev pub touched : Suite → Access → Model → Model
touched s x m = record { lines = m.lines; families = map (touch_family s x) m.families; windows = m.windows; accesses = m.accesses + 1; uncached = m.uncached; frames = m.frames }

abbrev pub passed_by : Model → Model
passed_by m = record { lines = m.lines; families = m.families; windows = m.windows; accesses = m.accesses + 1; uncached = m.uncached + 1; frames = m.frames }

abbrev pub accessed : Suite → Access → Model → Model
accessed s x m = cond (cached m.windows x.address) (touched s x m) (passed_by m)

-- other windows
abbrev pub with_windows : List (Option Window) → Model → Model
with_windows ws m = record { lines = m.lines; families = m.families; windows = ws; accesses = m.accesses; uncached = m.uncached; frames = m.frames }

-- a flush starts all rows again and empties the direct-mapped caches; counts stay
abbrev pub flush_line : Suite → ℕ → LineModel → LineModel
flush_line s sets l = record {
  kin = l.kin;
  cache = record {
    rows = replicate sets ((meaning s l.kin.member).start (l.kin.ways + 1));
    misses = l.cache.misses;
    hits = l.cache.hits;
    comparisons = l.cache.comparisons;
  };
}

abbrev pub flush_level : Suite → LevelModel → LevelModel
flush_level s l = record { sets = l.sets; direct = record { tags = replicate l.sets None; comparisons = l.direct.comparisons }; lines = map (flush_line s l.sets) l.lines }

abbrev pub flush_family : Suite → FamilyModel → FamilyModel
flush_family s f = record { block = f.block; levels = map (flush_level s) f.levels }

abbrev pub flushed : Suite → Model → Model
flushed s m = record { lines = m.lines; families = map (flush_family s) m.families; windows = m.windows; accesses = m.accesses; uncached = m.uncached; frames = m.frames }

-- zero sets the counts to 0, and keeps rows and frames
abbrev pub zero_line : LineModel → LineModel
zero_line l = record { kin = l.kin; cache = record { rows = l.cache.rows; misses = 0 ∷ 0 ∷ 0 ∷ []; hits = 0 ∷ 0 ∷ 0 ∷ []; comparisons = 0 } }

abbrev pub zero_level : LevelModel → LevelModel
zero_level l = record { sets = l.sets; direct = record { tags = l.direct.tags; comparisons = 0 }; lines = map zero_line l.lines }

abbrev pub zero_family : FamilyModel → FamilyModel
zero_family f = record { block = f.block; levels = map zero_level f.levels }

abbrev pub zeroed : Model → Model
zeroed m = record { lines = m.lines; families = map zero_family m.families; windows = m.windows; accesses = 0; uncached = 0; frames = m.frames }

-- one frame more
abbrev pub framed : Model → Model
framed m = record { lines = m.lines; families = m.families; windows = m.windows; accesses = m.accesses; uncached = m.uncached; frames = m.frames + 1 }

-- What a call asks of the model with a workspace of so many words; none is a call that passes.
abbrev pub model_refusal : Suite → ℕ → Model → Do → Option No
model_refusal s words m (open_table lines) = open_refusal s.three lines words
model_refusal s words m (access x) = access_refusal (need s.three m.lines) words m.accesses x
model_refusal s words m (window number first end) = window_refusal number first end
model_refusal s words m (off number) = off_refusal number
model_refusal s words m flush = flush_refusal (need s.three m.lines) words
model_refusal s words m zero = None
model_refusal s words m frame = frame_refusal m.frames

-- and what it does where it passes
abbrev pub model_does : Suite → Do → Model → Model
model_does s (open_table lines) m = opened s lines m
model_does s (access x) m = accessed s x m
model_does s (window number first end) m = with_windows (slice_set m.windows number (on_window first end)) m
model_does s (off number) m = with_windows (slice_set m.windows number off_window) m
model_does s flush m = flushed s m
model_does s zero m = zeroed m
model_does s frame m = framed m

-- a refused call does nothing
abbrev pub unless_refused : {A : Type 0} → Option No → A → A → A
unless_refused None before after = after
unless_refused (Some n) before after = before

abbrev pub model_after : Suite → ℕ → Do → Model → Model
model_after s words c m = unless_refused (model_refusal s words m c) m (model_does s c m)

-- call after call: the model, and what each answered
abbrev pub model_run : Suite → ℕ → List Do → Model → Model
model_run s words [] m = m
model_run s words (c ∷ cs) m = model_run s words cs (model_after s words c m)

abbrev pub model_answers : Suite → ℕ → List Do → Model → List (Option No)
model_answers s words [] m = []
model_answers s words (c ∷ cs) m = model_refusal s words m c ∷ model_answers s words cs (model_after s words c m)
