-- The words of the rows in the workspace. A row has a lead word and the policy's own words; a line of a ways has a row of
-- a + 2 words for each of its s sets, by rising set.
use Rattle.std.specs.Prelude.{ℕ, ◌+◌, ◌-◌, ◌*◌, Bool, false, cond, List, [], ◌∷◌, ◌++◌, length, take, drop, nat_le, slice_index}
use Rattle.standalone.specs.Rows.{row_at, with_row}
use Rattle.policy.specs.declared.three.Member.{Member}
use Rattle.bench.specs.Rows.{Slot}
use Rattle.bench.specs.Mixed.{Owned}

-- the policy and the ways of a line
pub record Kin : Type 0 where
  pub member : Member
  pub ways : ℕ

-- the row that the words of one set hold
abbrev pub slot_of : List ℕ → Slot
slot_of ws = record { ways = length ws - 2; lead = slice_index ws 0; row = drop 1 ws }

-- and the words of a row
abbrev pub words_of : Slot → List ℕ
words_of x = x.lead ∷ x.row

-- the words of a line
abbrev pub line_words : ℕ → ℕ → ℕ
line_words s a = s * (a + 2)

-- a line of one way has no rows: the level's direct-mapped cache serves it
abbrev pub one_way : Kin → Bool
one_way k = nat_le k.ways 1

-- the wider lines
abbrev pub wide : List Kin → List Kin
wide [] = []
wide (k ∷ ks) = cond (one_way k) (wide ks) (k ∷ wide ks)

-- the words of a line's rows
abbrev pub row_words : ℕ → Kin → ℕ
row_words s k = cond (one_way k) 0 (line_words s k.ways)

-- what each line did where the direct-mapped cache missed: a line of one way missed, the others as their rows tell
abbrev pub spread : List Kin → List Bool → List Bool
spread [] hits = []
spread (k ∷ ks) [] = cond (one_way k) (false ∷ spread ks []) []
spread (k ∷ ks) (h ∷ hits) = cond (one_way k) (false ∷ spread ks (h ∷ hits)) (h ∷ spread ks hits)

-- the words of lines of these policies and ways
abbrev pub lines_words : ℕ → List Kin → ℕ
lines_words s [] = 0
lines_words s (k ∷ ks) = line_words s k.ways + lines_words s ks

-- the rows of set i, one a line
abbrev pub rows_at : ℕ → ℕ → List Kin → List ℕ → List Owned
rows_at s i [] ws = []
rows_at s i (k ∷ ks) ws = record { member = k.member; slot = slot_of (row_at (k.ways + 2) i (take (line_words s k.ways) ws)) } ∷ rows_at s i ks (drop (line_words s k.ways) ws)

-- the words with other rows of set i
abbrev pub with_rows : ℕ → ℕ → List Kin → List Owned → List ℕ → List ℕ
with_rows s i [] xs ws = ws
with_rows s i (k ∷ ks) [] ws = ws
with_rows s i (k ∷ ks) (x ∷ xs) ws = with_row (k.ways + 2) i (take (line_words s k.ways) ws) (words_of x.slot) ++ with_rows s i ks xs (drop (line_words s k.ways) ws)
