-- What an open asks of a table.
use Rattle.std.specs.Prelude.{ℕ, suc, Bool, true, cond, ◌&&◌, ◌||◌, List, [], ◌∷◌, ◌++◌, map, length, Some, None, Option, ◌==◌, nat_le, nat_lt}
use Rattle.policy.specs.Three.{Three}
use Rattle.geometry.specs.Refusal.{ask, first_no}
use Rattle.geometry.specs.Line.{line_questions}
use Rattle.geometry.specs.declared.line.Line.{Line}
use Rattle.bench.specs.Table.{config_of, families, families_words}

-- A refusal: its number, and the table line that it is about, from 1, or 0.
pub record No : Type 0 where
  pub number : ℕ
  pub line : ℕ

-- the order of lines: by block size, then sets, then letter, then ways
abbrev pub before : Line → Line → Bool
before x y =
    nat_lt x.block y.block
    || (x.block == y.block && (nat_lt x.sets y.sets
    || (x.sets == y.sets && (nat_lt x.letter y.letter
    || (x.letter == y.letter && nat_lt x.ways y.ways)))))

-- a line is greater than the last one, if there is one
abbrev pub in_order : Option Line → Line → Bool
in_order None y = true
in_order (Some x) y = before x y

-- a "no" about line i
abbrev pub at_line : ℕ → Option ℕ → Option No
at_line i None = None
at_line i (Some n) = Some (record { number = n; line = i })

-- the first "no" of two
abbrev pub or_else : Option No → Option No → Option No
or_else None y = y
or_else (Some x) y = Some x

-- a question that is not about one line
abbrev pub unless : Bool → ℕ → Option No
unless passes n = cond passes None (Some (record { number = n; line = 0 }))

-- line after line: the questions of the line itself, then whether it is greater than the last
abbrev pub lines_refusal : Three → ℕ → Option Line → List Line → Option No
lines_refusal p i last [] = None
lines_refusal p i last (l ∷ ls) = or_else (at_line i (first_no (line_questions p l ++ (ask 10 (in_order last l) ∷ [])))) (lines_refusal p (suc i) (Some l) ls)

-- the words that a table needs
abbrev pub need : Three → List Line → ℕ
need p lines = families_words (families (map (config_of p) lines))

-- 1 to 64 lines, each allowed and greater than the one before
abbrev pub table_refusal : Three → List Line → Option No
table_refusal p lines = or_else (unless (nat_le 1 (length lines) && nat_le (length lines) 64) 5) (lines_refusal p 1 None lines)

-- then a workspace as long as the need
abbrev pub open_refusal : Three → List Line → ℕ → Option No
open_refusal p lines words = or_else (table_refusal p lines) (unless (nat_le (need p lines) words) 11)
