-- How a job is read: its part, its table and its line numbers.
use Rattle.std.specs.Prelude.{ℕ, ◌+◌, ◌-◌, ◌^◌, min, Bool, true, false, List, [], ◌∷◌, ◌++◌, length, Some, None, Ok, Err, Option, Result, nat_lt}
use Rattle.geometry.specs.Refusal.{Question, ask, first_no}
use Rattle.geometry.specs.declared.line.Line.{Line}
use Rattle.jobtext.specs.declared.reader.Part.{Part}
use Rattle.jobtext.specs.declared.reader.Part.TheVariants as part
use Rattle.jobtext.specs.declared.record.LineKind.{LineKind}
use Rattle.jobtext.specs.declared.record.LineKind.TheVariants as kind
use Rattle.jobtext.specs.Numbers.{digits_value}
use Rattle.jobtext.specs.Entries.{Entry, table, opened, access, window, off, frame, flush, zeroed, comment}
use Rattle.jobtext.specs.Forms.{read_text}

-- the line of the table that a table line says
abbrev pub table_line : ℕ → List ℕ → List ℕ → List ℕ → Line
table_line letter sets block ways = record { letter = letter; sets = digits_value 10 sets; block = digits_value 10 block; ways = digits_value 10 ways }

-- where a line may stand
abbrev pub kind_of : Entry → LineKind
kind_of (table letter sets block ways) = kind.Table (table_line letter sets block ways)
kind_of opened = kind.Open
kind_of (access what address) = kind.Run
kind_of (window number first end) = kind.Run
kind_of (off number) = kind.Run
kind_of frame = kind.Run
kind_of flush = kind.Run
kind_of zeroed = kind.Run
kind_of (comment bytes) = kind.Comment

-- how far a job is read: the part, the table so far, and the number of the next line, from 1
pub record State : Type 0 where
  pub part : Part
  pub lines : List Line
  pub job_line : ℕ

-- before the first line
abbrev pub before_all : State
before_all = record { part = part.Table; lines = []; job_line = 1 }

-- whether a line belongs in a part
abbrev pub belongs : Part → LineKind → Bool
belongs part.Table (kind.Table line) = true
belongs part.Table kind.Open = true
belongs part.Table kind.Run = false
belongs part.Table kind.Comment = true
belongs part.Run (kind.Table line) = false
belongs part.Run kind.Open = false
belongs part.Run kind.Run = true
belongs part.Run kind.Comment = true

-- the table has at most 64 lines
abbrev pub room_for : List Line → LineKind → Bool
room_for lines (kind.Table line) = nat_lt (length lines) 64
room_for lines kind.Open = true
room_for lines kind.Run = true
room_for lines kind.Comment = true

-- what is asked of a line that was read
abbrev pub questions : State → Entry → List Question
questions s entry = ask 4 (belongs s.part (kind_of entry)) ∷ ask 5 (room_for s.lines (kind_of entry)) ∷ []

-- `g` opens the table
abbrev pub part_after : Part → LineKind → Part
part_after p (kind.Table line) = p
part_after p kind.Open = part.Run
part_after p kind.Run = p
part_after p kind.Comment = p

-- the number of the next line, as far as 64 bits hold it
abbrev pub next_line : ℕ → ℕ
next_line n = min (n + 1) (2 ^ 64 - 1)

-- on to the next line, in this part
abbrev pub moved : Part → State → State
moved p s = record { part = p; lines = s.lines; job_line = next_line s.job_line }

-- one line more in the table
abbrev pub added : Line → State → State
added line s = record { part = s.part; lines = s.lines ++ line ∷ []; job_line = s.job_line }

-- a table line goes into the table
abbrev pub listed : LineKind → State → State
listed (kind.Table line) s = added line s
listed kind.Open s = s
listed kind.Run s = s
listed kind.Comment s = s

-- the state after a line that was let in
abbrev pub admitted : State → Entry → State
admitted s entry = moved (part_after s.part (kind_of entry)) (listed (kind_of entry) s)

-- a fault: the number of the question, the job line, and the table line if there is one
pub record Blame : Type 0 where
  pub number : ℕ
  pub job_line : ℕ
  pub table_line : Option ℕ

-- the fault of the next line, which is of no table line
abbrev pub blame_at : State → ℕ → Blame
blame_at s n = record { number = n; job_line = s.job_line; table_line = None }

-- what a step answers: nothing at the end, a line and its length, or a fault
abbrev pub Answer : Type 0
Answer = Result (Option (Entry × ℕ)) Blame

-- a line that was read, unless a question is answered by "no"
abbrev pub judged : State → Option ℕ → Entry → ℕ → Answer
judged s None entry n = Ok (Some (entry, n))
judged s (Some k) entry n = Err (blame_at s k)

-- a line that was read, or that was not
abbrev pub by_line : State → Result (Entry × ℕ) ℕ → Answer
by_line s (Ok l) = judged s (first_no (questions s l.0)) l.0 l.1
by_line s (Err k) = Err (blame_at s k)

-- the next line of a job; an empty rest ends it
abbrev pub answer : State → List ℕ → Answer
answer s [] = Ok None
answer s (b ∷ bs) = by_line s (read_text (b ∷ bs))

-- the state after an answer: a fault changes nothing
abbrev pub after : State → Answer → State
after s (Ok None) = s
after s (Ok (Some l)) = admitted s l.0
after s (Err f) = s
