-- What is written, and what a buffer then holds.
use Rattle.std.specs.Prelude.{ℕ, Bool, cond, List, [], ◌∷◌, ◌++◌, length, drop, Some, None, Ok, Err, codes, decimal, Option, Result, nat_le, unwrap_or}
use Rattle.policy.specs.Three.{Three}
use Rattle.geometry.specs.Line.{line_questions}
use Rattle.geometry.specs.Refusal.{Question, ask, refusal_number}
use Rattle.geometry.specs.declared.line.Line.{Line}
use Rattle.geometry.specs.declared.refusal.Refusal.{Refusal}
use Rattle.jobtext.specs.Fields.{byte}
use Rattle.jobtext.specs.Job.{Blame}

-- whether a buffer holds a text
abbrev pub fits : List ℕ → List ℕ → Bool
fits text buffer = nat_le (length text) (length buffer)

-- what is told: the length of the text, or the number of the first question with a "no"
abbrev pub counted : Option ℕ → List ℕ → Result ℕ ℕ
counted None text = Ok (length text)
counted (Some n) text = Err n

-- the buffer afterwards: the text, and the bytes beyond it as they were; a "no" changes nothing
abbrev pub overwritten : Option ℕ → List ℕ → List ℕ → List ℕ
overwritten None text buffer = text ++ drop (length text) buffer
overwritten (Some n) text buffer = buffer

-- the one question of a text that is always allowed
abbrev pub fit_question : List ℕ → List ℕ → List Question
fit_question text buffer = ask 19 (fits text buffer) ∷ []

-- a length or the number of a refusal
abbrev pub seen_length : Result ℕ Refusal → Result ℕ ℕ
seen_length (Ok n) = Ok n
seen_length (Err e) = Err (refusal_number e)

-- a line feed
abbrev pub feed : List ℕ
feed = 10 ∷ []

-- c,letter,sets,block,ways and a line feed
abbrev pub line_text : Line → List ℕ
line_text line =
    codes "c," ++ (line.letter ∷ codes "," ++ (decimal line.sets ++ (codes "," ++ (decimal line.block ++ (codes "," ++ (decimal line.ways ++ feed))))))

-- what is asked before a table line is written
abbrev pub write_questions : Three → Line → List ℕ → List Question
write_questions p line buffer = line_questions p line ++ fit_question (line_text line) buffer

-- the layer of a fault: T for the text, C for the caches, B for the bench
abbrev pub layer_of : ℕ → ℕ
layer_of n = cond (nat_le n 4) (byte "T") (cond (nat_le n 11) (byte "C") (byte "B"))

-- q,job line,number,layer,table line and a line feed; the table line is 0 where there is none
abbrev pub fault_text : Blame → List ℕ
fault_text b =
    codes "q," ++ (decimal b.job_line ++ (codes "," ++ (decimal b.number ++ (codes "," ++ (layer_of b.number ∷ codes "," ++ (decimal (unwrap_or b.table_line 0) ++ feed))))))
