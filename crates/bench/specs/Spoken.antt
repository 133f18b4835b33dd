-- Calls and answers as the code has them.
use Rattle.std.specs.Prelude.{ℕ, List, map, take, Some, None, Ok, Err, Option, Result}
use Rattle.geometry.specs.Refusal.{refusal_number}
use Rattle.geometry.specs.declared.refusal.Refusal.{Refusal}
use Rattle.bench.specs.Calls.{Do, open_table, access, window, off, flush, zero, frame}
use Rattle.bench.specs.Opened.{No}
use Rattle.bench.specs.Refused.{no_of}
use Rattle.bench.specs.declared.call.Call.{Call}
use Rattle.bench.specs.declared.call.Call.TheVariants.{Flush, Zero, Frame, Open, Access, Window, Off}
use Rattle.bench.specs.declared.refused.Refused.{Refused}

-- what a call tells a bench to do
abbrev pub do_of : Call → Do
do_of Flush = flush
do_of Zero = zero
do_of Frame = frame
do_of (Open lines) = open_table lines.now
do_of (Access x) = access x
do_of (Window number first end) = window number first end
do_of (Off number) = off number

-- what the first n calls of a list tell it to do
abbrev pub spoken : ℕ → List Call → List Do
spoken n calls = map do_of (take n calls)

-- the number and the table line of an answer
abbrev pub answer_of : Result Unit Refused → Option No
answer_of (Ok x) = None
answer_of (Err r) = Some (no_of r)

-- and of one that is about no table line
abbrev pub reply : Result Unit Refusal → Option No
reply (Ok x) = None
reply (Err e) = Some (record { number = refusal_number e; line = 0 })
