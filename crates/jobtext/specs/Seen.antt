-- What a record of the code says: the plain data behind its references.
use Rattle.std.specs.Prelude.{ℕ, Some, None, Ok, Err, Option, Result}
use Rattle.geometry.specs.Refusal.{refusal_number}
use Rattle.geometry.specs.declared.refusal.Refusal.{Refusal}
use Rattle.jobtext.specs.declared.record.Record.{Record}
use Rattle.jobtext.specs.declared.record.Record.TheVariants.{Table, Open, Access, Window, Off, Frame, Flush, Zero, Comment}
use Rattle.jobtext.specs.declared.record.TextLine.{TextLine}
use Rattle.jobtext.specs.declared.fault.Fault.{Fault}
use Rattle.jobtext.specs.Job.{Answer, Blame}
use Rattle.jobtext.specs.Entries.{Entry, table, opened, access, window, off, frame, flush, zeroed, comment}

-- a record: references are read, and numbers are their digits
abbrev pub entry_of : Record → Entry
entry_of (Table letter sets block ways) = table letter sets.digits.now block.digits.now ways.digits.now
entry_of Open = opened
entry_of (Access kind address) = access kind address.digits.now
entry_of (Window number first end) = window number.digits.now first.digits.now end.digits.now
entry_of (Off number) = off number.digits.now
entry_of Frame = frame
entry_of Flush = flush
entry_of Zero = zeroed
entry_of (Comment bytes) = comment bytes.now

-- a record or the number of a refusal
abbrev pub seen : Result Record Refusal → Result Entry ℕ
seen (Ok r) = Ok (entry_of r)
seen (Err e) = Err (refusal_number e)

-- a record with its length, or the number of a refusal
abbrev pub seen_line : Result TextLine Refusal → Result (Entry × ℕ) ℕ
seen_line (Ok l) = Ok (entry_of l.record, l.length)
seen_line (Err e) = Err (refusal_number e)

-- a fault
abbrev pub blame_of : Fault → Blame
blame_of f = record { number = refusal_number f.refusal; job_line = f.job_line; table_line = f.table_line }

-- what a step of the reader answers
abbrev pub seen_step : Result (Option TextLine) Fault → Answer
seen_step (Ok None) = Ok None
seen_step (Ok (Some l)) = Ok (Some (entry_of l.record, l.length))
seen_step (Err f) = Err (blame_of f)
