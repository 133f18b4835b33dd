-- Refusals as the code tells them.
use Rattle.std.specs.Prelude.{◌≡◌, ℕ, ◌<◌, Some, None, Option, Result, IfErr, IfSome, MatchResult}
use Rattle.geometry.specs.Refusal.{refusal_number}
use Rattle.bench.specs.Opened.{No}
use Rattle.bench.specs.declared.refused.Refused.{Refused}

-- the table line of a refusal, or 0 where it is about none
abbrev pub line_of : Option ℕ → ℕ
line_of None = 0
line_of (Some i) = i

-- the number of a refusal, and its table line
abbrev pub no_of : Refused → No
no_of r = record { number = refusal_number r.refusal; line = line_of r.line }

-- an answer to what is asked of a table: it is refused exactly where a question is not passed
abbrev pub TableAnswer : {A : Type 0} → Option No → Result A Refused → Type 0
TableAnswer asked r = MatchResult r (λ _. asked ≡ None) (λ e. asked ≡ Some (no_of e))

-- table lines count from 1, so a refusal that is about none tells none, and not line 0
abbrev pub LinesFromOne : {A : Type 0} → Result A Refused → Type 0
LinesFromOne r = IfErr r (λ e. IfSome e.line (λ i. 0 < i))
