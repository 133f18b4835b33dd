-- Refusals, and the order in which a call asks its questions.
use Rattle.std.specs.Prelude.{◌≡◌, ℕ, Bool, cond, List, [], ◌∷◌, Some, None, Option, Result, MatchResult}
use Rattle.geometry.specs.declared.refusal.Refusal.{Refusal}
use Rattle.geometry.specs.declared.refusal.Refusal.TheVariants.{
  LineFeed,
  Fields,
  Malformed,
  Part,
  TableSize,
  Letter,
  Sets,
  Block,
  Ways,
  Order,
  Memory,
  Kind,
  Address,
  Accesses,
  WindowNumber,
  WindowBounds,
  Frames,
  Records,
  Buffer,
}

-- the number of each refusal
abbrev pub refusal_number : Refusal → ℕ
refusal_number LineFeed = 1
refusal_number Fields = 2
refusal_number Malformed = 3
refusal_number Part = 4
refusal_number TableSize = 5
refusal_number Letter = 6
refusal_number Sets = 7
refusal_number Block = 8
refusal_number Ways = 9
refusal_number Order = 10
refusal_number Memory = 11
refusal_number Kind = 12
refusal_number Address = 13
refusal_number Accesses = 14
refusal_number WindowNumber = 15
refusal_number WindowBounds = 16
refusal_number Frames = 17
refusal_number Records = 18
refusal_number Buffer = 19

-- a question that a call puts to its arguments, and the number that a "no" gives
pub record Question : Type 0 where
  pub passes : Bool
  pub number : ℕ

abbrev pub ask : ℕ → Bool → Question
ask number passes = record { passes = passes; number = number }

-- the first "no", if there is one
abbrev pub first_no : List Question → Option ℕ
first_no [] = None
first_no (q ∷ qs) = cond q.passes (first_no qs) (Some q.number)

-- an answer to questions: each is passed, or the first that is not is told
abbrev pub Answers : {A : Type 0} → List Question → Result A Refusal → Type 0
Answers qs r = MatchResult r (λ _. first_no qs ≡ None) (λ e. first_no qs ≡ Some (refusal_number e))
