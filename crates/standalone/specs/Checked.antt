-- What becomes of an access that a call gets.
use Rattle.std.specs.Prelude.{◌≡◌, [], ◌∷◌, Some, Result, MatchResult}
use Rattle.geometry.specs.Kind.{kind_number}
use Rattle.geometry.specs.Refusal.{first_no, refusal_number}
use Rattle.geometry.specs.declared.refusal.Refusal.{Refusal}
use Rattle.standalone.specs.Allowed.{Allowed}
use Rattle.standalone.specs.Run.{access_questions}
use Rattle.standalone.specs.declared.access.Access.{Access}
use Rattle.standalone.specs.declared.access.CheckedAccess.{CheckedAccess}

-- it is allowed, and y is its kind and its address
pub record Checked (x : Access) (y : CheckedAccess) : Type 0 where
  pub allowed : Allowed x
  pub kind : x.kind ≡ kind_number y.kind
  pub address : x.address ≡ y.address

-- or the first question that it does not pass
abbrev pub CheckedAs : Access → Result CheckedAccess Refusal → Type 0
CheckedAs x r = MatchResult r (Checked x) (λ e. first_no (access_questions (x ∷ [])) ≡ Some (refusal_number e))
