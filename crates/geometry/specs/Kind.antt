-- The kinds of an access, and their numbers.
use Rattle.std.specs.Prelude.{◌≡◌, ℕ, ◌<◌, Result, MatchResult}
use Rattle.geometry.specs.declared.kind.AccessKind.{AccessKind}
use Rattle.geometry.specs.declared.kind.AccessKind.TheVariants.{Fetch, Read, Store}
use Rattle.geometry.specs.declared.refusal.Refusal.{Refusal}
use Rattle.geometry.specs.declared.refusal.Refusal.TheVariants.{Kind}

-- the number of each kind
abbrev pub kind_number : AccessKind → ℕ
kind_number Fetch = 0
kind_number Read = 1
kind_number Store = 2

-- what a number says: the kind that has it, or that it is no kind's
abbrev pub KindOf : ℕ → Result AccessKind Refusal → Type 0
KindOf n r = MatchResult r (λ k. n ≡ kind_number k) (λ e. (2 < n) × (e ≡ Kind))
