-- Three policies together: two nesting ones and a further one. A letter names the first of them that has it.
use Rattle.std.specs.Prelude.{ℕ, cond, Some, None, Option, ◌==◌}
use Rattle.policy.specs.Policy.{Meaning}
use Rattle.policy.specs.declared.three.Member.{Member}
use Rattle.policy.specs.declared.three.Member.TheVariants.{First, Second, Further}

-- What the three mean.
pub record Three : Type 1 where
  pub first : Meaning
  pub second : Meaning
  pub further : Meaning

-- three policies from their meanings
abbrev pub three : Meaning → Meaning → Meaning → Three
three a b c = record { first = a; second = b; further = c }

-- the meaning of one of the three
abbrev pub policy_of : Three → Member → Meaning
policy_of p First = p.first
policy_of p Second = p.second
policy_of p Further = p.further

-- which of the three a letter names
abbrev pub which : Three → ℕ → Option Member
which p letter =
    cond (letter == p.first.letter) (Some First)
    (cond (letter == p.second.letter) (Some Second)
    (cond (letter == p.further.letter) (Some Further) None))
