-- Which table lines are allowed.
use Rattle.std.specs.Prelude.{◌≡◌, ℕ, zero, suc, ◌^◌, Bool, true, false, ◌||◌, List, [], ◌∷◌, is_some, Some, None, Option, ◌==◌}
use Rattle.policy.specs.Three.{Three, policy_of, which}
use Rattle.policy.specs.declared.three.Member.{Member}
use Rattle.geometry.specs.Refusal.{Question, ask}
use Rattle.geometry.specs.declared.line.Line.{Line}
use Rattle.geometry.specs.declared.geometry.Geometry.{Geometry}

-- one of the powers of two 1, 2, 4, .., 2 ^ k
unfoldable pub power_to : ℕ → ℕ → Bool
power_to zero n = n == 1
power_to (suc k) n = n == 2 ^ suc k || power_to k n

-- 1 to 16,384 sets
abbrev pub sets_allowed : ℕ → Bool
sets_allowed s = power_to 14 s

-- blocks of 1 to 1,024 bytes
abbrev pub block_allowed : ℕ → Bool
block_allowed b = power_to 10 b

-- whether a policy, if the letter names one, takes the number of ways
abbrev pub ways_taken : Three → Option Member → ℕ → Bool
ways_taken p None a = false
ways_taken p (Some k) a = (policy_of p k).takes a

-- what is asked of a table line
abbrev pub line_questions : Three → Line → List Question
line_questions p line =
    ask 6 (is_some (which p line.letter))
    ∷ ask 7 (sets_allowed line.sets)
    ∷ ask 8 (block_allowed line.block)
    ∷ ask 9 (ways_taken p (which p line.letter) line.ways)
    ∷ []

-- the geometry of a line that passed
pub record GeometryOf (p : Three) (line : Line) (g : Geometry) : Type 0 where
  pub member : which p line.letter ≡ Some g.member
  pub sets : line.sets ≡ 2 ^ g.set_bits
  pub block : line.block ≡ 2 ^ g.block_bits
  pub ways : line.ways ≡ g.ways
  pub takes : (policy_of p g.member).takes line.ways ≡ true
