-- The policies of a bench, by member: what each means, whether it nests, and what a nesting one adds.
use Rattle.std.specs.Prelude.{◌≡◌, Bool, true, false}
use Rattle.policy.specs.Policy.{Meaning, Laws}
use Rattle.policy.specs.Nesting.{Nest, Nests}
use Rattle.policy.specs.Three.{Three, policy_of}
use Rattle.policy.specs.declared.three.Member.{Member}
use Rattle.policy.specs.declared.three.Member.TheVariants.{First, Second, Further}

-- The three policies, and what the two nesting ones add.
pub record Suite : Type 1 where
  pub three : Three
  pub first_nest : Nest
  pub second_nest : Nest

-- a suite from its parts
abbrev pub suite_of : Three → Nest → Nest → Suite
suite_of p a b = record { three = p; first_nest = a; second_nest = b }

-- the policy of a member
abbrev pub meaning : Suite → Member → Meaning
meaning s k = policy_of s.three k

-- the first two nest
abbrev pub nesting : Member → Bool
nesting First = true
nesting Second = true
nesting Further = false

-- what a nesting policy adds; the further one has none, and is never asked
abbrev pub nest : Suite → Member → Nest
nest s First = s.first_nest
nest s Second = s.second_nest
nest s Further = s.second_nest

-- whether two members are the same
abbrev pub same : Member → Member → Bool
same First First = true
same First Second = false
same First Further = false
same Second First = false
same Second Second = true
same Second Further = false
same Further First = false
same Further Second = false
same Further Further = true

-- the three policies keep their laws
pub record Lawful (s : Suite) : Type 0 where
  pub laws : (k : Member) → Laws (meaning s k)
  pub nests : (k : Member) → nesting k ≡ true → Nests (meaning s k) (nest s k)
