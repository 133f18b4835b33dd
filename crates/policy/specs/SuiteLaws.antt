-- Three policies that keep their laws.
use Rattle.std.proofs.Common.{◌≡◌, true, sym}
use Rattle.std.proofs.lemmas.Bool.{true≢false}
use Rattle.policy.specs.Policy.{Laws}
use Rattle.policy.specs.Nesting.{Nests}
use Rattle.policy.specs.declared.three.Member.{Member}
use Rattle.policy.specs.declared.three.Member.TheVariants.{First, Second, Further}
use Rattle.policy.specs.Suite.{Suite, Lawful, meaning, nest, nesting}

pub lawful : (s : Suite) → Laws s.three.first → Laws s.three.second → Laws s.three.further → Nests s.three.first s.first_nest → Nests s.three.second s.second_nest → Lawful s
lawful s a b c na nb = record { laws = by_member; nests = nests_by }
  where
    by_member : (k : Member) → Laws (meaning s k)
    by_member First = a
    by_member Second = b
    by_member Further = c

    nests_by : (k : Member) → nesting k ≡ true → Nests (meaning s k) (nest s k)
    nests_by First n = na
    nests_by Second n = nb
    nests_by Further n = absurd (true≢false (sym n))
