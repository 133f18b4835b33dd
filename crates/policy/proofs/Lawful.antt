-- Each of three lawful policies is lawful.
use Rattle.policy.specs.Policy.{Laws}
use Rattle.policy.specs.Three.{Three, policy_of}
use Rattle.policy.specs.declared.three.Member.{Member}
use Rattle.policy.specs.declared.three.Member.TheVariants.{First, Second, Further}

pub lawful_of : (p : Three) → Laws p.first → Laws p.second → Laws p.further → (k : Member) → Laws (policy_of p k)
lawful_of p a b c First = a
lawful_of p a b c Second = b
lawful_of p a b c Further = c
