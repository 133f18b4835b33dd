-- The lines of an open table, as a level sees them.
use Rattle.std.specs.Prelude.{Bool, ◌&&◌, List, map, nat_lt}
use Rattle.policy.specs.Suite.{same}
use Rattle.policy.specs.declared.three.Member.{Member}
use Rattle.bench.specs.Words.{Kin}
use Rattle.bench.specs.declared.open_line.OpenLine.{OpenLine}

-- the policy and the ways of a line
abbrev pub line_kin : OpenLine → Kin
line_kin x = record { member = x.geometry.member; ways = x.geometry.ways }

-- and those of each line
abbrev pub kins_of : List OpenLine → List Kin
kins_of es = map line_kin es

-- whether a line has more than one way, and is of the policy k
abbrev pub wide_of : Member → OpenLine → Bool
wide_of k x = nat_lt 1 x.geometry.ways && same k x.geometry.member
