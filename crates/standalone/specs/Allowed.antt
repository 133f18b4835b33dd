-- Accesses that a run takes.
use Rattle.std.specs.Prelude.{◌≤◌}
use Rattle.standalone.specs.declared.access.Access.{Access}

-- the kind is known and the address has 32 bits
pub record Allowed (x : Access) : Type 0 where
  pub kind : x.kind ≤ 2
  pub address : x.address ≤ 4294967295
