use Rattle.std.proofs.Common.{◌≡◌, drop}
use Rattle.geometry.specs.Refusal.{first_no}
use Rattle.standalone.specs.Run.{access_questions}
use Rattle.standalone.proofs.run.check_accesses.Given as goal

abbrev pub invariant-loop-access : goal.invariant-loop-access
invariant-loop-access l = first_no (access_questions (drop l.access-index l.accesses)) ≡ first_no (access_questions l.accesses)
