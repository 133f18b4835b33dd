-- The words of a table's levels at open and after a flush: nothing is resident, and the widest row of a nesting policy leads.
use Rattle.std.specs.Prelude.{ℕ, ◌+◌, ◌*◌, Bool, true, false, cond, ◌&&◌, List, [], ◌∷◌, ◌++◌, replicate}
use Rattle.policy.specs.declared.three.Member.{Member}
use Rattle.standalone.specs.Rows.{laid}
use Rattle.policy.specs.Suite.{Suite, meaning, nesting, same}
use Rattle.bench.specs.Table.{Family, Level}
use Rattle.bench.specs.Words.{Kin, wide}

-- whether one of the lines is of the policy
abbrev pub any_of : Member → List Kin → Bool
any_of k [] = false
any_of k (j ∷ js) = cond (same k j.member) true (any_of k js)

-- a row of a nesting policy follows where a wider line of its policy is among those after it
abbrev pub follows : Kin → List Kin → Bool
follows k ks = nesting k.member && any_of k.member ks

-- a row of a line before the lines ks of its level: a follower's words are 0, a leader is started
abbrev pub started_row : Suite → Kin → List Kin → List ℕ
started_row s k ks = cond (follows k ks) (1 ∷ replicate (k.ways + 1) 0) (0 ∷ (meaning s k.member).start (k.ways + 1))

-- the rows of lines of a level, in all of its sets
abbrev pub started_lines : Suite → ℕ → List Kin → List ℕ
started_lines s sets [] = []
started_lines s sets (k ∷ ks) = laid (replicate sets (started_row s k ks)) ++ started_lines s sets ks

-- a level: an empty direct-mapped cache, then the rows of its wider lines
abbrev pub started_level : Suite → Level → List ℕ
started_level s l = replicate (2 * l.sets) 0 ++ started_lines s l.sets (wide l.lines)

abbrev pub started_levels : Suite → List Level → List ℕ
started_levels s [] = []
started_levels s (l ∷ ls) = started_level s l ++ started_levels s ls

-- all levels
abbrev pub started : Suite → List Family → List ℕ
started s [] = []
started s (f ∷ fs) = started_levels s f.levels ++ started s fs
