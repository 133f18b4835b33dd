-- The direct-mapped cache of a level: 2 words a set, filled and tag, by rising set.
use Rattle.std.specs.Prelude.{ℕ, ◌+◌, ◌*◌, Bool, cond, not, ◌&&◌, List, ◌==◌, slice_index, slice_set}

-- whether set i is filled
abbrev pub filled : List ℕ → ℕ → Bool
filled ws i = not (slice_index ws (2 * i) == 0)

-- whether set i holds the tag
abbrev pub direct_hit : List ℕ → ℕ → ℕ → Bool
direct_hit ws i t = filled ws i && slice_index ws (2 * i + 1) == t

-- one comparison, unless the set is empty
abbrev pub direct_compared : List ℕ → ℕ → ℕ
direct_compared ws i = cond (filled ws i) 1 0

-- a miss takes the tag
abbrev pub direct_after : List ℕ → ℕ → ℕ → List ℕ
direct_after ws i t = cond (direct_hit ws i t) ws (slice_set (slice_set ws (2 * i) 1) (2 * i + 1) t)
