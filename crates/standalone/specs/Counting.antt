-- Counts of each kind of access.
use Rattle.std.specs.Prelude.{ℕ, ◌+◌, List, slice_index, slice_set}

-- one more of a kind
abbrev pub one_more : ℕ → List ℕ → List ℕ
one_more kind counts = slice_set counts kind (slice_index counts kind + 1)
