-- Rows of w words in a memory, by rising set.
use Rattle.std.specs.Prelude.{ℕ, ◌*◌, List, ◌++◌, take, drop, replicate}
use Rattle.std.specs.List.{flat_map}
use Rattle.policy.specs.Policy.{Touched}
use Rattle.policy.specs.Three.{Three, policy_of}
use Rattle.geometry.specs.Address.{block_in, row_words, set_of, sets_in, tag_of}
use Rattle.geometry.specs.declared.geometry.Geometry.{Geometry}

-- the words of all rows
abbrev pub laid : List (List ℕ) → List ℕ
laid rows = flat_map (λ r. r) rows

-- the row of set i
abbrev pub row_at : ℕ → ℕ → List ℕ → List ℕ
row_at w i words = take w (drop (i * w) words)

-- the words with another row of set i; all others stay
abbrev pub with_row : ℕ → ℕ → List ℕ → List ℕ → List ℕ
with_row w i words row = take (i * w) words ++ (row ++ drop w (drop (i * w) words))

-- the set of an address in a cache of this geometry, and the touch of its tag in the row of that set
abbrev pub set_in : Geometry → ℕ → ℕ
set_in g address = set_of address (block_in g) (sets_in g)

abbrev pub touch_in : Three → Geometry → ℕ → List ℕ → Touched
touch_in p g address words = (policy_of p g.member).touch (row_at (row_words g) (set_in g address) words) (tag_of address (block_in g) (sets_in g))

-- the words with that row touched
abbrev pub touched_in : Three → Geometry → ℕ → List ℕ → List ℕ
touched_in p g address words = with_row (row_words g) (set_in g address) words (touch_in p g address words).row

-- the rows of all sets started, and the words after them
abbrev pub started_in : Three → Geometry → List ℕ → List ℕ
started_in p g words = laid (replicate (sets_in g) ((policy_of p g.member).start (row_words g))) ++ drop (sets_in g * row_words g) words
