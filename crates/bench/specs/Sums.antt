-- Two lists of counts, added element by element: misses and hits of each kind make the cached accesses of each kind.
use Rattle.std.specs.Prelude.{◌≡◌, ℕ, ◌+◌, List, [], ◌∷◌, length}
use Rattle.standalone.specs.Cache.{Cache}

abbrev pub sums : List ℕ → List ℕ → List ℕ
sums [] ns = []
sums (m ∷ ms) [] = []
sums (m ∷ ms) (n ∷ ns) = (m + n) ∷ sums ms ns

-- the misses and hits of a cache make the cached accesses, by kind
abbrev pub Summed : List ℕ → Cache → Type 0
Summed cached c = (length c.misses ≡ 3) × (length c.hits ≡ 3) × (sums c.misses c.hits ≡ cached)
