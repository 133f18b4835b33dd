-- Where an address lies in a cache of s sets of blocks of b bytes.
use Rattle.std.specs.Prelude.{ℕ, ◌+◌, ◌*◌, ◌/◌, ◌%◌, ◌^◌}
use Rattle.geometry.specs.declared.geometry.Geometry.{Geometry}

-- the block of the address
abbrev pub block_of : ℕ → ℕ → ℕ
block_of address b = address / b

-- the set of its block
abbrev pub set_of : ℕ → ℕ → ℕ → ℕ
set_of address b s = block_of address b % s

-- the tag by which the set knows the block
abbrev pub tag_of : ℕ → ℕ → ℕ → ℕ
tag_of address b s = block_of address b / s

-- the sets of a geometry, and the bytes of a block
abbrev pub sets_in : Geometry → ℕ
sets_in g = 2 ^ g.set_bits

abbrev pub block_in : Geometry → ℕ
block_in g = 2 ^ g.block_bits

-- the words of a row, and of the rows of all sets
abbrev pub row_words : Geometry → ℕ
row_words g = g.ways + 1

abbrev pub words_in : Geometry → ℕ
words_in g = sets_in g * row_words g
