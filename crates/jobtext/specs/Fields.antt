-- Lines that end in a line feed, and their fields.
use Rattle.std.specs.Prelude.{ℕ, Bool, not, List, length, take, codes, ◌==◌, nat_lt, slice_index}
use Prim.Native.String.{String}
use Rattle.std.specs.List.{prefix_len, slice_split}

-- the byte of a character
abbrev pub byte : String → ℕ
byte c = slice_index (codes c) 0

-- how many bytes stand before the first one that is sought
abbrev pub before : ℕ → List ℕ → ℕ
before sought bs = prefix_len (λ b. not (b == sought)) bs

-- where the first line feed among the first 80 bytes stands
abbrev pub line_end : List ℕ → ℕ
line_end text = before 10 (take 80 text)

-- whether there is one
abbrev pub has_feed : List ℕ → Bool
has_feed text = nat_lt (line_end text) (length (take 80 text))

-- the first line, without its line feed
abbrev pub first_line : List ℕ → List ℕ
first_line text = take (line_end text) text

-- the fields of a line: its bytes, parted by commas
abbrev pub fields : List ℕ → List (List ℕ)
fields bs = slice_split (λ b. b == (byte ",")) bs
