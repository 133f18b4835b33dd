-- What a line of a job says, as plain data: letters, digits and bytes.
use Rattle.std.specs.Prelude.{ℕ, List}
use Rattle.geometry.specs.declared.kind.AccessKind.{AccessKind}

-- a line of a job
pub data Entry : Type 0 where
  -- a line of the table: its letter, and the digits of sets, block and ways
  table : ℕ → List ℕ → List ℕ → List ℕ → Entry
  -- the table is opened
  opened : Entry
  -- an access: what it does, and the digits of its address
  access : AccessKind → List ℕ → Entry
  -- a window: the digits of its number, its first address and its end
  window : List ℕ → List ℕ → List ℕ → Entry
  -- the window of the number goes off
  off : List ℕ → Entry
  -- a frame ends
  frame : Entry
  -- the caches are emptied
  flush : Entry
  -- the counters are set to zero
  zeroed : Entry
  -- a comment: the bytes after its sign
  comment : List ℕ → Entry
