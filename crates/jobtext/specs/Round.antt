-- Table lines that are read and written.
use Rattle.std.specs.Prelude.{◌≡◌, ℕ, List, take, Ok}
use Rattle.geometry.specs.declared.line.Line.{Line}
use Rattle.jobtext.specs.declared.record.LineKind.TheVariants as kind
use Rattle.jobtext.specs.Entries.{Entry}
use Rattle.jobtext.specs.Forms.{read_text}
use Rattle.jobtext.specs.Job.{kind_of}

-- the first n bytes of a text are read as this line of the table
abbrev pub ReadsAs : List ℕ → ℕ → Line → Type 0
ReadsAs text n line = (e : Entry) × (read_text text ≡ Ok (e, n)) × (kind_of e ≡ kind.Table line)

-- whatever text is read as the same line of the table has the same bytes
abbrev pub OneText : List ℕ → ℕ → Type 0
OneText text n = (line : Line) (other : List ℕ) (m : ℕ) → ReadsAs text n line → ReadsAs other m line → take n text ≡ take m other

-- whatever text is read as this line has the bytes that were written
abbrev pub WrittenBack : Line → List ℕ → ℕ → Type 0
WrittenBack line written n = (text : List ℕ) (m : ℕ) → ReadsAs text m line → take m text ≡ take n written
