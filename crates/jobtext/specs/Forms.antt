-- From the bytes of a line to its record, or to the number of the first question that it does not pass.
use Rattle.std.specs.Prelude.{ℕ, ◌+◌, Bool, true, cond, ◌&&◌, List, [], ◌∷◌, length, Some, None, Ok, Err, Option, Result, ◌==◌, nat_le, slice_index, slice_index_or}
use Rattle.geometry.specs.Refusal.{ask, first_no}
use Rattle.geometry.specs.declared.kind.AccessKind.{AccessKind}
use Rattle.geometry.specs.declared.kind.AccessKind.TheVariants.{Fetch, Read, Store}
use Rattle.std.specs.List.{list_all}
use Rattle.jobtext.specs.Numbers.{is_decimal, is_address}
use Rattle.jobtext.specs.Fields.{byte, fields, first_line, has_feed, line_end}
use Rattle.jobtext.specs.Entries.{Entry, table, opened, access, window, off, frame, flush, zeroed, comment}

-- what a field must be
pub data Sort : Type 0 where
  a_letter : Sort
  a_decimal : Sort
  an_address : Sort

-- one byte A to Z
abbrev pub is_letter : List ℕ → Bool
is_letter f = length f == 1 && (nat_le 65 (slice_index f 0) && nat_le (slice_index f 0) 90)

-- whether a field is what it must be
abbrev pub well_formed : Sort → List ℕ → Bool
well_formed a_letter f = is_letter f
well_formed a_decimal f = is_decimal f
well_formed an_address f = is_address f

-- whether each field is; the number of fields is another question
abbrev pub all_formed : List Sort → List (List ℕ) → Bool
all_formed [] fs = true
all_formed (s ∷ ss) [] = true
all_formed (s ∷ ss) (f ∷ fs) = well_formed s f && all_formed ss fs

-- the fields that follow a first field, and the entry that they make
pub record Form : Type 0 where
  pub sorts : List Sort
  pub make : List (List ℕ) → Entry

-- one of the fields, from 0
abbrev pub nth : List (List ℕ) → ℕ → List ℕ
nth fs i = slice_index_or fs i []

-- c,letter,sets,block,ways
abbrev pub table_form : Form
table_form = record {
  sorts = a_letter ∷ a_decimal ∷ a_decimal ∷ a_decimal ∷ [];
  make = λ fs. table (slice_index (nth fs 0) 0) (nth fs 1) (nth fs 2) (nth fs 3);
}

-- i, r or s and an address
abbrev pub access_form : AccessKind → Form
access_form kind = record { sorts = an_address ∷ []; make = λ fs. access kind (nth fs 0) }

-- w,number,first,end
abbrev pub window_form : Form
window_form = record {
  sorts = a_decimal ∷ an_address ∷ an_address ∷ [];
  make = λ fs. window (nth fs 0) (nth fs 1) (nth fs 2);
}

-- o,number
abbrev pub off_form : Form
off_form = record { sorts = a_decimal ∷ []; make = λ fs. off (nth fs 0) }

-- g, f, e or z, and no further field
abbrev pub bare_form : Entry → Form
bare_form entry = record { sorts = []; make = λ _. entry }

-- the form that a first field of one byte names, in the run part or to open it: g i r s w o f e z
abbrev pub run_form_of : ℕ → Option Form
run_form_of b =
    cond (b == (byte "g")) (Some (bare_form opened))
    (cond (b == (byte "i")) (Some (access_form Fetch))
    (cond (b == (byte "r")) (Some (access_form Read))
    (cond (b == (byte "s")) (Some (access_form Store))
    (cond (b == (byte "w")) (Some window_form)
    (cond (b == (byte "o")) (Some off_form)
    (cond (b == (byte "f")) (Some (bare_form frame))
    (cond (b == (byte "e")) (Some (bare_form flush))
    (cond (b == (byte "z")) (Some (bare_form zeroed)) None))))))))

-- or in the table part: c
abbrev pub form_of : ℕ → Option Form
form_of b = cond (b == (byte "c")) (Some table_form) (run_form_of b)

-- an entry, unless a question was answered by "no"
abbrev pub answered : Option ℕ → Entry → Result Entry ℕ
answered None entry = Ok entry
answered (Some n) entry = Err n

-- the further fields of a line whose first field is known
abbrev pub by_form : Form → List (List ℕ) → Result Entry ℕ
by_form form fs = answered (first_no (ask 2 (length fs == length form.sorts) ∷ ask 3 (all_formed form.sorts fs) ∷ [])) (form.make fs)

-- a line whose first field may be unknown
abbrev pub by_known : Option Form → List (List ℕ) → Result Entry ℕ
by_known None fs = Err 2
by_known (Some form) fs = by_form form fs

-- the first field and the further ones; only a field of one byte is known
abbrev pub by_first : List ℕ → List (List ℕ) → Result Entry ℕ
by_first [] fs = Err 2
by_first (b ∷ []) fs = by_known (form_of b) fs
by_first (b ∷ c ∷ bs) fs = Err 2

-- the fields of a line that is no comment
abbrev pub by_fields : List (List ℕ) → Result Entry ℕ
by_fields [] = Err 2
by_fields (f ∷ fs) = by_first f fs

-- a byte from the blank to ~
abbrev pub printable : ℕ → Bool
printable b = nat_le 32 b && nat_le b 126

-- a comment holds any of these, commas too
abbrev pub read_comment : List ℕ → Result Entry ℕ
read_comment bs = answered (first_no (ask 3 (list_all printable bs) ∷ [])) (comment bs)

-- a line without its line feed; one that begins with # is a comment
abbrev pub read_record : List ℕ → Result Entry ℕ
read_record [] = Err 2
read_record (b ∷ bs) = cond (b == (byte "#")) (read_comment bs) (by_fields (fields (b ∷ bs)))

-- with the bytes that the line takes
abbrev pub placed : ℕ → Result Entry ℕ → Result (Entry × ℕ) ℕ
placed n (Ok entry) = Ok (entry, n)
placed n (Err e) = Err e

-- the first line of a text and its length: first it must end in a line feed
abbrev pub read_text : List ℕ → Result (Entry × ℕ) ℕ
read_text text = cond (has_feed text) (placed (line_end text + 1) (read_record (first_line text))) (Err 1)
