-- A table line has one text: what is written of its line.
use Rattle.std.proofs.Common.{◌≡◌, ℕ, ◌+◌, ◌<◌, Bool, true, false, cond, eqb, List, [], ◌∷◌, ◌++◌, length, take, Ok, Err, Result, sym, refl, ap, ◌∙◌, arith}
use Rattle.std.proofs.lemmas.List.{append_assoc, get_or-take, length-take, take_more}
use Rattle.std.proofs.lemmas.Bool.{eqb-true, ltb-true}
use Rattle.geometry.specs.declared.line.Line.{Line}
use Rattle.jobtext.specs.declared.record.LineKind.TheVariants as kind
use Rattle.std.specs.List.{join_with_byte}
use Rattle.std.proofs.lemmas.Bool.Decides.{nat_tests}
use Rattle.std.proofs.lemmas.List.Splits.{join_with_byte-slice_split}
use Rattle.std.proofs.lemmas.List.Sums.{passes_at_first}
use Rattle.jobtext.specs.Numbers.{is_decimal}
use Rattle.jobtext.specs.Fields.{fields, first_line, has_feed, line_end}
use Rattle.jobtext.specs.Entries.{Entry, table, opened, access, window, off, frame, flush, zeroed, comment}
use Rattle.jobtext.specs.Forms.{by_fields, by_form, by_known, form_of, placed, run_form_of, read_comment, read_record, read_text, table_form}
use Rattle.jobtext.specs.Job.{kind_of, table_line}
use Rattle.jobtext.specs.Round.{OneText, ReadsAs}
use Rattle.jobtext.specs.Written.{line_text}
use Rattle.jobtext.proofs.Figures.{figures_back}

module _ (l : ℕ) (s b w : List ℕ) where
  -- no other form makes a table line
  no_table : (x : ℕ) (gs : List (List ℕ)) → by_known (run_form_of x) gs ≡ Ok (table l s b w) → ⊥
  no_table x gs h = grind (arith, nat_tests)

  -- only `c` begins a table line
  known-table : (x : ℕ) (gs : List (List ℕ)) → by_known (form_of x) gs ≡ Ok (table l s b w) → (x ≡ 99) × (by_form table_form gs ≡ Ok (table l s b w))
  known-table x gs h = let no = no_table x gs in (grind (arith, nat_tests), grind (arith, nat_tests))

  -- the fields of a table line
  abbrev pub table-fields : List (List ℕ)
  table-fields = (99 ∷ []) ∷ (l ∷ []) ∷ s ∷ b ∷ w ∷ []

  -- the bytes of a table line, without its line feed
  abbrev pub table-bytes : List ℕ
  table-bytes = 99 ∷ 44 ∷ l ∷ 44 ∷ (s ++ 44 ∷ (b ++ 44 ∷ w))

  -- its numbers are decimal
  abbrev Decimals : Type 0
  Decimals = (is_decimal s ≡ true) × (is_decimal b ≡ true) × (is_decimal w ≡ true)

  rest_are : (gs : List (List ℕ)) → by_form table_form gs ≡ Ok (table l s b w) → (gs ≡ (l ∷ []) ∷ s ∷ b ∷ w ∷ []) × Decimals
  rest_are [] h = absurd cc
  rest_are (f ∷ []) h = absurd cc
  rest_are (f ∷ g ∷ []) h = absurd cc
  rest_are (f ∷ g ∷ h ∷ []) k = absurd cc
  rest_are ([] ∷ f ∷ g ∷ h ∷ []) k = absurd cc
  rest_are ((x ∷ []) ∷ f ∷ g ∷ h ∷ []) k = (grind (arith, nat_tests), (grind (arith, nat_tests), grind (arith, nat_tests), grind (arith, nat_tests)))
  rest_are ((x ∷ y ∷ e) ∷ f ∷ g ∷ h ∷ []) k = absurd (grind (arith, nat_tests))
  rest_are (e ∷ f ∷ g ∷ h ∷ i ∷ r) k = absurd (grind (arith, nat_tests))

  fields_are : (fs : List (List ℕ)) → by_fields fs ≡ Ok (table l s b w) → (fs ≡ table-fields) × Decimals
  fields_are [] h = absurd cc
  fields_are ([] ∷ gs) h = absurd cc
  fields_are ((x ∷ []) ∷ gs) h =
      let k = known-table x gs h in
      let r = rest_are gs k.1 in
      (cc, r.1)
  fields_are ((x ∷ y ∷ f) ∷ gs) h = absurd cc

  comment_no_table : (r : List ℕ) → read_comment r ≡ Ok (table l s b w) → ⊥
  comment_no_table r h = grind (arith, nat_tests)

  -- the bytes of a line that is read as a table line
  record_are : (bs : List ℕ) → read_record bs ≡ Ok (table l s b w) → (bs ≡ table-bytes) × Decimals
  record_are [] h = absurd cc
  record_are (x ∷ r) h =
      let no = comment_no_table r in
      let by : by_fields (fields (x ∷ r)) ≡ Ok (table l s b w) = grind (arith, nat_tests) in
      let are = fields_are (fields (x ∷ r)) by in
      (sym (join_with_byte-slice_split 44 (x ∷ r)) ∙ ap (join_with_byte 44) are.0, are.1)

-- a text that is read has a line feed, and the line before it
text_parts : (found : Bool) (k : ℕ) (r : Result Entry ℕ) (e : Entry) (n : ℕ) → cond found (placed k r) (Err 1) ≡ Ok (e, n) → (found ≡ true) × (r ≡ Ok e) × (n ≡ k)
text_parts true k (Ok d) e n h = let p : (d, k) ≡ (e, n) = cc in (refl, ap (λ (q : Entry × ℕ). Ok q.0) p, sym (ap (λ (q : Entry × ℕ). q.1) p))
text_parts true k (Err d) e n h = absurd cc
text_parts false k r e n h = absurd cc

-- the line with its line feed
line_whole : (text : List ℕ) → has_feed text ≡ true → take (line_end text + 1) text ≡ first_line text ++ 10 ∷ []
line_whole text t =
    let low = ltb-true (line_end text) (length (take 80 text)) t in
    let in_text : line_end text < length text = omega (arith, length-take 80 text) in
    let in_front : line_end text < 80 = omega (arith, length-take 80 text) in
    take_more text (line_end text) 0 in_text
    ∙ ap (λ (x : ℕ). first_line text ++ x ∷ []) (sym (get_or-take 80 text (line_end text) 0 in_front) ∙ eqb-true _ 10 (passes_at_first (λ b. eqb b 10) (take 80 text) 0 low))

-- a table line with its line feed, in one piece
pub bytes_feed : (l : ℕ) (s b w : List ℕ) → table-bytes l s b w ++ 10 ∷ [] ≡ 99 ∷ 44 ∷ l ∷ 44 ∷ (s ++ 44 ∷ (b ++ 44 ∷ (w ++ 10 ∷ [])))
bytes_feed l s b w = simp append_assoc

by_entry : (e : Entry) (text : List ℕ) (n : ℕ) (line : Line) → read_text text ≡ Ok (e, n) → kind_of e ≡ kind.Table line → take n text ≡ line_text line
by_entry (table l s b w) text n line h k =
    let same : table_line l s b w ≡ line = cc in
    let t = text_parts (has_feed text) (line_end text + 1) (read_record (first_line text)) (table l s b w) n h in
    let r = record_are l s b w (first_line text) t.1 in
    rw (← same, figures_back s r.1.0, figures_back b r.1.1, figures_back w r.1.2) (ap (λ (m : ℕ). take m text) t.2 ∙ line_whole text t.0 ∙ ap (λ (xs : List ℕ). xs ++ 10 ∷ []) r.0 ∙ bytes_feed l s b w)
by_entry opened text n line h k = absurd cc
by_entry (access a d) text n line h k = absurd cc
by_entry (window a b d) text n line h k = absurd cc
by_entry (off a) text n line h k = absurd cc
by_entry frame text n line h k = absurd cc
by_entry flush text n line h k = absurd cc
by_entry zeroed text n line h k = absurd cc
by_entry (comment a) text n line h k = absurd cc

-- what is read as a line of the table is what is written of that line
pub canonical : (text : List ℕ) (n : ℕ) (line : Line) → ReadsAs text n line → take n text ≡ line_text line
canonical text n line reads = by_entry reads.0 text n line reads.1 reads.2

pub one_text : (text : List ℕ) (n : ℕ) → OneText text n
one_text text n line other m here there = canonical text n line here ∙ sym (canonical other m line there)
