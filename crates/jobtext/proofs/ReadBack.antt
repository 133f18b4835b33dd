-- What is written of a line of the table is read as that line.
use Rattle.std.proofs.Common.{◌≡◌, ℕ, ◌+◌, ◌^◌, ◌<◌, ◌≤◌, Bool, true, false, not, eqb, List, [], ◌∷◌, ◌++◌, length, take, Ok, decimal, sym, refl, ap, ◌∙◌, arith}
use Rattle.std.proofs.lemmas.List.{append_assoc, length-append, length_push, length-take, take_at, get_or_at}
use Rattle.std.proofs.lemmas.Bool.{and_from, lt-ltb, ne_eqb, not_from_false}
use Rattle.geometry.specs.declared.line.Line.{Line}
use Rattle.jobtext.specs.Numbers.{is_decimal, is_digit}
use Rattle.jobtext.specs.Fields.{before, fields, first_line, has_feed, line_end}
use Rattle.jobtext.specs.Entries.{Entry, table}
use Rattle.jobtext.specs.Forms.{read_record, read_text}
use Rattle.jobtext.specs.Round.{ReadsAs}
use Rattle.jobtext.specs.Written.{line_text}
use Rattle.jobtext.proofs.Canonical.{bytes_feed, table-bytes, table-fields}
use Rattle.jobtext.proofs.Figures.{decimal_parts, figures_formed, figures_value}
use Rattle.std.specs.List.{All, list_all}
use Rattle.std.proofs.lemmas.Grind.{common_steps}
use Rattle.std.proofs.lemmas.Bool.Decides.{nat_tests}
use Rattle.std.proofs.lemmas.List.Folds.{list_all-append}
use Rattle.std.proofs.lemmas.List.Splits.{slice_split_none, slice_split_at, slice_split-cons_no}
use Rattle.std.proofs.lemmas.List.Sums.{AllPass-from_list_all, list_all-from_AllPass, position_or_len_is}

-- a digit is no byte below the digits
digit_not : (x byte : ℕ) → is_digit 10 x ≡ true → byte < 48 → eqb x byte ≡ false
digit_not x byte t low = grind (arith, nat_tests, ne_eqb)

digits_not : (ds : List ℕ) (byte : ℕ) → list_all (is_digit 10) ds ≡ true → byte < 48 → All (λ b. eqb b byte ≡ false) ds
digits_not ds byte t low = λ k d h. digit_not _ byte (AllPass-from_list_all (is_digit 10) ds t k d h) low

-- a byte that is no line feed
abbrev inner : ℕ → Bool
inner b = not (eqb b 10)

digits_inner : (ds : List ℕ) → list_all (is_digit 10) ds ≡ true → list_all inner ds ≡ true
digits_inner ds t = list_all-from_AllPass inner ds (λ k d h. not_from_false _ (digits_not ds 10 t (omega arith) k d h))

-- the first line feed, in a text that is cut behind it
feed_place : (limit : ℕ) (body rest : List ℕ) → list_all inner body ≡ true → length body < limit → before 10 (take limit (body ++ 10 ∷ rest)) ≡ length body
feed_place limit body rest t short =
    position_or_len_is (λ b. eqb b 10) (take limit (body ++ 10 ∷ rest)) (length body) 0
    (grind (arith, common_steps))
    (λ k h. let p = AllPass-from_list_all inner body t k 0 h in grind (arith, common_steps))
    (λ h. grind (arith, common_steps, get_or_at))

-- a text whose first line is short and known
text_read : (body rest : List ℕ) (e : Entry) → list_all inner body ≡ true → length body < 80 → read_record body ≡ Ok e → read_text (body ++ 10 ∷ rest) ≡ Ok (e, length body + 1)
text_read body rest e no-feed short reads =
    let text = body ++ 10 ∷ rest in
    let end = feed_place 80 body rest no-feed short in
    let long = length-append body (10 ∷ rest) in
    let found : has_feed text ≡ true = lt-ltb (line_end text) (length (take 80 text)) (omega (arith, length-take 80 text)) in
    let line : first_line text ≡ body = ap (λ (n : ℕ). take n text) end ∙ take_at body (10 ∷ rest) (length body) refl in
    rw (found, line, end, reads) refl

-- the bytes of a table line are read as its record
module _ (l : ℕ) (s b w : List ℕ) (low : 65 ≤ l) (high : l ≤ 90) (ds : is_decimal s ≡ true) (db : is_decimal b ≡ true) (dw : is_decimal w ≡ true) where
  table_parted : fields (table-bytes l s b w) ≡ table-fields l s b w
  table_parted =
      let comma = λ (b : ℕ). eqb b 44 in
      let from_w = slice_split_none comma w (digits_not w 44 (decimal_parts w dw).3 (omega arith)) in
      let from_b = slice_split_at comma b 44 w (digits_not b 44 (decimal_parts b db).3 (omega arith)) refl in
      let from_s = slice_split_at comma s 44 (b ++ 44 ∷ w) (digits_not s 44 (decimal_parts s ds).3 (omega arith)) refl in
      let letter = slice_split-cons_no comma l (44 ∷ (s ++ 44 ∷ (b ++ 44 ∷ w))) (ne_eqb l 44 (λ e. omega arith)) in
      cc

  table_reads : read_record (table-bytes l s b w) ≡ Ok (table l s b w)
  table_reads = let parted = table_parted in grind (arith, nat_tests)

  table-inner : list_all inner (table-bytes l s b w) ≡ true
  table-inner =
      and_from (inner l) _ (not_from_false (eqb l 10) (ne_eqb l 10 (λ e. omega arith)))
      (list_all-append inner s (44 ∷ (b ++ 44 ∷ w)) ∙ and_from _ _ (digits_inner s (decimal_parts s ds).3)
      (list_all-append inner b (44 ∷ w) ∙ and_from _ _ (digits_inner b (decimal_parts b db).3) (digits_inner w (decimal_parts w dw).3)))

  table_short : length (table-bytes l s b w) < 80
  table_short =
      omega (arith, length-append s (44 ∷ (b ++ 44 ∷ w)), length-append b (44 ∷ w), (decimal_parts s ds).1, (decimal_parts b db).1, (decimal_parts w dw).1)

-- the line is read back
pub reads_back : (line : Line) (rest : List ℕ) → 65 ≤ line.letter → line.letter ≤ 90 → line.sets < 10 ^ 10 → line.block < 10 ^ 10 → line.ways < 10 ^ 10 → ReadsAs (line_text line ++ rest) (length (line_text line)) line
reads_back line rest low high hs hb hw =
    let l = line.letter in
    let s = decimal line.sets in
    let b = decimal line.block in
    let w = decimal line.ways in
    let ds = figures_formed line.sets hs in
    let db = figures_formed line.block hb in
    let dw = figures_formed line.ways hw in
    let body = table-bytes l s b w in
    let whole = bytes_feed l s b w in
    let read = text_read body rest (table l s b w) (table-inner l s b w low high ds db dw) (table_short l s b w low high ds db dw) (table_reads l s b w low high ds db dw) in
    let text : line_text line ++ rest ≡ body ++ 10 ∷ rest = ap (λ (xs : List ℕ). xs ++ rest) (sym whole) ∙ append_assoc body (10 ∷ []) rest in
    let long : length body + 1 ≡ length (line_text line) = sym (length_push body 10) ∙ ap (λ (xs : List ℕ). length xs) whole in (
      table l s b w,
      ap read_text text ∙ read ∙ ap (λ (n : ℕ). Ok (table l s b w, n)) long,
      rw (figures_value line.sets hs, figures_value line.block hb, figures_value line.ways hw) refl,
    )
