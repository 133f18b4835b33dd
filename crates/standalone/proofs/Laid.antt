-- Rows that are laid out one after the other: reading one, and writing one.
use Rattle.std.proofs.Common.{◌≡◌, ℕ, zero, suc, ◌+◌, ◌*◌, ◌<◌, ◌≤◌, List, [], ◌∷◌, ◌++◌, length, get_or, take, drop, set, replicate, sym, ap, ◌∙◌, not-suc-le-zero, suc-mul, add_comm, suc-add, zero-add, zero-mul, add-one, arith}
use borrow.Rule.Slice.PartMut.{put_mid}
use Rattle.std.specs.List.{AllByRecursion}
use Rattle.std.proofs.lemmas.Nat.{mul-le}
use Rattle.std.proofs.lemmas.List.{take_at, drop_at, drop-drop, append_assoc, length-append, length-replicate, replicate_more, flat_map_more}
use Rattle.policy.specs.SearchLemmas.{all_replicate}
use Rattle.standalone.specs.Rows.{laid, row_at, with_row}

-- a row of set i ends within the rows of n sets
pub row_within : (i n w : ℕ) → i < n → i * w + w ≤ n * w
row_within i n w h = omega (arith, mul-le (suc i) w n w h (omega arith), suc-mul i w)

take_past : (k : ℕ) (r more : List ℕ) → take (length r + k) (r ++ more) ≡ r ++ take k more
take_past k [] more = ap (λ n. take n more) (zero-add k)
take_past k (x ∷ r) more = ap (λ n. take n (x ∷ (r ++ more))) (suc-add (length r) k) ∙ ap (λ ys. x ∷ ys) (take_past k r more)

module _ (w : ℕ) where
  next_row : (i : ℕ) → suc i * w ≡ w + i * w
  next_row i = suc-mul i w ∙ add_comm (i * w) w

  drop_past : (i : ℕ) (r more : List ℕ) → length r ≡ w → drop (suc i * w) (r ++ more) ≡ drop (i * w) more
  drop_past i r more e = ap (λ n. drop n (r ++ more)) (next_row i) ∙ sym (drop-drop (i * w) w (r ++ more)) ∙ ap (drop (i * w)) (drop_at r more w e)

  take_rows_past : (i : ℕ) (r more : List ℕ) → length r ≡ w → take (suc i * w) (r ++ more) ≡ r ++ take (i * w) more
  take_rows_past i r more e = ap (λ n. take n (r ++ more)) (next_row i ∙ ap (λ n. n + i * w) (sym e)) ∙ take_past (i * w) r more

  pub row_laid : (i : ℕ) (rows : List (List ℕ)) (rest : List ℕ) → AllByRecursion (λ r. length r ≡ w) rows → i < length rows → row_at w i (laid rows ++ rest) ≡ get_or rows i []
  row_laid i [] rest h l = absurd (not-suc-le-zero l)
  row_laid zero (r ∷ rows) rest h l =
      ap (λ n. take w (drop n ((r ++ laid rows) ++ rest))) (zero-mul w)
      ∙ ap (take w) (append_assoc r (laid rows) rest) ∙ take_at r (laid rows ++ rest) w h.0
  row_laid (suc i) (r ∷ rows) rest h l =
      ap (λ xs. row_at w (suc i) xs) (append_assoc r (laid rows) rest)
      ∙ ap (take w) (drop_past i r (laid rows ++ rest) h.0) ∙ row_laid i rows rest h.1 (omega arith)

  pub with_row_laid : (i : ℕ) (rows : List (List ℕ)) (rest new : List ℕ) → AllByRecursion (λ r. length r ≡ w) rows → i < length rows → with_row w i (laid rows ++ rest) new ≡ laid (set rows i new) ++ rest
  with_row_laid i [] rest new h l = absurd (not-suc-le-zero l)
  with_row_laid zero (r ∷ rows) rest new h l =
      let more = laid rows ++ rest in
      ap (λ xs. with_row w 0 xs new) (append_assoc r (laid rows) rest)
      ∙ ap (λ n. take n (r ++ more) ++ (new ++ drop w (drop n (r ++ more)))) (zero-mul w)
      ∙ ap (λ xs. new ++ xs) (drop_at r more w h.0) ∙ sym (append_assoc new (laid rows) rest)
  with_row_laid (suc i) (r ∷ rows) rest new h l =
      let more = laid rows ++ rest in
      ap (λ xs. with_row w (suc i) xs new) (append_assoc r (laid rows) rest)
      ∙ ap (λ xs. xs ++ (new ++ drop w (drop (suc i * w) (r ++ more)))) (take_rows_past i r more h.0)
      ∙ ap (λ xs. (r ++ take (i * w) more) ++ (new ++ drop w xs)) (drop_past i r more h.0)
      ∙ append_assoc r (take (i * w) more) (new ++ drop w (drop (i * w) more))
      ∙ ap (λ xs. r ++ xs) (with_row_laid i rows rest new h.1 (omega arith))
      ∙ sym (append_assoc r (laid (set rows i new)) rest)

  pub length_laid : (rows : List (List ℕ)) → AllByRecursion (λ r. length r ≡ w) rows → length (laid rows) ≡ length rows * w
  length_laid [] h = sym (zero-mul w)
  length_laid (r ∷ rows) h = length-append r (laid rows) ∙ omega (arith, h.0, length_laid rows h.1, suc-mul (length rows) w)

  laid_push : (i : ℕ) (r : List ℕ) → laid (replicate i r) ++ r ≡ laid (replicate (i + 1) r)
  laid_push i r = flat_map_more (λ r. r) [] (replicate i r) r ∙ ap laid (replicate_more i r)

  -- one more row is started
  pub start_more : (i : ℕ) (r words : List ℕ) → length r ≡ w
      → put_mid (i * w) w (laid (replicate i r) ++ drop (i * w) words) r ≡ laid (replicate (i + 1) r) ++ drop ((i + 1) * w) words
  start_more i r words e =
      let rows = laid (replicate i r) in
      let rest = drop (i * w) words in
      let long : length rows ≡ i * w = length_laid (replicate i r) (all_replicate (λ r. length r ≡ w) i r e) ∙ ap (λ n. n * w) (length-replicate i r) in
      ap (λ xs. xs ++ (r ++ drop w (drop (i * w) (rows ++ rest)))) (take_at rows rest (i * w) long)
      ∙ ap (λ xs. rows ++ (r ++ drop w xs)) (drop_at rows rest (i * w) long)
      ∙ ap (λ xs. rows ++ (r ++ xs)) (drop-drop w (i * w) words)
      ∙ sym (append_assoc rows r (drop (i * w + w) words))
      ∙ ap (λ xs. xs ++ drop (i * w + w) words) (laid_push i r)
      ∙ ap (λ n. laid (replicate (i + 1) r) ++ drop n words) (omega (arith, suc-mul i w, ap (λ n. n * w) (add-one i)))

  -- the same, as the loop over the sets has it
  pub start_step : (start : ℕ → List ℕ) (i k n : ℕ) (words memory row : List ℕ) → k ≡ w → n ≡ w → row ≡ start n → length row ≡ n → memory ≡ laid (replicate i (start w)) ++ drop (i * w) words
      → put_mid (i * w) k memory row ≡ laid (replicate (i + 1) (start w)) ++ drop ((i + 1) * w) words
  start_step start i k n words memory row ek en er el em =
      let same : row ≡ start w = er ∙ ap start en in
      let long : length (start w) ≡ w = ap length (sym same) ∙ el ∙ en in
      ap (λ j. put_mid (i * w) j memory row) ek ∙ ap (λ xs. put_mid (i * w) w xs row) em ∙ ap (λ xs. put_mid (i * w) w (laid (replicate i (start w)) ++ drop (i * w) words) xs) same
      ∙ start_more i (start w) words long
