-- The rows of a set in the workspace's words: reading them, and writing them.
use Rattle.std.proofs.Common.{◌≡◌, ℕ, ◌+◌, ◌-◌, ◌*◌, ◌^◌, ◌<◌, ◌≤◌, ◌⊎◌, List, [], ◌∷◌, ◌++◌, length, take, drop, sym, refl, ap, ◌∙◌, inl, inr, not-suc-le-zero, arith}
use Rattle.std.proofs.lemmas.Bool.{cases_lt}
use Rattle.std.proofs.lemmas.List.{drop_at, drop-drop, drop-take, length-append, length-drop, length-take-le, take_at, take-take}
use Rattle.standalone.specs.Rows.{row_at, with_row}
use Rattle.standalone.proofs.Laid.{row_within}
use Rattle.policy.specs.Suite.{Suite, Lawful}
use Rattle.bench.specs.Rows.{Slot}
use Rattle.bench.specs.Mixed.{Owned, own_step, sweep_all}
use Rattle.bench.specs.Words.{Kin, line_words, lines_words, rows_at, slot_of, with_rows, words_of}
use Rattle.bench.specs.Abreast.{AllAbreast}
use Rattle.bench.proofs.AllAbreast.{Whole, own_ways, row_length, stepped}

-- a row that ends within the first n words is a row of these
row_early : (w j n : ℕ) (ws : List ℕ) → j * w + w ≤ n → row_at w j (take n ws) ≡ row_at w j ws
row_early w j n ws h =
    let d = n - j * w in
    ap (λ k. take w (drop (j * w) (take k ws))) (omega arith) ∙ ap (take w) (drop-take (j * w) d ws) ∙ take-take w d (drop (j * w) ws) (omega arith)

-- and one that begins after them is a row of the others
row_late : (w j n : ℕ) (ws : List ℕ) → n ≤ j * w → take w (drop (j * w - n) (drop n ws)) ≡ row_at w j ws
row_late w j n ws h = ap (take w) (drop-drop (j * w - n) n ws) ∙ ap (λ k. take w (drop k ws)) (omega arith)

row_whole : (w i : ℕ) (ws : List ℕ) → i * w + w ≤ length ws → length (row_at w i ws) ≡ w
row_whole w i ws room = length-take-le w (drop (i * w) ws) (omega (arith, length-drop (i * w) ws))

-- one line: a row is written within its words
module _ (w i : ℕ) (ws row : List ℕ) (room : i * w + w ≤ length ws) (whole : length row ≡ w) where
  before : length (take (i * w) ws) ≡ i * w
  before = length-take-le (i * w) ws (omega arith)

  -- the words before the row stay, the row follows, and the words after it stay
  take_kept : take (i * w) (with_row w i ws row) ≡ take (i * w) ws
  take_kept = take_at (take (i * w) ws) (row ++ drop w (drop (i * w) ws)) (i * w) before

  drop_new : drop (i * w) (with_row w i ws row) ≡ row ++ drop w (drop (i * w) ws)
  drop_new = drop_at (take (i * w) ws) (row ++ drop w (drop (i * w) ws)) (i * w) before

  drop_kept : drop (i * w + w) (with_row w i ws row) ≡ drop (i * w + w) ws
  drop_kept =
      sym (drop-drop w (i * w) (with_row w i ws row)) ∙ ap (drop w) drop_new
      ∙ drop_at row (drop w (drop (i * w) ws)) w whole ∙ drop-drop w (i * w) ws

  put_row : row_at w i (with_row w i ws row) ≡ row
  put_row = ap (take w) drop_new ∙ take_at row (drop w (drop (i * w) ws)) w whole

  other_row : (j : ℕ) → (i ≡ j → ⊥) → row_at w j (with_row w i ws row) ≡ row_at w j ws
  other_row j other = go (cases_lt j i)
    where
      go : (j < i) ⊎ (i ≤ j) → row_at w j (with_row w i ws row) ≡ row_at w j ws
      go (inl l) =
          let ends = row_within j i w l in
          sym (row_early w j (i * w) (with_row w i ws row) ends) ∙ ap (row_at w j) take_kept ∙ row_early w j (i * w) ws ends
      go (inr l) =
          let begins : i * w + w ≤ j * w = row_within i j w (omega arith) in
          sym (row_late w j (i * w + w) (with_row w i ws row) begins) ∙ ap (λ r. take w (drop (j * w - (i * w + w)) r)) drop_kept ∙ row_late w j (i * w + w) ws begins

  put-length : length (with_row w i ws row) ≡ length ws
  put-length =
      length-append (take (i * w) ws) (row ++ drop w (drop (i * w) ws))
      ∙ omega (arith, before, whole, length-append row (drop w (drop (i * w) ws)), length-drop w (drop (i * w) ws), length-drop (i * w) ws)

-- the words of a row, and the row of words
words_slot : (ws : List ℕ) → 0 < length ws → words_of (slot_of ws) ≡ ws
words_slot [] h = absurd (not-suc-le-zero h)
words_slot (w ∷ ws) h = refl

slot_words : (x : Slot) → length (words_of x) ≡ x.ways + 2 → slot_of (words_of x) ≡ x
slot_words x h = ap (λ n. record { ways = n; lead = x.lead; row = x.row }) (omega arith)

-- a row of its line's policy and ways, with all its words
pub record Fits (k : Kin) (x : Owned) : Type 0 where
  pub member : x.member ≡ k.member
  pub ways : x.slot.ways ≡ k.ways
  pub words : length (words_of x.slot) ≡ k.ways + 2

-- one such row a line
abbrev pub Fit : List Kin → List Owned → Type 0
Fit [] [] = Unit {0}
Fit [] (x ∷ xs) = ⊥
Fit (k ∷ ks) [] = ⊥
Fit (k ∷ ks) (x ∷ xs) = Fits k x × Fit ks xs

-- the row of set j in the words of one line
abbrev owned_at : Kin → ℕ → List ℕ → Owned
owned_at k j ws = record { member = k.member; slot = slot_of (row_at (k.ways + 2) j ws) }

-- the words of the first line, with another row of set i
abbrev written : ℕ → ℕ → Kin → List ℕ → Owned → List ℕ
written s i k ws x = with_row (k.ways + 2) i (take (line_words s k.ways) ws) (words_of x.slot)

-- the words of one line, and those of the others
rows_joined : (s j : ℕ) (k : Kin) (ks : List Kin) (mine others : List ℕ) → length mine ≡ line_words s k.ways → rows_at s j (k ∷ ks) (mine ++ others) ≡ owned_at k j mine ∷ rows_at s j ks others
rows_joined s j k ks mine others e =
    let n = line_words s k.ways in
    ap (λ ws. owned_at k j ws ∷ rows_at s j ks (drop n (mine ++ others))) (take_at mine others n e)
    ∙ ap (λ ws. owned_at k j mine ∷ rows_at s j ks ws) (drop_at mine others n e)

module _ (s i : ℕ) (low : i < s) where
  -- the first line's words hold its row of set i, and the others' words are enough for the others
  module _ (k : Kin) (ks : List Kin) (ws : List ℕ) (room : lines_words s (k ∷ ks) ≤ length ws) where
    mine_length : length (take (line_words s k.ways) ws) ≡ line_words s k.ways
    mine_length = length-take-le (line_words s k.ways) ws (omega arith)

    mine_room : i * (k.ways + 2) + (k.ways + 2) ≤ length (take (line_words s k.ways) ws)
    mine_room = omega (arith, mine_length, row_within i s (k.ways + 2) low)

    others_room : lines_words s ks ≤ length (drop (line_words s k.ways) ws)
    others_room = omega (arith, length-drop (line_words s k.ways) ws)

    mine_fits : Fits k (owned_at k i (take (line_words s k.ways) ws))
    mine_fits =
        let row = row_at (k.ways + 2) i (take (line_words s k.ways) ws) in
        let long : length row ≡ k.ways + 2 = row_whole (k.ways + 2) i (take (line_words s k.ways) ws) mine_room in
        record { member = refl; ways = omega arith; words = ap length (words_slot row (omega arith)) ∙ long }

    -- what is read from the first line's words with another row of set i
    module _ (x : Owned) (F : Fits k x) where
      written-length : length (written s i k ws x) ≡ line_words s k.ways
      written-length = put-length (k.ways + 2) i (take (line_words s k.ways) ws) (words_of x.slot) mine_room F.words ∙ mine_length

      written_row : owned_at k i (written s i k ws x) ≡ x
      written_row =
          ap (λ r. record { member = k.member; slot = slot_of r }) (put_row (k.ways + 2) i (take (line_words s k.ways) ws) (words_of x.slot) mine_room F.words)
          ∙ ap (λ y. record { member = k.member; slot = y }) (slot_words x.slot (omega (arith, F.ways, F.words)))
          ∙ ap (λ j. record { member = j; slot = x.slot }) (sym F.member)

      written_other : (j : ℕ) → (i ≡ j → ⊥) → owned_at k j (written s i k ws x) ≡ owned_at k j (take (line_words s k.ways) ws)
      written_other j other = ap (λ r. record { member = k.member; slot = slot_of r }) (other_row (k.ways + 2) i (take (line_words s k.ways) ws) (words_of x.slot) mine_room F.words j other)

  pub rows_fit : (ks : List Kin) (ws : List ℕ) → lines_words s ks ≤ length ws → Fit ks (rows_at s i ks ws)
  rows_fit [] ws room = tt
  rows_fit (k ∷ ks) ws room = (mine_fits k ks ws room, rows_fit ks (drop (line_words s k.ways) ws) (others_room k ks ws room))

  pub rows_length : (ks : List Kin) (xs : List Owned) (ws : List ℕ) → lines_words s ks ≤ length ws → Fit ks xs → length (with_rows s i ks xs ws) ≡ length ws
  rows_length [] [] ws room f = refl
  rows_length [] (x ∷ xs) ws room f = absurd f
  rows_length (k ∷ ks) [] ws room f = absurd f
  rows_length (k ∷ ks) (x ∷ xs) ws room f =
      let others = drop (line_words s k.ways) ws in
      length-append (written s i k ws x) (with_rows s i ks xs others)
      ∙ omega (arith, written-length k ks ws room x f.0, rows_length ks xs others (others_room k ks ws room) f.1, length-drop (line_words s k.ways) ws)

  pub rows_put : (ks : List Kin) (xs : List Owned) (ws : List ℕ) → lines_words s ks ≤ length ws → Fit ks xs → rows_at s i ks (with_rows s i ks xs ws) ≡ xs
  rows_put [] [] ws room f = refl
  rows_put [] (x ∷ xs) ws room f = absurd f
  rows_put (k ∷ ks) [] ws room f = absurd f
  rows_put (k ∷ ks) (x ∷ xs) ws room f =
      let others = drop (line_words s k.ways) ws in
      rows_joined s i k ks (written s i k ws x) (with_rows s i ks xs others) (written-length k ks ws room x f.0)
      ∙ ap (λ y. y ∷ rows_at s i ks (with_rows s i ks xs others)) (written_row k ks ws room x f.0)
      ∙ ap (λ ys. x ∷ ys) (rows_put ks xs others (others_room k ks ws room) f.1)

  pub rows_stay : (j : ℕ) → (i ≡ j → ⊥) → (ks : List Kin) (xs : List Owned) (ws : List ℕ) → lines_words s ks ≤ length ws → Fit ks xs → rows_at s j ks (with_rows s i ks xs ws) ≡ rows_at s j ks ws
  rows_stay j other [] [] ws room f = refl
  rows_stay j other [] (x ∷ xs) ws room f = absurd f
  rows_stay j other (k ∷ ks) [] ws room f = absurd f
  rows_stay j other (k ∷ ks) (x ∷ xs) ws room f =
      let others = drop (line_words s k.ways) ws in
      rows_joined s j k ks (written s i k ws x) (with_rows s i ks xs others) (written-length k ks ws room x f.0)
      ∙ ap (λ y. y ∷ rows_at s j ks (with_rows s i ks xs others)) (written_other k ks ws room x f.0 j other)
      ∙ ap (λ ys. owned_at k j (take (line_words s k.ways) ws) ∷ ys) (rows_stay j other ks xs others (others_room k ks ws room) f.1)

-- the rows after a sweep fit as those before
sweep_fit : (s : Suite) (L : Lawful s) (t : ℕ) → t < 2 ^ 32 → (ks : List Kin) (xs : List Owned) (qs : List (List ℕ)) → AllAbreast s xs qs → Fit ks xs → Fit ks (sweep_all (own_step s) xs t).rows
sweep_fit s L t small [] [] qs b f = tt
sweep_fit s L t small [] (x ∷ xs) qs b f = absurd f
sweep_fit s L t small (k ∷ ks) [] qs b f = absurd f
sweep_fit s L t small (k ∷ ks) (x ∷ xs) [] b f = absurd b
sweep_fit s L t small (k ∷ ks) (x ∷ xs) (q ∷ qs) b f =
    let F = f.0 in
    let ways : (stepped s t x xs).slot.ways ≡ k.ways = own_ways s t x (sweep_all (own_step s) xs t).leads ∙ F.ways in
    let whole : Whole (stepped s t x xs).slot = row_length s L t small x xs q qs b.0 b.1 (omega (arith, F.ways, F.words)) in
    (record { member = F.member; ways = ways; words = whole ∙ ap (λ a. a + 2) ways }, sweep_fit s L t small ks xs qs b.1 f.1)

pub swept_fit : (s : Suite) (L : Lawful s) (t : ℕ) → t < 2 ^ 32 → (n i : ℕ) → i < n → (ks : List Kin) (ws : List ℕ) (qs : List (List ℕ))
    → lines_words n ks ≤ length ws → AllAbreast s (rows_at n i ks ws) qs → Fit ks (sweep_all (own_step s) (rows_at n i ks ws) t).rows
swept_fit s L t small n i low ks ws qs room b = sweep_fit s L t small ks (rows_at n i ks ws) qs b (rows_fit n i low ks ws room)
