-- Rows of PLRU: the tree that a row holds, and a touch of the row as a touch of the tree.
use Rattle.std.specs.Prelude.{◌≡◌, ℕ, zero, suc, ◌+◌, ◌-◌, ◌*◌, ◌%◌, ◌^◌, ◌<◌, ◌≤◌, Bool, false, cond, List, [], ◌∷◌, ◌++◌, map, length, take, drop, set, replicate, Some, None, Option, ◌==◌, nat_lt, slice_index, slice_index_or, slice_set, refl}
use Rattle.std.proofs.Common.{sym, ap, ap₂, ◌∙◌, one-add, arith, pow_mono, pow_pos}
use Rattle.std.specs.List.{range_with_len, AllByRecursion}
use Rattle.std.proofs.lemmas.List.FromFn.{fill_by_all, get_or-map-range_with_len, length-map-range_with_len}
use Rattle.std.proofs.ByRecursion.{All-append, All-from_get_or}
use Rattle.std.proofs.lemmas.Nat.{one_shl}
use Rattle.std.proofs.lemmas.Bool.{cond_both, ltb-false}
use Rattle.std.proofs.lemmas.List.{get_or_append_left, get_or-append_right, get_or-map, get_or-take, length-append, length-map, length-replicate, length-take-le, map-set, set-append_right}
use Rattle.policy.specs.Search.{member, place}
use Rattle.policy.specs.Policy.{Touched}
use Rattle.policy.specs.Plru.{OnTree, Tree, Whole, away, away_word, bit, bits, depth_of, fill_leaf, filled, leaf_at, leaf_touched, leaf_word, tags_of, touch_row, touch_tree, tree_layout, tree_of, tree_residents, with_bit}
use Rattle.policy.specs.Bits.{bit-bits, bits_lt, with_bit-bits}
use Rattle.policy.specs.SearchLemmas.{all_replicate}
use Rattle.policy.specs.Tree.{same_trees, away_word-bits, leaf_touched_lt, length-away}

-- any row

pub depth_of-fits : (n : ℕ) → (0 < n → 2 ^ depth_of n ≤ n) × (depth_of n ≤ 4)
depth_of-fits n =
    let Fits : ℕ → Type 0 = λ d. (0 < n → 2 ^ d ≤ n) × (d ≤ 4) in
    cond_both (nat_lt n 2) 0 (cond (nat_lt n 4) 1 (cond (nat_lt n 8) 2 (cond (nat_lt n 16) 3 4))) Fits (λ e. omega arith)
    (λ two. cond_both (nat_lt n 4) 1 (cond (nat_lt n 8) 2 (cond (nat_lt n 16) 3 4)) Fits (λ e. omega (arith, ltb-false n 2 two))
    (λ four. cond_both (nat_lt n 8) 2 (cond (nat_lt n 16) 3 4) Fits (λ e. omega (arith, ltb-false n 4 four))
    (λ eight. cond_both (nat_lt n 16) 3 4 Fits (λ e. omega (arith, ltb-false n 8 eight)) (λ e. omega (arith, ltb-false n 16 e)))))

-- the front of the words says the same of the leaves in it
leaves_front : (h n : ℕ) (ws : List ℕ) → map (leaf_at h (take n ws)) (range_with_len 0 n) ≡ map (leaf_at h ws) (range_with_len 0 n)
leaves_front h n ws =
    fill_by_all (leaf_at h ws) (map (leaf_at h (take n ws)) (range_with_len 0 n)) n None (length-map-range_with_len (leaf_at h (take n ws)) 0 n)
    (λ k l. get_or-map-range_with_len (leaf_at h (take n ws)) 0 n k k None l (omega arith)
    ∙ ap (λ (x : ℕ). cond (bit h (16 + k) == 1) (Some x) None) (get_or-take n ws k 0 l))

-- `&leaves[..1 << depth]` has the leaves of the tree
pub slice_leaves : (h d : ℕ) (ws : List ℕ) → 0 < length ws → d ≡ depth_of (length ws) → map (leaf_at h (take (1 * 2 ^ d % 2 ^ 64) ws)) (range_with_len 0 (length (take (1 * 2 ^ d % 2 ^ 64) ws))) ≡ (tree_of h ws).leaves
slice_leaves h d ws l e =
    let fits = depth_of-fits (length ws) in
    let shift : 1 * 2 ^ d % 2 ^ 64 ≡ 2 ^ depth_of (length ws) = one_shl d 64 (omega arith) ∙ ap (λ (k : ℕ). 2 ^ k) e in
    ap (λ (n : ℕ). map (leaf_at h (take n ws)) (range_with_len 0 (length (take n ws)))) shift
    ∙ ap (λ (n : ℕ). map (leaf_at h (take (2 ^ depth_of (length ws)) ws)) (range_with_len 0 n)) (length-take-le (2 ^ depth_of (length ws)) ws (fits.0 l))
    ∙ leaves_front h (2 ^ depth_of (length ws)) ws

pub leaf_touched_in : (h t : ℕ) (ws : List ℕ) → leaf_touched (tree_of h ws) t < 2 ^ depth_of (length ws)
leaf_touched_in h t ws =
    let n = 2 ^ depth_of (length ws) in
    leaf_touched_lt (tree_of h ws) t
    (All-from_get_or (λ b. b < 2) (map (bit h) (range_with_len 0 (n - 1))) 0
    (λ i l. omega (arith, get_or-map-range_with_len (bit h) 0 (n - 1) i i 0 (omega (arith, length-map-range_with_len (bit h) 0 (n - 1))) (omega arith))))
    (length-map-range_with_len (leaf_at h ws) 0 n)

touch_words : (h t : ℕ) (ws : List ℕ) → 0 < length ws → touch_row (h ∷ ws) t ≡ record {
  hit = member t (tags_of (tree_of h ws).leaves);
  comparisons = place t (tags_of (tree_of h ws).leaves);
  row = fill_leaf h ws (leaf_touched (tree_of h ws) t) t;
}
touch_words h t [] l = absurd (omega arith)
touch_words h t (w ∷ ws) l = refl

residents_words : (h : ℕ) (ws : List ℕ) → 0 < length ws → tree_residents (h ∷ ws) ≡ tags_of (tree_of h ws).leaves
residents_words h [] l = absurd (omega arith)
residents_words h (w ∷ ws) l = refl

pub touch_short : (t : ℕ) (r : List ℕ) → length r < 2 → touch_row r t ≡ record { hit = false; comparisons = 0; row = r }
touch_short t [] l = refl
touch_short t (h ∷ []) l = refl
touch_short t (h ∷ (w ∷ ws)) l = absurd (omega arith)

-- what two writes into a row make of it
pub touch_writes : (t i : ℕ) (r : List ℕ) → 2 ≤ length r → i ≡ leaf_touched (tree_of (slice_index r 0) (drop 1 r)) t → touch_row r t ≡ record {
  hit = member t (tags_of (tree_of (slice_index r 0) (drop 1 r)).leaves);
  comparisons = place t (tags_of (tree_of (slice_index r 0) (drop 1 r)).leaves);
  row = slice_set (slice_set r 0 (away_word (with_bit (slice_index r 0) (16 + i) 1) (depth_of (length r - 1)) (2 ^ depth_of (length r - 1) + i))) (1 + i) t;
}
touch_writes t i [] l e = absurd (omega arith)
touch_writes t i (h ∷ []) l e = absurd (omega arith)
touch_writes t i (h ∷ (w ∷ ws)) l e =
    let ls = (tree_of h (w ∷ ws)).leaves in
    let touched : List ℕ → Touched = λ r. record { hit = member t (tags_of ls); comparisons = place t (tags_of ls); row = r } in
    let written : ℕ → ℕ → List ℕ = λ n k. set (slice_set (h ∷ (w ∷ ws)) 0 (away_word (with_bit h (16 + i) 1) (depth_of n) (2 ^ depth_of n + i))) k t in
    let size : suc (suc (length ws)) - 1 ≡ suc (length ws) = omega arith in
    ap touched (ap (λ (k : ℕ). fill_leaf h (w ∷ ws) k t) (sym e) ∙ sym (ap (written (suc (suc (length ws)) - 1)) (one-add i) ∙ ap (λ (n : ℕ). written n (suc i)) size))

-- the row of a tree

depth_of_pow : (d : ℕ) → d ≤ 4 → depth_of (2 ^ d) ≡ d
depth_of_pow zero h = refl
depth_of_pow (suc zero) h = refl
depth_of_pow (suc (suc zero)) h = refl
depth_of_pow (suc (suc (suc zero))) h = refl
depth_of_pow (suc (suc (suc (suc zero)))) h = refl
depth_of_pow (suc (suc (suc (suc (suc d))))) h = absurd (omega arith)

filled-bits : (ls : List (Option ℕ)) → AllByRecursion (λ b. b < 2) (map filled ls)
filled-bits [] = tt
filled-bits (None ∷ ls) = (omega arith, filled-bits ls)
filled-bits (Some t ∷ ls) = (omega arith, filled-bits ls)

leaf_words : (ls : List (Option ℕ)) → AllByRecursion (λ t. t < 2 ^ 32) (tags_of ls) → AllByRecursion (λ t. t < 2 ^ 32) (map leaf_word ls)
leaf_words [] h = tt
leaf_words (None ∷ ls) h = (omega arith, leaf_words ls h)
leaf_words (Some t ∷ ls) h = (h.0, leaf_words ls h.1)

-- the bits of the head word above the flags
abbrev upper : ℕ → List (Option ℕ) → List ℕ
upper n ls = replicate (16 - n) 0 ++ map filled ls

upper-bits : (n : ℕ) (ls : List (Option ℕ)) → AllByRecursion (λ b. b < 2) (upper n ls)
upper-bits n ls = All-append (λ b. b < 2) (replicate (16 - n) 0) (map filled ls) (all_replicate (λ b. b < 2) (16 - n) 0 (omega arith)) (filled-bits ls)

-- what stands at a leaf
leaf_read : (o : Option ℕ) → cond (filled o == 1) (Some (leaf_word o)) None ≡ o
leaf_read None = refl
leaf_read (Some t) = refl

-- the bits of the head word: flags, zeros up to bit 16, and the filled leaves
abbrev digits : List ℕ → List (Option ℕ) → List ℕ
digits fs ls = fs ++ upper (length fs) ls

module _ (a : ℕ) (T : Tree) (w : Whole a T) where
  flags_le : length T.flags ≤ 15
  flags_le = omega (arith, pow_mono w.shallow)

  digit_bits : AllByRecursion (λ b. b < 2) (digits T.flags T.leaves)
  digit_bits = All-append (λ b. b < 2) T.flags (upper (length T.flags) T.leaves) w.flag_bits (upper-bits (length T.flags) T.leaves)

  digit_count : length (digits T.flags T.leaves) ≡ 16 + a
  digit_count =
      let n = length T.flags in
      let le = flags_le in
      omega (arith, length-append T.flags (upper n T.leaves), length-append (replicate (16 - n) 0) (map filled T.leaves), length-replicate {A = ℕ} (16 - n) 0, length-map T.leaves filled, w.leaf_count)

  -- where the bits of the leaves stand
  above : (i : ℕ) → 16 + i - length T.flags - (16 - length T.flags) ≡ i
  above i = let l = flags_le in omega arith

  bit_flag : (k : ℕ) → k < length T.flags → bit (bits (digits T.flags T.leaves)) k ≡ slice_index T.flags k
  bit_flag k l = bit-bits (digits T.flags T.leaves) k digit_bits ∙ get_or_append_left T.flags (upper (length T.flags) T.leaves) 0 k l

  bit-filled : (k : ℕ) → k < length T.leaves → bit (bits (digits T.flags T.leaves)) (16 + k) ≡ filled (slice_index_or T.leaves k None)
  bit-filled k l =
      let n = length T.flags in
      let le = flags_le in
      bit-bits (digits T.flags T.leaves) (16 + k) digit_bits
      ∙ get_or-append_right T.flags (upper n T.leaves) n (16 + k) 0 refl (omega arith)
      ∙ get_or-append_right (replicate (16 - n) 0) (map filled T.leaves) (16 - n) (16 + k - n) 0 (length-replicate (16 - n) 0) (omega arith)
      ∙ ap (λ (j : ℕ). slice_index (map filled T.leaves) j) (above k)
      ∙ get_or-map filled T.leaves k None 0 l

  depth_laid : depth_of (length (map leaf_word T.leaves)) ≡ T.depth
  depth_laid = ap depth_of (length-map T.leaves leaf_word ∙ w.leaf_count ∙ sym w.leaves) ∙ depth_of_pow T.depth w.shallow

  leaf_laid : (k : ℕ) → k < length T.leaves → leaf_at (bits (digits T.flags T.leaves)) (map leaf_word T.leaves) k ≡ slice_index_or T.leaves k None
  leaf_laid k l =
      ap₂ (λ (b x : ℕ). cond (b == 1) (Some x) None) (bit-filled k l) (get_or-map leaf_word T.leaves k None 0 l)
      ∙ leaf_read (slice_index_or T.leaves k None)

  -- the row of a tree gives the tree back
  pub tree_of_laid : tree_of (bits (digits T.flags T.leaves)) (map leaf_word T.leaves) ≡ T
  tree_of_laid =
      let h = bits (digits T.flags T.leaves) in
      let ws = map leaf_word T.leaves in
      same_trees (tree_of h ws) T depth_laid
      (ap (λ (d : ℕ). map (bit h) (range_with_len 0 (2 ^ d - 1))) depth_laid
      ∙ sym (fill_by_all (bit h) T.flags (2 ^ T.depth - 1) 0 (omega (arith, w.flag_count, w.leaves)) (λ k l. sym (bit_flag k (omega (arith, w.flag_count, w.leaves))))))
      (ap (λ (d : ℕ). map (leaf_at h ws) (range_with_len 0 (2 ^ d))) depth_laid
      ∙ sym (fill_by_all (leaf_at h ws) T.leaves (2 ^ T.depth) None (w.leaf_count ∙ sym w.leaves) (λ k l. sym (leaf_laid k (omega (arith, w.leaf_count, w.leaves))))))

  -- leaf i takes the tag, in the row and in the tree
  fill_laid : (i t : ℕ) → i < a → fill_leaf (bits (digits T.flags T.leaves)) (map leaf_word T.leaves) i t ≡ tree_layout (record { depth = T.depth; flags = away T.flags T.depth (2 ^ T.depth + i); leaves = slice_set T.leaves i (Some t) })
  fill_laid i t l =
      let fs = T.flags in
      let ls = T.leaves in
      let n = length T.flags in
      let d = T.depth in
      let le = flags_le in
      let put : with_bit (bits (digits fs ls)) (16 + i) 1 ≡ bits (fs ++ upper n (slice_set ls i (Some t))) =
      with_bit-bits (digits fs ls) (16 + i) 1 (omega (arith, digit_count)) digit_bits
      ∙ ap bits (set-append_right fs (upper n ls) n (16 + i) 1 refl (omega arith))
      ∙ ap (λ (u : List ℕ). bits (fs ++ u)) (set-append_right (replicate (16 - n) 0) (map filled ls) (16 - n) (16 + i - n) 1 (length-replicate (16 - n) 0) (omega arith))
      ∙ ap (λ (u : List ℕ). bits (fs ++ (replicate (16 - n) 0 ++ u))) (ap (λ (j : ℕ). set (map filled ls) j 1) (above i) ∙ sym (map-set filled ls i (Some t))) in
      let top : away_word (with_bit (bits (digits fs ls)) (16 + i) 1) d (2 ^ d + i) ≡ bits (digits (away fs d (2 ^ d + i)) (slice_set ls i (Some t))) =
      ap (λ (x : ℕ). away_word x d (2 ^ d + i)) put
      ∙ away_word-bits fs (upper n (slice_set ls i (Some t))) d (2 ^ d + i) (omega (arith, w.flag_count, w.leaves)) (omega (arith, w.leaves)) w.flag_bits (upper-bits n (slice_set ls i (Some t)))
      ∙ ap (λ (m : ℕ). bits (away fs d (2 ^ d + i) ++ upper m (slice_set ls i (Some t)))) (sym (length-away fs d (2 ^ d + i))) in
      ap₂ (λ (x : ℕ) (xs : List ℕ). x ∷ xs)
      (ap (λ (k : ℕ). away_word (with_bit (bits (digits fs ls)) (16 + i) 1) k (2 ^ k + i)) depth_laid ∙ top)
      (sym (map-set leaf_word ls i (Some t)))

  pub length_laid : length (tree_layout T) ≡ a + 1
  length_laid = omega (arith, length-map T.leaves leaf_word, w.leaf_count)

  pub width_laid : AllByRecursion (λ x. x < 2 ^ 32) (tree_layout T)
  width_laid =
      let few : 16 + a ≤ 32 = omega (arith, pow_mono w.shallow, w.leaves) in (
        omega (arith, bits_lt (digits T.flags T.leaves) digit_bits, ap (λ (n : ℕ). 2 ^ n) digit_count, pow_mono few),
        leaf_words T.leaves w.width,
      )

  words_laid : 0 < length (map leaf_word T.leaves)
  words_laid = omega (arith, length-map T.leaves leaf_word, w.leaf_count, w.leaves, pow_pos T.depth)

  pub residents_laid : tree_residents (tree_layout T) ≡ tags_of T.leaves
  residents_laid = residents_words (bits (digits T.flags T.leaves)) (map leaf_word T.leaves) words_laid ∙ ap (λ (S : Tree). tags_of S.leaves) tree_of_laid

  -- a touch of the row is a touch of the tree
  pub touch_laid : (t : ℕ) → touch_row (tree_layout T) t ≡ record {
    hit = member t (tags_of T.leaves);
    comparisons = place t (tags_of T.leaves);
    row = tree_layout (touch_tree T t);
  }
  touch_laid t =
      let h = bits (digits T.flags T.leaves) in
      let ws = map leaf_word T.leaves in
      let touched : Tree → List ℕ → Touched = λ S r. record { hit = member t (tags_of S.leaves); comparisons = place t (tags_of S.leaves); row = r } in
      touch_words h t ws words_laid
      ∙ ap (λ (S : Tree). touched S (fill_leaf h ws (leaf_touched S t) t)) tree_of_laid
      ∙ ap (touched T) (fill_laid (leaf_touched T t) t (omega (arith, leaf_touched_lt T t w.flag_bits (w.leaf_count ∙ sym w.leaves), w.leaves)))

-- so on the row of a tree
pub on_tree : (t : ℕ) (r exit : List ℕ) (hit : Bool) (n : ℕ) → hit ≡ (touch_row r t).hit → n ≡ (touch_row r t).comparisons → exit ≡ (touch_row r t).row → OnTree r t exit hit n
on_tree t r exit hit n p q e = record {
  answers = λ a T w l. let m = touch_laid a T w t in (p ∙ ap (λ (x : List ℕ). (touch_row x t).hit) l ∙ ap (λ (x : Touched). x.hit) m, q ∙ ap (λ (x : List ℕ). (touch_row x t).comparisons) l ∙ ap (λ (x : Touched). x.comparisons) m);
  lays = λ a T w l. e ∙ ap (λ (x : List ℕ). (touch_row x t).row) l ∙ ap (λ (x : Touched). x.row) (touch_laid a T w t);
}
