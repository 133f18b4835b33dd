-- The tree of PLRU: the levels of its nodes, the way that the flags lead, and the search through its leaves.
use Rattle.std.specs.Prelude.{◌≡◌, ℕ, zero, suc, ◌+◌, ◌-◌, ◌*◌, ◌/◌, ◌%◌, ◌^◌, ◌<◌, ◌≤◌, true, false, List, [], ◌∷◌, ◌++◌, map, length, drop, set, Some, None, Option, ◌==◌, ◌≢◌, slice_index, slice_index_or, slice_set, refl}
use Rattle.std.proofs.Common.{sym, ap, ◌∙◌, ⊎_elim, add-zero, zero-add, pow-suc, arith, pow-add, pow_pos, pow_mono}
use Rattle.std.specs.List.{range_with_len, AllByRecursion}
use Rattle.std.proofs.ByRecursion.{All-append, All-set}
use Rattle.std.proofs.lemmas.List.FromFn.{get_or-map-range_with_len}
use Rattle.std.proofs.lemmas.List.{drop_more, drop_all, length-append, length-set, set-append_left, set-set, set_comm}
use Rattle.std.proofs.lemmas.Bool.{eq-eqb, ne_eqb, eqb-true, eqb-false, or_left, or_cases, cond_both, false≢true, or_parts, or_right, cond-true, cond-false}
use Rattle.policy.specs.Search.{member, place, Distinct}
use Rattle.policy.specs.Plru.{Tree, Whole, away, away_word, bit, bits, follow, leaf_at, leaf_of, leaf_touched, tags_of, touch_tree, victim, with_bit}
use Rattle.policy.specs.Bits.{with_bit-bits}
use Rattle.policy.specs.SearchLemmas.{member_first, member_not, member_other}

-- node n stands k levels below the root
abbrev pub Level : ℕ → ℕ → Type 0
Level k n = (2 ^ k ≤ n) × (n < 2 * 2 ^ k)

pub level_child : (k n b : ℕ) → Level k n → b < 2 → Level (k + 1) (2 * n + b)
level_child k n b l h = omega (arith, pow-add 2 k 1)

pub level_parent : (k n : ℕ) → Level (suc k) n → Level k (n / 2)
level_parent k n l = omega (arith, pow-suc 2 k)

pub level_lt : (k d n : ℕ) → Level k n → k < d → n < 2 ^ d
level_lt k d n l h = omega (arith, pow-add 2 k 1, pow_mono {i = k + 1} {j = d} (omega arith))

pub level_up : (d i n : ℕ) → i < d → Level (d - i) n → Level (d - (i + 1)) (n / 2)
level_up d i n h l = let e : d - i ≡ suc (d - (i + 1)) = omega arith in level_parent (d - (i + 1)) n (rw e at l)

-- one level down, with the flags in a head word
pub follow_more : (h d i n : ℕ) → i < d → Level i n → follow (map (bit h) (range_with_len 0 (2 ^ d - 1))) (d - i) n ≡ follow (map (bit h) (range_with_len 0 (2 ^ d - 1))) (d - (i + 1)) (2 * n + bit h (n - 1))
follow_more h d i n l k =
    let e : d - i ≡ suc (d - (i + 1)) = omega arith in
    let flags = map (bit h) (range_with_len 0 (2 ^ d - 1)) in
    ap (λ (x : ℕ). follow flags x n) e
    ∙ ap (λ (b : ℕ). follow flags (d - (i + 1)) (2 * n + b))
    (get_or-map-range_with_len (bit h) 0 (2 ^ d - 1) (n - 1) (n - 1) 0 (omega (arith, pow_pos i, level_lt i d n k l)) (omega arith))

-- one level up
pub away_word_more : (h d i n : ℕ) → i < d → away_word h (d - i) n ≡ away_word (with_bit h (n / 2 - 1) (1 - n % 2)) (d - (i + 1)) (n / 2)
away_word_more h d i n l = let e : d - i ≡ suc (d - (i + 1)) = omega arith in ap (λ (k : ℕ). away_word h k n) e

-- what a row says of leaf i
pub leaf_filled : (h : ℕ) (ws : List ℕ) (n i : ℕ) → i < n → bit h (16 + i) ≡ 1 → slice_index_or (map (leaf_at h ws) (range_with_len 0 n)) i None ≡ Some (slice_index ws i)
leaf_filled h ws n i l e = get_or-map-range_with_len (leaf_at h ws) 0 n i i None l (omega arith) ∙ cond-true (bit h (16 + i) == 1) (Some (slice_index ws i)) None (eq-eqb (bit h (16 + i)) 1 e)

pub leaf_empty : (h : ℕ) (ws : List ℕ) (n i : ℕ) → i < n → (bit h (16 + i) ≢ 1) → slice_index_or (map (leaf_at h ws) (range_with_len 0 n)) i None ≡ None
leaf_empty h ws n i l e = get_or-map-range_with_len (leaf_at h ws) 0 n i i None l (omega arith) ∙ cond-false (bit h (16 + i) == 1) (Some (slice_index ws i)) None (ne_eqb (bit h (16 + i)) 1 e)

-- the flags on the path to a node

pub length-away : (flags : List ℕ) (d n : ℕ) → length (away flags d n) ≡ length flags
length-away flags zero n = refl
length-away flags (suc d) n = length-away (slice_set flags (n / 2 - 1) (1 - n % 2)) d (n / 2) ∙ length-set flags (n / 2 - 1) (1 - n % 2)

pub away-bits : (flags : List ℕ) (d n : ℕ) → AllByRecursion (λ b. b < 2) flags → AllByRecursion (λ b. b < 2) (away flags d n)
away-bits flags zero n h = h
away-bits flags (suc d) n h = away-bits (slice_set flags (n / 2 - 1) (1 - n % 2)) d (n / 2) (All-set (λ b. b < 2) flags (n / 2 - 1) (1 - n % 2) (omega arith) h)

away-set : (flags : List ℕ) (d n j b : ℕ) → n / 2 - 1 < j → away (slice_set flags j b) d n ≡ slice_set (away flags d n) j b
away-set flags zero n j b h = refl
away-set flags (suc d) n j b h =
    ap (λ (fs : List ℕ). away fs d (n / 2)) (set_comm flags j (n / 2 - 1) b (1 - n % 2) (λ e. omega arith))
    ∙ away-set (slice_set flags (n / 2 - 1) (1 - n % 2)) d (n / 2) j b (omega arith)

path_kept : (flags : List ℕ) (d m b : ℕ) → 2 ^ d ≤ m → slice_set (away (slice_set flags (m - 1) b) d m) (m - 1) b ≡ away (slice_set flags (m - 1) b) d m
path_kept flags zero m b h = set-set flags (m - 1) b b
path_kept flags (suc d) m b h =
    sym (away-set (slice_set flags (m - 1) b) (suc d) m (m - 1) b (omega (arith, pow-suc 2 d, pow_pos d)))
    ∙ ap (λ (fs : List ℕ). away fs (suc d) m) (set-set flags (m - 1) b b)

-- flags that point away already stay
pub away_again : (flags : List ℕ) (d n : ℕ) → 2 ^ d ≤ n → away (away flags d n) d n ≡ away flags d n
away_again flags zero n h = refl
away_again flags (suc d) n h =
    let up : 2 ^ d ≤ n / 2 = omega (arith, pow-suc 2 d) in
    ap (λ (fs : List ℕ). away fs d (n / 2)) (path_kept flags d (n / 2) (1 - n % 2) up)
    ∙ away_again (slice_set flags (n / 2 - 1) (1 - n % 2)) d (n / 2) up

-- the flags in a head word, before other bits
pub away_word-bits : (flags rest : List ℕ) (d n : ℕ) → 2 ^ d ≤ length flags + 1 → Level d n → AllByRecursion (λ b. b < 2) flags → AllByRecursion (λ b. b < 2) rest → away_word (bits (flags ++ rest)) d n ≡ bits (away flags d n ++ rest)
away_word-bits flags rest zero n w l h k = refl
away_word-bits flags rest (suc d) n w l h k =
    let up = level_parent d n l in
    let j = n / 2 - 1 in
    let b = 1 - n % 2 in
    let in' : n / 2 - 1 < length flags = omega (arith, pow-suc 2 d, pow_pos d) in
    let step = with_bit-bits (flags ++ rest) j b (omega (arith, length-append flags rest)) (All-append (λ x. x < 2) flags rest h k) ∙ ap bits (set-append_left flags rest j b in') in
    ap (λ (x : ℕ). away_word x d (n / 2)) step
    ∙ away_word-bits (slice_set flags j b) rest d (n / 2) (omega (arith, length-set flags j b, pow-suc 2 d)) up (All-set (λ x. x < 2) flags j b (omega arith) h) k

-- the leaf that flags lead to

flag_lt : (flags : List ℕ) (j : ℕ) → AllByRecursion (λ b. b < 2) flags → slice_index flags j < 2
flag_lt [] j h = omega arith
flag_lt (b ∷ bs) zero h = h.0
flag_lt (b ∷ bs) (suc j) h = flag_lt bs j h.1

follow_level : (flags : List ℕ) (d k n : ℕ) → AllByRecursion (λ b. b < 2) flags → Level k n → Level (k + d) (follow flags d n)
follow_level flags zero k n h l = rw add-zero l
follow_level flags (suc d) k n h l =
    let e : k + suc d ≡ (k + 1) + d = omega arith in
    rw e (follow_level flags d (k + 1) (2 * n + slice_index flags (n - 1)) h (level_child k n (slice_index flags (n - 1)) l (flag_lt flags (n - 1) h)))

pub victim_lt : (flags : List ℕ) (d : ℕ) → AllByRecursion (λ b. b < 2) flags → follow flags d 1 - 2 ^ d < 2 ^ d
victim_lt flags d h = let l = follow_level flags d 0 1 h (omega arith) in omega (arith, ap (λ (k : ℕ). 2 ^ k) (zero-add d))

-- the leaves

pub leaf_of_lt : (t : ℕ) (ls : List (Option ℕ)) → member t (tags_of ls) ≡ true → leaf_of t ls < length ls
leaf_of_lt t [] h = absurd (false≢true h)
leaf_of_lt t (None ∷ ls) h = omega (arith, leaf_of_lt t ls h)
leaf_of_lt t (Some x ∷ ls) h =
    cond_both (t == x) 0 (suc (leaf_of t ls)) (λ v. v < suc (length ls)) (λ e. omega arith) (λ e. omega (arith, leaf_of_lt t ls (rw e at h)))

-- a leaf that holds the tag already
pub set-leaf_of : (t : ℕ) (ls : List (Option ℕ)) → member t (tags_of ls) ≡ true → slice_set ls (leaf_of t ls) (Some t) ≡ ls
set-leaf_of t [] h = refl
set-leaf_of t (None ∷ ls) h = ap (λ (xs : List (Option ℕ)). None ∷ xs) (set-leaf_of t ls h)
set-leaf_of t (Some x ∷ ls) h =
    cond_both (t == x) 0 (suc (leaf_of t ls)) (λ v. slice_set (Some x ∷ ls) v (Some t) ≡ Some x ∷ ls)
    (λ e. ap (λ (y : ℕ). Some y ∷ ls) (eqb-true t x e))
    (λ e. ap (λ (xs : List (Option ℕ)). Some x ∷ xs) (set-leaf_of t ls (rw e at h)))

pub member-put : (t : ℕ) (ls : List (Option ℕ)) (i : ℕ) → i < length ls → member t (tags_of (slice_set ls i (Some t))) ≡ true
member-put t [] i h = absurd (omega arith)
member-put t (o ∷ ls) zero h = member_first t (tags_of ls)
member-put t (None ∷ ls) (suc i) h = member-put t ls i (omega arith)
member-put t (Some x ∷ ls) (suc i) h = or_right (t == x) (member t (tags_of (slice_set ls i (Some t)))) (member-put t ls i (omega arith))

pub member-before : (t u : ℕ) (ls : List (Option ℕ)) (i : ℕ) → (u ≢ t) → member u (tags_of (slice_set ls i (Some t))) ≡ true → member u (tags_of ls) ≡ true
member-before t u [] i o h = h
member-before t u (None ∷ ls) zero o h = member_other u t (tags_of ls) o h
member-before t u (Some x ∷ ls) zero o h = or_right (u == x) (member u (tags_of ls)) (member_other u t (tags_of ls) o h)
member-before t u (None ∷ ls) (suc i) o h = member-before t u ls i o h
member-before t u (Some x ∷ ls) (suc i) o h =
    ⊎_elim (or_left (u == x) (member u (tags_of ls))) (λ e. or_right (u == x) (member u (tags_of ls)) (member-before t u ls i o e))
    (or_cases (u == x) (member u (tags_of (slice_set ls i (Some t)))) h)

pub leaf_of-put : (t : ℕ) (ls : List (Option ℕ)) (i : ℕ) → i < length ls → member t (tags_of ls) ≡ false → leaf_of t (slice_set ls i (Some t)) ≡ i
leaf_of-put t [] i l h = absurd (omega arith)
leaf_of-put t (o ∷ ls) zero l h = rw (eq-eqb t t refl)
leaf_of-put t (None ∷ ls) (suc i) l h = ap suc (leaf_of-put t ls i (omega arith) h)
leaf_of-put t (Some x ∷ ls) (suc i) l h =
    let p = or_parts (t == x) (member t (tags_of ls)) h in rw p.0 (ap suc (leaf_of-put t ls i (omega arith) p.1))

pub distinct_put : (t : ℕ) (ls : List (Option ℕ)) (i : ℕ) → member t (tags_of ls) ≡ false → Distinct (tags_of ls) → Distinct (tags_of (slice_set ls i (Some t)))
distinct_put t [] i h d = tt
distinct_put t (None ∷ ls) zero h d = (h, d)
distinct_put t (Some x ∷ ls) zero h d = ((or_parts (t == x) (member t (tags_of ls)) h).1, d.1)
distinct_put t (None ∷ ls) (suc i) h d = distinct_put t ls i h d
distinct_put t (Some x ∷ ls) (suc i) h d =
    let p = or_parts (t == x) (member t (tags_of ls)) h in (
      member_not x (tags_of ls) (tags_of (slice_set ls i (Some t))) (member-before t x ls i (λ e. eqb-false t x p.0 (sym e))) d.0,
      distinct_put t ls i p.1 d.1,
    )

pub all_put : (P : ℕ → Type 0) (t : ℕ) (ls : List (Option ℕ)) (i : ℕ) → P t → AllByRecursion P (tags_of ls) → AllByRecursion P (tags_of (slice_set ls i (Some t)))
all_put P t [] i p h = h
all_put P t (None ∷ ls) zero p h = (p, h)
all_put P t (Some x ∷ ls) zero p h = (p, h.1)
all_put P t (None ∷ ls) (suc i) p h = all_put P t ls i p h
all_put P t (Some x ∷ ls) (suc i) p h = (h.0, all_put P t ls i p h.1)

pub tags_few : (ls : List (Option ℕ)) → length (tags_of ls) ≤ length ls
tags_few [] = omega arith
tags_few (None ∷ ls) = omega (arith, tags_few ls)
tags_few (Some x ∷ ls) = omega (arith, tags_few ls)

-- a search for t that has passed i leaves and made n comparisons
pub record Sought (t : ℕ) (ls : List (Option ℕ)) (i n : ℕ) : Type 0 where
  pub few : n ≤ i
  pub compared : place t (tags_of ls) ≡ n + place t (tags_of (drop i ls))
  pub seen : member t (tags_of ls) ≡ member t (tags_of (drop i ls))
  pub passed : leaf_of t ls ≡ i + leaf_of t (drop i ls)

module _ (t : ℕ) (ls : List (Option ℕ)) (i n : ℕ) (s : Sought t ls i n) where
  next : (o : Option ℕ) → i < length ls → slice_index_or ls i None ≡ o → drop i ls ≡ o ∷ drop (i + 1) ls
  next o h e = drop_more ls i None h ∙ ap (λ (x : Option ℕ). x ∷ drop (i + 1) ls) e

  pub sought_empty : i < length ls → slice_index_or ls i None ≡ None → Sought t ls (i + 1) n
  sought_empty h e =
      let d = next None h e in
      record {
        few = omega arith;
        compared = s.compared ∙ ap (λ (xs : List (Option ℕ)). n + place t (tags_of xs)) d;
        seen = s.seen ∙ ap (λ (xs : List (Option ℕ)). member t (tags_of xs)) d;
        passed = omega (arith, ap (leaf_of t) d);
      }

  pub sought_other : (x : ℕ) → i < length ls → slice_index_or ls i None ≡ Some x → (x ≢ t) → Sought t ls (i + 1) (n + 1)
  sought_other x h e o =
      let d = next (Some x) h e in
      let q = ne_eqb t x (λ p. o (sym p)) in
      record {
        few = omega arith;
        compared = s.compared ∙ ap (λ (xs : List (Option ℕ)). n + place t (tags_of xs)) d ∙ rw q (omega arith);
        seen = s.seen ∙ ap (λ (xs : List (Option ℕ)). member t (tags_of xs)) d ∙ rw q;
        passed = s.passed ∙ ap (λ (xs : List (Option ℕ)). i + leaf_of t xs) d ∙ rw q (omega arith);
      }

  pub sought_found : i < length ls → slice_index_or ls i None ≡ Some t → (member t (tags_of ls) ≡ true) × (leaf_of t ls ≡ i) × (place t (tags_of ls) ≡ n + 1)
  sought_found h e =
      let d = next (Some t) h e in
      let q = eq-eqb t t refl in (
        s.seen ∙ ap (λ (xs : List (Option ℕ)). member t (tags_of xs)) d ∙ rw q,
        s.passed ∙ ap (λ (xs : List (Option ℕ)). i + leaf_of t xs) d ∙ rw q (omega arith),
        s.compared ∙ ap (λ (xs : List (Option ℕ)). n + place t (tags_of xs)) d ∙ rw q,
      )

  pub sought_all : length ls ≤ i → (member t (tags_of ls) ≡ false) × (place t (tags_of ls) ≡ n)
  sought_all h =
      let d = drop_all i ls h in (
        s.seen ∙ ap (λ (xs : List (Option ℕ)). member t (tags_of xs)) d,
        s.compared ∙ ap (λ (xs : List (Option ℕ)). n + place t (tags_of xs)) d ∙ omega arith,
      )

-- trees with the same parts
pub same_trees : (S T : Tree) → S.depth ≡ T.depth → S.flags ≡ T.flags → S.leaves ≡ T.leaves → S ≡ T
same_trees S T p q r =
    let tree : ℕ → List ℕ → List (Option ℕ) → Tree = λ d fs ls. record { depth = d; flags = fs; leaves = ls } in
    ap (λ (d : ℕ). tree d S.flags S.leaves) p
    ∙ ap (λ (fs : List ℕ). tree T.depth fs S.leaves) q
    ∙ ap (λ (ls : List (Option ℕ)). tree T.depth T.flags ls) r

-- a touch of a tree

pub leaf_touched_lt : (T : Tree) (t : ℕ) → AllByRecursion (λ b. b < 2) T.flags → length T.leaves ≡ 2 ^ T.depth → leaf_touched T t < 2 ^ T.depth
leaf_touched_lt T t h e =
    cond_both (member t (tags_of T.leaves)) (leaf_of t T.leaves) (victim T) (λ i. i < 2 ^ T.depth)
    (λ m. omega (arith, leaf_of_lt t T.leaves m)) (λ m. victim_lt T.flags T.depth h)

-- a hit leaves the leaves as they are, and a miss puts the tag into the victim
touch_cases : (T : Tree) (t : ℕ) (P : List (Option ℕ) → ℕ → Type 0)
    → (member t (tags_of T.leaves) ≡ true → P T.leaves (leaf_of t T.leaves))
    → (member t (tags_of T.leaves) ≡ false → P (slice_set T.leaves (victim T) (Some t)) (victim T))
    → P (touch_tree T t).leaves (leaf_touched T t)
touch_cases T t P hit miss =
    cond_both (member t (tags_of T.leaves)) (leaf_of t T.leaves) (victim T) (λ i. P (slice_set T.leaves i (Some t)) i)
    (λ m. rw (set-leaf_of t T.leaves m) (hit m)) miss

pub whole_touched : (a t : ℕ) (T : Tree) → Whole a T → t < 2 ^ 32 → Whole a (touch_tree T t)
whole_touched a t T w h = record {
  leaves = w.leaves;
  shallow = w.shallow;
  flag_count = omega (arith, length-away T.flags T.depth (2 ^ T.depth + leaf_touched T t), w.flag_count);
  flag_bits = away-bits T.flags T.depth (2 ^ T.depth + leaf_touched T t) w.flag_bits;
  leaf_count = length-set T.leaves (leaf_touched T t) (Some t) ∙ w.leaf_count;
  distinct = touch_cases T t (λ ls i. Distinct (tags_of ls)) (λ m. w.distinct) (λ m. distinct_put t T.leaves (victim T) m w.distinct);
  width = all_put (λ x. x < 2 ^ 32) t T.leaves (leaf_touched T t) h w.width;
}

pub touched_within : (a t : ℕ) (T : Tree) → Whole a T → leaf_touched T t < length T.leaves
touched_within a t T w = omega (arith, leaf_touched_lt T t w.flag_bits (w.leaf_count ∙ sym w.leaves), w.leaf_count, w.leaves)

leaf_touched_again : (a t : ℕ) (T : Tree) → Whole a T → leaf_touched (touch_tree T t) t ≡ leaf_touched T t
leaf_touched_again a t T w =
    let i = leaf_touched T t in
    cond-true (member t (tags_of (slice_set T.leaves i (Some t)))) (leaf_of t (slice_set T.leaves i (Some t))) (victim (touch_tree T t)) (member-put t T.leaves i (touched_within a t T w))
    ∙ touch_cases T t (λ ls k. leaf_of t ls ≡ k) (λ m. refl)
    (λ m. leaf_of-put t T.leaves (victim T) (omega (arith, victim_lt T.flags T.depth w.flag_bits, w.leaf_count, w.leaves)) m)

pub touch_again : (a t : ℕ) (T : Tree) → Whole a T → touch_tree (touch_tree T t) t ≡ touch_tree T t
touch_again a t T w =
    let d = T.depth in
    let i = leaf_touched T t in
    let e = leaf_touched_again a t T w in
    same_trees (touch_tree (touch_tree T t) t) (touch_tree T t) refl
    (ap (λ (k : ℕ). away (touch_tree T t).flags d (2 ^ d + k)) e ∙ away_again T.flags d (2 ^ d + i) (omega arith))
    (ap (λ (k : ℕ). set (touch_tree T t).leaves k (Some t)) e ∙ set-set T.leaves i (Some t) (Some t))
