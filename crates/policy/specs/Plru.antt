-- Tree PLRU: a complete binary tree whose inner nodes hold flags and whose leaves are the ways, and the words of a row.
-- Node 1 is the root, and node k has the children 2k (left) and 2k + 1 (right). A flag 0 points left, 1 right.
use Rattle.std.specs.Prelude.{◌≡◌, ℕ, zero, suc, ◌+◌, ◌-◌, ◌*◌, ◌/◌, ◌%◌, ◌^◌, ◌<◌, ◌≤◌, Bool, false, cond, ◌||◌, List, [], ◌∷◌, ◌++◌, map, length, replicate, Some, None, Option, ◌==◌, nat_lt, slice_index, slice_set}
use Rattle.std.specs.List.{range_with_len, AllByRecursion}
use Rattle.policy.specs.Search.{member, place, Distinct}
use Rattle.policy.specs.Policy.{Meaning, Touched}

-- A tree of 2 ^ depth leaves, which are the nodes 2 ^ depth, 2 ^ depth + 1, .. .
pub record Tree : Type 0 where
  pub depth : ℕ
  -- the flags of the nodes 1, 2, 3, ..
  pub flags : List ℕ
  -- the tag of each leaf, where it is filled
  pub leaves : List (Option ℕ)

-- the tags of the filled leaves, lowest leaf first: the search order
abbrev pub tags_of : List (Option ℕ) → List ℕ
tags_of [] = []
tags_of (None ∷ ls) = tags_of ls
tags_of (Some t ∷ ls) = t ∷ tags_of ls

-- the first leaf that holds the tag
abbrev pub leaf_of : ℕ → List (Option ℕ) → ℕ
leaf_of t [] = 0
leaf_of t (None ∷ ls) = suc (leaf_of t ls)
leaf_of t (Some x ∷ ls) = cond (t == x) 0 (suc (leaf_of t ls))

-- the node that the flags lead to from node k, d levels down
abbrev pub follow : List ℕ → ℕ → ℕ → ℕ
follow flags zero k = k
follow flags (suc d) k = follow flags d (2 * k + slice_index flags (k - 1))

-- the leaf that a miss fills: the one that the flags lead to from the root, filled or not
abbrev pub victim : Tree → ℕ
victim T = follow T.flags T.depth 1 - 2 ^ T.depth

-- the flags of the d nodes above node n point away from it
abbrev pub away : List ℕ → ℕ → ℕ → List ℕ
away flags zero n = flags
away flags (suc d) n = away (slice_set flags (n / 2 - 1) (1 - n % 2)) d (n / 2)

-- a leaf if there is one, and else another
abbrev pub leaf_or : Option ℕ → ℕ → ℕ
leaf_or None v = v
leaf_or (Some i) v = i

-- the leaf that a touch ends at: the one that holds the tag, or else the victim
abbrev pub leaf_touched : Tree → ℕ → ℕ
leaf_touched T t = cond (member t (tags_of T.leaves)) (leaf_of t T.leaves) (victim T)

-- the tree after a touch: that leaf holds the tag, and each flag on the path to it points away from it
abbrev pub touch_tree : Tree → ℕ → Tree
touch_tree T t = record {
  depth = T.depth;
  flags = away T.flags T.depth (2 ^ T.depth + leaf_touched T t);
  leaves = slice_set T.leaves (leaf_touched T t) (Some t);
}

-- the number with these binary digits, the lowest first
abbrev pub bits : List ℕ → ℕ
bits [] = 0
bits (b ∷ bs) = b + 2 * bits bs

abbrev pub filled : Option ℕ → ℕ
filled None = 0
filled (Some t) = 1

abbrev pub leaf_word : Option ℕ → ℕ
leaf_word None = 0
leaf_word (Some t) = t

-- the words of a row: in the head word bit k - 1 is the flag of node k, and bit 16 + i says that leaf i is filled; then each leaf's tag, or 0
abbrev pub tree_layout : Tree → List ℕ
tree_layout T = bits (T.flags ++ (replicate (16 - length T.flags) 0 ++ map filled T.leaves)) ∷ map leaf_word T.leaves

-- a tree of a ways: whole, with distinct tags of 32 bits
pub record Whole (a : ℕ) (T : Tree) : Type 0 where
  pub leaves : 2 ^ T.depth ≡ a
  pub shallow : T.depth ≤ 4
  pub flag_count : length T.flags + 1 ≡ a
  pub flag_bits : AllByRecursion (λ b. b < 2) T.flags
  pub leaf_count : length T.leaves ≡ a
  pub distinct : Distinct (tags_of T.leaves)
  pub width : AllByRecursion (λ t. t < 2 ^ 32) (tags_of T.leaves)

-- a row that tree PLRU made: a whole tree, laid out
pub record Treed (a : ℕ) (r : List ℕ) : Type 0 where
  pub tree : Tree
  pub whole : Whole a tree
  pub laid : r ≡ tree_layout tree

-- What a touch does to any row: the same, on the tree that can be read from it.

-- bit j of a word, and the word with another bit there
abbrev pub bit : ℕ → ℕ → ℕ
bit h j = h / 2 ^ j % 2

abbrev pub with_bit : ℕ → ℕ → ℕ → ℕ
with_bit h j b = h - bit h j * 2 ^ j + b * 2 ^ j

-- the depth of the largest tree, of at most 16 leaves, for which there are words
abbrev pub depth_of : ℕ → ℕ
depth_of n = cond (nat_lt n 2) 0 (cond (nat_lt n 4) 1 (cond (nat_lt n 8) 2 (cond (nat_lt n 16) 3 4)))

abbrev pub leaf_at : ℕ → List ℕ → ℕ → Option ℕ
leaf_at h ws i = cond (bit h (16 + i) == 1) (Some (slice_index ws i)) None

-- the tree of a head word and the words of the leaves
abbrev pub tree_of : ℕ → List ℕ → Tree
tree_of h ws = record {
  depth = depth_of (length ws);
  flags = map (bit h) (range_with_len 0 (2 ^ depth_of (length ws) - 1));
  leaves = map (leaf_at h ws) (range_with_len 0 (2 ^ depth_of (length ws)));
}

-- `away` on the flags in the head word
abbrev pub away_word : ℕ → ℕ → ℕ → ℕ
away_word h zero n = h
away_word h (suc d) n = away_word (with_bit h (n / 2 - 1) (1 - n % 2)) d (n / 2)

-- a row without a leaf has no residents
abbrev pub tree_residents : List ℕ → List ℕ
tree_residents [] = []
tree_residents (h ∷ []) = []
tree_residents (h ∷ (w ∷ ws)) = tags_of (tree_of h (w ∷ ws)).leaves

-- the words when leaf i takes the tag
abbrev pub fill_leaf : ℕ → List ℕ → ℕ → ℕ → List ℕ
fill_leaf h ws i t = away_word (with_bit h (16 + i) 1) (depth_of (length ws)) (2 ^ depth_of (length ws) + i) ∷ slice_set ws i t

-- a touch of any row; one without a leaf stays as it is, and other words and bits stay
abbrev pub touch_row : List ℕ → ℕ → Touched
touch_row [] t = record { hit = false; comparisons = 0; row = [] }
touch_row (h ∷ []) t = record { hit = false; comparisons = 0; row = h ∷ [] }
touch_row (h ∷ (w ∷ ws)) t = record {
  hit = member t (tags_of (tree_of h (w ∷ ws)).leaves);
  comparisons = place t (tags_of (tree_of h (w ∷ ws)).leaves);
  row = fill_leaf h (w ∷ ws) (leaf_touched (tree_of h (w ∷ ws)) t) t;
}

-- 1, 2, 4, 8 or 16 ways
abbrev pub power_to_sixteen : ℕ → Bool
power_to_sixteen a = a == 1 || (a == 2 || (a == 4 || (a == 8 || a == 16)))

-- the policy with the letter P
abbrev pub plru_meaning : Meaning
plru_meaning = record {
  letter = 80;
  takes = power_to_sixteen;
  start = λ m. replicate m 0;
  touch = touch_row;
  residents = tree_residents;
  Row = Treed;
}

-- On the row of a tree a touch is that of the tree.
pub record OnTree (entry : List ℕ) (t : ℕ) (exit : List ℕ) (hit : Bool) (comparisons : ℕ) : Type 0 where
  pub answers : (a : ℕ) (T : Tree) → Whole a T → entry ≡ tree_layout T → (hit ≡ member t (tags_of T.leaves)) × (comparisons ≡ place t (tags_of T.leaves))
  pub lays : (a : ℕ) (T : Tree) → Whole a T → entry ≡ tree_layout T → exit ≡ tree_layout (touch_tree T t)
