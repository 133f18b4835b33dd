-- The laws of every policy, for PLRU.
use Rattle.std.specs.Prelude.{◌≡◌, ℕ, zero, suc, ◌+◌, ◌-◌, ◌^◌, ◌<◌, ◌≤◌, true, ◌||◌, List, [], ◌∷◌, ◌++◌, map, length, replicate, None, ◌==◌, refl}
use Rattle.std.proofs.Common.{sym, ap, ap₂, subst, ◌∙◌, ⊎_elim, add-one, arith}
use lib.LanesLaws.{map-replicate}
use Rattle.std.specs.List.{AllByRecursion}
use Rattle.std.proofs.ByRecursion.{All-append, All-map}
use Rattle.std.proofs.lemmas.List.{length-replicate}
use Rattle.std.proofs.lemmas.Bool.{eqb-true, or_cases}
use Rattle.policy.specs.Search.{member, place, Distinct}
use Rattle.policy.specs.Policy.{Laws, Touched}
use Rattle.policy.specs.Plru.{Tree, Treed, Whole, bits, depth_of, filled, leaf_touched, leaf_word, plru_meaning, power_to_sixteen, tags_of, touch_row, touch_tree, tree_layout, tree_residents}
use Rattle.policy.specs.SearchLemmas.{all_replicate}
use Rattle.policy.specs.Tree.{member-before, member-put, tags_few, touch_again, touched_within, whole_touched}
use Rattle.policy.specs.PlruRow.{depth_of-fits, length_laid, residents_laid, touch_laid, width_laid}

-- the numbers of ways
ways_cases : (P : ℕ → Type 0) → P 1 → P 2 → P 4 → P 8 → P 16 → (a : ℕ) → power_to_sixteen a ≡ true → P a
ways_cases P one two four eight sixteen a h =
    let at : (n : ℕ) → P n → (a == n) ≡ true → P a = λ n p e. subst P (sym (eqb-true a n e)) p in
    ⊎_elim (at 1 one) (λ h2. ⊎_elim (at 2 two) (λ h4. ⊎_elim (at 4 four) (λ h8. ⊎_elim (at 8 eight) (at 16 sixteen)
    (or_cases (a == 8) (a == 16) h8)) (or_cases (a == 4) (a == 8 || a == 16) h4))
    (or_cases (a == 2) (a == 4 || (a == 8 || a == 16)) h2))
    (or_cases (a == 1) (a == 2 || (a == 4 || (a == 8 || a == 16))) h)

-- the tree of a new row
abbrev fresh : ℕ → Tree
fresh a = record { depth = depth_of a; flags = replicate (a - 1) 0; leaves = replicate a None }

fresh_tags : (n : ℕ) → tags_of (replicate n None) ≡ []
fresh_tags zero = refl
fresh_tags (suc n) = fresh_tags n

bits-zero : (l : List ℕ) → AllByRecursion (λ b. b ≡ 0) l → bits l ≡ 0
bits-zero [] h = refl
bits-zero (b ∷ bs) h = omega (arith, bits-zero bs h.1, h.0)

module _ (a : ℕ) (h : power_to_sixteen a ≡ true) where
  whole_fresh : Whole a (fresh a)
  whole_fresh =
      let pow = ways_cases (λ a. 2 ^ depth_of a ≡ a) refl refl refl refl refl a h in
      record {
        leaves = pow;
        shallow = (depth_of-fits a).1;
        flag_count = ways_cases (λ a. length (replicate {A = ℕ} (a - 1) 0) + 1 ≡ a) refl refl refl refl refl a h;
        flag_bits = all_replicate (λ b. b < 2) (a - 1) 0 (omega arith);
        leaf_count = length-replicate a None;
        distinct = rw (fresh_tags a) tt;
        width = rw (fresh_tags a) tt;
      }

  laid-fresh : replicate (a + 1) 0 ≡ tree_layout (fresh a)
  laid-fresh =
      let Zero : ℕ → Type 0 = λ b. b ≡ 0 in
      let n = length (replicate {A = ℕ} (a - 1) 0) in
      let head : bits (replicate (a - 1) 0 ++ (replicate (16 - n) 0 ++ map filled (replicate a None))) ≡ 0 =
      bits-zero (replicate (a - 1) 0 ++ (replicate (16 - n) 0 ++ map filled (replicate a None)))
      (All-append Zero (replicate (a - 1) 0) (replicate (16 - n) 0 ++ map filled (replicate a None)) (all_replicate Zero (a - 1) 0 refl)
      (All-append Zero (replicate (16 - n) 0) (map filled (replicate a None)) (all_replicate Zero (16 - n) 0 refl)
      (All-map Zero filled (replicate a None) (all_replicate (λ o. filled o ≡ 0) a None refl)))) in
      ap (λ (m : ℕ). replicate m 0) (add-one a) ∙ ap₂ (λ (x : ℕ) (xs : List ℕ). x ∷ xs) (sym head) (sym (map-replicate leaf_word a None))

-- what holds of the row of each tree holds of each row
on_row : (P : List ℕ → Type 0) (a : ℕ) (r : List ℕ) → Treed a r → ((T : Tree) → Whole a T → P (tree_layout T)) → P r
on_row P a r x f = subst P (sym x.laid) (f x.tree x.whole)

row_touched : (a t : ℕ) (T : Tree) → Whole a T → (touch_row (tree_layout T) t).row ≡ tree_layout (touch_tree T t)
row_touched a t T w = ap (λ (x : Touched). x.row) (touch_laid a T w t)

residents_touched : (a t : ℕ) (T : Tree) → Whole a T → t < 2 ^ 32 → tree_residents (touch_row (tree_layout T) t).row ≡ tags_of (touch_tree T t).leaves
residents_touched a t T w h = ap tree_residents (row_touched a t T w) ∙ residents_laid a (touch_tree T t) (whole_touched a t T w h)

pub plru_lawful : Laws plru_meaning
plru_lawful = record {
  letter_low = omega arith;
  letter_high = omega arith;
  ways = ways_cases (λ a. (1 ≤ a) × (a ≤ 16)) (omega arith) (omega arith) (omega arith) (omega arith) (omega arith);
  started = λ a h. record { tree = fresh a; whole = whole_fresh a h; laid = laid-fresh a h };
  empty = λ a h. ap tree_residents (laid-fresh a h) ∙ residents_laid a (fresh a) (whole_fresh a h) ∙ fresh_tags a;
  words = λ a r h x. on_row (λ r. length r ≡ a + 1) a r x (length_laid a);
  width = λ a r h x. on_row (AllByRecursion (λ w. w < 2 ^ 32)) a r x (width_laid a);
  few = λ a r h x. on_row (λ r. length (tree_residents r) ≤ a) a r x (λ T w. rw (residents_laid a T w) (omega (arith, tags_few T.leaves, w.leaf_count)));
  distinct = λ a r h x. on_row (λ r. Distinct (tree_residents r)) a r x (λ T w. rw (residents_laid a T w) w.distinct);
  touched = λ a r t h x l. on_row (λ r. Treed a (touch_row r t).row) a r x (λ T w. record { tree = touch_tree T t; whole = whole_touched a t T w l; laid = row_touched a t T w });
  hits = λ a r t h x l. on_row (λ r. (touch_row r t).hit ≡ member t (tree_residents r)) a r x (λ T w. ap (λ (x : Touched). x.hit) (touch_laid a T w t) ∙ ap (member t) (sym (residents_laid a T w)));
  compares = λ a r t h x l. on_row (λ r. (touch_row r t).comparisons ≡ place t (tree_residents r)) a r x (λ T w. ap (λ (x : Touched). x.comparisons) (touch_laid a T w t) ∙ ap (place t) (sym (residents_laid a T w)));
  kept = λ a r t h x l. on_row (λ r. member t (tree_residents (touch_row r t).row) ≡ true) a r x
      (λ T w. ap (member t) (residents_touched a t T w l) ∙ member-put t T.leaves (leaf_touched T t) (touched_within a t T w));
  known = λ a r t u h x l o. on_row (λ r. member u (tree_residents (touch_row r t).row) ≡ true → member u (tree_residents r) ≡ true) a r x
      (λ T w m. ap (member u) (residents_laid a T w) ∙ member-before t u T.leaves (leaf_touched T t) o (sym (ap (member u) (residents_touched a t T w l)) ∙ m));
  again = λ a r t h x l. on_row (λ r. (touch_row (touch_row r t).row t).row ≡ (touch_row r t).row) a r x
      (λ T w. ap (λ (r : List ℕ). (touch_row r t).row) (row_touched a t T w) ∙ row_touched a t (touch_tree T t) (whole_touched a t T w l)
      ∙ ap tree_layout (touch_again a t T w) ∙ sym (row_touched a t T w));
}
