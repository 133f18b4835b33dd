-- The laws of a policy on the list of residents, by rows that are laid out.
use Rattle.std.specs.Prelude.{◌≡◌, ℕ, zero, suc, ◌+◌, ◌-◌, ◌^◌, ◌<◌, ◌≤◌, min, Bool, true, false, List, [], ◌∷◌, ◌++◌, length, take, drop, replicate, nat_le, slice_set, refl}
use Rattle.std.proofs.Common.{sym, ap, ◌∙◌, subst, add-one, arith, ⊎_elim}
use borrow.Rule.Slice.PartMut.{put_mid}
use Rattle.std.specs.List.{AllByRecursion}
use Rattle.std.proofs.lemmas.List.{take_at, drop_at, drop-drop, drop-replicate, length-append, length-replicate, length-take, take_all, take-take}
use Rattle.std.proofs.ByRecursion.{All-append, All-take}
use Rattle.std.proofs.lemmas.Bool.{and_parts, leb-true, cases_lt}
use Rattle.policy.specs.Search.{member, place, Distinct}
use Rattle.policy.specs.Policy.{Laws, Touched}
use Rattle.policy.specs.Nesting.{Nests, Nested}
use Rattle.policy.specs.Stack.{fifo, fifo_meaning, fifo_nest, lru, lru_meaning, lru_nest, layout, residents_of, ways_of, relaid, touch_by, truncate_of, touched_row, Stacked, one_to_sixteen, stack_meaning, OnLayout}
use Rattle.policy.specs.SearchLemmas.{all_replicate, distinct_take, member_take_absent, member_take_within, member_take_beyond}
use Rattle.policy.specs.ListPolicy.{ListPolicy, Keeps, Narrows, fifo_keeps, fifo_narrows, lru_keeps, lru_narrows}
use Rattle.policy.specs.StackRow.{residents_part}

pub ways_bounds : (a : ℕ) → one_to_sixteen a ≡ true → (1 ≤ a) × (a ≤ 16)
ways_bounds a e = let (low, high) = and_parts (nat_le 1 a) (nat_le a 16) e in (leb-true 1 a low, leb-true a 16 high)

pub residents_laid : (a : ℕ) (rs : List ℕ) → residents_of (layout a rs) ≡ rs
residents_laid a rs = take_at rs (replicate (a - length rs) 0) (length rs) refl

length_words : (a : ℕ) (rs : List ℕ) → length rs ≤ a → length (rs ++ replicate (a - length rs) 0) ≡ a
length_words a rs l = length-append rs (replicate (a - length rs) 0) ∙ omega (arith, length-replicate {A = ℕ} (a - length rs) 0)

-- words past more residents than before are zeros as before
drop_words : (a n : ℕ) (rs : List ℕ) → length rs ≤ n → drop n (rs ++ replicate (a - length rs) 0) ≡ replicate (a - n) 0
drop_words a n rs l =
    let ws = rs ++ replicate (a - length rs) 0 in
    let e : n ≡ length rs + (n - length rs) = omega arith in
    let k : (a - length rs) - (n - length rs) ≡ a - n = omega arith in
    ap (λ j. drop j ws) e ∙ sym (drop-drop (n - length rs) (length rs) ws)
    ∙ ap (drop (n - length rs)) (drop_at rs (replicate (a - length rs) 0) (length rs) refl)
    ∙ drop-replicate (n - length rs) (a - length rs) 0
    ∙ ap (λ j. replicate j 0) k

module _ (P : ListPolicy) (K : Keeps P) where
  pub touch_laid : (a t : ℕ) (rs : List ℕ) → length rs ≤ a → a < 2 ^ 32 → (touch_by P (layout a rs) t).row ≡ layout a (P a rs t)
  touch_laid a t rs l b =
      let ws = rs ++ replicate (a - length rs) 0 in
      let n : length ws ≡ a = length_words a rs l in
      let w : ways_of ws ≡ a = omega arith in
      ap (λ k. relaid ws (P k (take (length rs) ws) t)) w
      ∙ ap (λ xs. relaid ws (P a xs t)) (residents_laid a rs)
      ∙ ap (λ zs. length (P a rs t) ∷ (P a rs t ++ zs)) (drop_words a (length (P a rs t)) rs (K.grows a t rs l))

  pub touch_residents : (a t : ℕ) (rs : List ℕ) → length rs ≤ a → a < 2 ^ 32 → residents_of (touch_by P (layout a rs) t).row ≡ P a rs t
  touch_residents a t rs l b = ap residents_of (touch_laid a t rs l b) ∙ residents_laid a (P a rs t)

  pub on_layout : OnLayout P
  on_layout a rs t l b =
      let answer : List ℕ → List ℕ → Touched = λ xs row. record { hit = member t xs; comparisons = place t xs; row = row } in
      ap (λ xs. answer xs (touched_row P (layout a rs) t)) (residents_laid a rs) ∙ ap (answer rs) (touch_laid a t rs l b)

-- the rows that FIFO and LRU made
module _ (a : ℕ) (takes : one_to_sixteen a ≡ true) (r : List ℕ) (s : Stacked a r) where
  tags_are : residents_of r ≡ s.tags
  tags_are = ap residents_of s.laid ∙ residents_laid a s.tags

  small : a < 2 ^ 32
  small = omega (arith, (ways_bounds a takes).1)

  row_words : length r ≡ a + 1
  row_words = ap length s.laid ∙ omega (arith, length_words a s.tags s.few)

  row_width : AllByRecursion (λ w. w < 2 ^ 32) r
  row_width = let f = s.few in let b : length s.tags < 2 ^ 32 = omega (arith, (ways_bounds a takes).1) in
      rw s.laid (b, All-append (λ w. w < 2 ^ 32) s.tags (replicate (a - length s.tags) 0) s.width (all_replicate (λ w. w < 2 ^ 32) (a - length s.tags) 0 (omega arith)))

module _ (P : ListPolicy) (K : Keeps P) (a : ℕ) (takes : one_to_sixteen a ≡ true) (r : List ℕ) (s : Stacked a r) (t : ℕ) where
  after_touch : (touch_by P r t).row ≡ layout a (P a s.tags t)
  after_touch = ap (λ r. (touch_by P r t).row) s.laid ∙ touch_laid P K a t s.tags s.few (small a takes r s)

  residents_after : residents_of (touch_by P r t).row ≡ P a s.tags t
  residents_after = ap residents_of after_touch ∙ residents_laid a (P a s.tags t)

  stacked_after : t < 2 ^ 32 → Stacked a (touch_by P r t).row
  stacked_after b = record {
    tags = P a s.tags t;
    few = K.few a t s.tags s.few;
    distinct = K.distinct a t s.tags s.distinct;
    width = K.width a t s.tags s.width b;
    laid = after_touch;
  }

  hit_is : (touch_by P r t).hit ≡ member t s.tags
  hit_is = ap (λ r. (touch_by P r t).hit) s.laid ∙ ap (member t) (residents_laid a s.tags)

  compared : (touch_by P r t).comparisons ≡ place t s.tags
  compared = ap (λ r. (touch_by P r t).comparisons) s.laid ∙ ap (place t) (residents_laid a s.tags)

  touched_again : (touch_by P (touch_by P r t).row t).row ≡ (touch_by P r t).row
  touched_again =
      ap (λ r. (touch_by P r t).row) after_touch
      ∙ touch_laid P K a t (P a s.tags t) (K.few a t s.tags s.few) (small a takes r s)
      ∙ ap (layout a) (K.again a t s.tags (ways_bounds a takes).0)
      ∙ sym after_touch

started_row : (a : ℕ) → replicate (a + 1) 0 ≡ layout a []
started_row a = ap (λ n. replicate n 0) (add-one a) ∙ ap (λ n. 0 ∷ replicate n 0) (omega arith)

pub stack_laws : (letter : ℕ) (P : ListPolicy) → Keeps P → 65 ≤ letter → letter ≤ 90 → Laws (stack_meaning letter P)
stack_laws letter P K low high = record {
  letter_low = low;
  letter_high = high;
  ways = ways_bounds;
  started = λ a k. record { tags = []; few = omega arith; distinct = tt; width = tt; laid = started_row a };
  empty = λ a k. ap residents_of (started_row a) ∙ residents_laid a [];
  words = λ a r k s. row_words a k r s;
  width = λ a r k s. row_width a k r s;
  few = λ a r k s. subst (λ xs. length xs ≤ a) (sym (tags_are a k r s)) s.few;
  distinct = λ a r k s. subst Distinct (sym (tags_are a k r s)) s.distinct;
  touched = λ a r t k s b. stacked_after P K a k r s t b;
  hits = λ a r t k s b. hit_is P K a k r s t ∙ sym (ap (member t) (tags_are a k r s));
  compares = λ a r t k s b. compared P K a k r s t ∙ sym (ap (place t) (tags_are a k r s));
  kept = λ a r t k s b. ap (member t) (residents_after P K a k r s t) ∙ K.kept a t s.tags (ways_bounds a k).0;
  known = λ a r t u k s b n m. ap (member u) (tags_are a k r s) ∙ K.known a t u s.tags n (sym (ap (member u) (residents_after P K a k r s t)) ∙ m);
  again = λ a r t k s b. touched_again P K a k r s t;
}

-- a row of m + 1 words with the first m residents of another
truncate_laid : (m : ℕ) (W : List ℕ) → truncate_of (m + 1) W ≡ layout m (take m (residents_of W))
truncate_laid m W =
    let rs = take m (residents_of W) in
    let k : m + 1 - 1 ≡ m = omega arith in
    let l : length rs ≤ m = omega (arith, length-take m (residents_of W)) in
    ap (λ n. take (m + 1) (layout n (take n (residents_of W)))) k ∙ take_all (m + 1) (layout m rs) (omega (arith, length_words m rs l))

-- as many words of a row as it keeps are its first residents
kept_words : (m kept : ℕ) (wide : List ℕ) → kept ≡ min (length (residents_of wide)) m → take kept (drop 1 wide) ≡ take m (residents_of wide)
kept_words m kept wide e =
    let count = length (residents_of wide) in
    let part : take count (drop 1 wide) ≡ residents_of wide = residents_part wide count refl in
    ⊎_elim
    (λ l. let k : kept ≡ m = omega arith in ap (λ n. take n (drop 1 wide)) k ∙ sym (take-take m count (drop 1 wide) (omega arith)) ∙ ap (take m) part)
    (λ g. let k : kept ≡ count = omega arith in ap (λ n. take n (drop 1 wide)) k ∙ part ∙ sym (take_all m (residents_of wide) g))
    (cases_lt m count)

-- the first residents, written over a row of zeros
pub copied : (wide zs ys : List ℕ) (m kept : ℕ) → zs ≡ replicate m 0 → 0 < kept → kept ≡ min (length (residents_of wide)) (m - 1) → ys ≡ take (kept + 1 - 1) (drop 1 wide)
    → put_mid 1 (kept + 1 - 1) (slice_set zs 0 kept) ys ≡ truncate_of m wide
copied wide zs ys zero kept z l e y = absurd (omega arith)
copied wide zs ys (suc m) kept z l e y =
    let rs = take m (residents_of wide) in
    let k : kept + 1 - 1 ≡ kept = omega arith in
    let n : length rs ≡ kept = omega (arith, length-take m (residents_of wide)) in
    let ys_are : ys ≡ rs = y ∙ ap (λ j. take j (drop 1 wide)) k ∙ kept_words m kept wide (omega arith) in
    ap (λ xs. put_mid 1 (kept + 1 - 1) (slice_set xs 0 kept) ys) z
    ∙ ap (λ xs. kept ∷ (xs ++ drop (kept + 1 - 1) (replicate m 0))) ys_are
    ∙ ap (λ j. kept ∷ (rs ++ drop j (replicate m 0))) k
    ∙ ap (λ xs. kept ∷ (rs ++ xs)) (drop-replicate kept m 0)
    ∙ ap (λ j. j ∷ (rs ++ replicate (m - j) 0)) (sym n)
    ∙ sym (truncate_laid m wide) ∙ ap (λ j. truncate_of j wide) (add-one m)

pub copied_none : (wide zs : List ℕ) (m : ℕ) → zs ≡ replicate m 0 → min (length (residents_of wide)) (m - 1) ≡ 0 → zs ≡ truncate_of m wide
copied_none wide zs zero z e = z
copied_none wide zs (suc m) z e =
    let none : [] ≡ take m (residents_of wide) = kept_words m 0 wide (omega arith) in
    z ∙ ap (λ n. replicate n 0) (sym (add-one m)) ∙ started_row m ∙ ap (layout m) none ∙ sym (truncate_laid m wide) ∙ ap (λ j. truncate_of j wide) (add-one m)

module _ (letter : ℕ) (P : ListPolicy) (K : Keeps P) (keeps : Bool) (V : Narrows P keeps) where
  module _ (n w : ℕ) (N W : List ℕ) (t : ℕ) (h : Nested (stack_meaning letter P) n w N W t) where
    narrow_tags : h.narrow.tags ≡ take n h.wide.tags
    narrow_tags = sym (tags_are n h.narrow_takes N h.narrow) ∙ h.first ∙ ap (take n) (tags_are w h.wide_takes W h.wide)

    wide_hit : (touch_by P W t).hit ≡ member t h.wide.tags
    wide_hit = hit_is P K w h.wide_takes W h.wide t

    narrow_hit : (touch_by P N t).hit ≡ member t (take n h.wide.tags)
    narrow_hit = hit_is P K n h.narrow_takes N h.narrow t ∙ ap (member t) narrow_tags

    at_place : place t (residents_of W) ≡ place t h.wide.tags
    at_place = ap (place t) (tags_are w h.wide_takes W h.wide)

    narrow_after : residents_of (touch_by P N t).row ≡ P n (take n h.wide.tags) t
    narrow_after = residents_after P K n h.narrow_takes N h.narrow t ∙ ap (λ xs. P n xs t) narrow_tags

    wide-after : take n (residents_of (touch_by P W t).row) ≡ take n (P w h.wide.tags t)
    wide-after = ap (take n) (residents_after P K w h.wide_takes W h.wide t)

    still_first : P n (take n h.wide.tags) t ≡ take n (P w h.wide.tags t) → residents_of (touch_by P N t).row ≡ take n (residents_of (touch_by P W t).row)
    still_first e = narrow_after ∙ e ∙ sym wide-after

    no_longer : residents_of (touch_by P N t).row ≡ take n (residents_of (touch_by P W t).row) → P n (take n h.wide.tags) t ≡ take n (P w h.wide.tags t)
    no_longer e = sym narrow_after ∙ e ∙ wide-after

  pub stack_nests : Nests (stack_meaning letter P) (record { truncate = truncate_of; keeps = keeps })
  stack_nests = record {
    miss = λ n w N W t h e. let m = sym (wide_hit n w N W t h) ∙ e in
        (narrow_hit n w N W t h ∙ member_take_absent t n h.wide.tags m, still_first n w N W t h (V.miss n w t h.wide.tags h.narrower m));
    shallow = λ n w N W t h e p. let m = sym (wide_hit n w N W t h) ∙ e in let q : place t h.wide.tags ≤ n = subst (λ k. k ≤ n) (at_place n w N W t h) p in
        (narrow_hit n w N W t h ∙ member_take_within t n h.wide.tags m q, still_first n w N W t h (V.shallow n w t h.wide.tags m q));
    deep = λ n w N W t h e p. let q : n < place t h.wide.tags = subst (λ k. n < k) (at_place n w N W t h) p in
        narrow_hit n w N W t h ∙ member_take_beyond t n h.wide.tags q;
    deep_kept = λ n w N W t h e p k. let q : n < place t h.wide.tags = subst (λ k. n < k) (at_place n w N W t h) p in
        still_first n w N W t h (V.deep_kept n w t h.wide.tags (ways_bounds n h.narrow_takes).0 (sym (wide_hit n w N W t h) ∙ e) q k);
    deep_left = λ n w N W t h e p k f. let q : n < place t h.wide.tags = subst (λ k. n < k) (at_place n w N W t h) p in
        V.deep_left n w t h.wide.tags (ways_bounds n h.narrow_takes).0 (sym (wide_hit n w N W t h) ∙ e) q k (no_longer n w N W t h f);
    truncated = λ n w W k l b s. (
      record {
        tags = take n (residents_of W);
        few = omega (arith, length-take n (residents_of W));
        distinct = distinct_take n (residents_of W) (subst Distinct (sym (tags_are w l W s)) s.distinct);
        width = All-take (λ x. x < 2 ^ 32) n (residents_of W) (subst (AllByRecursion (λ x. x < 2 ^ 32)) (sym (tags_are w l W s)) s.width);
        laid = truncate_laid n W;
      },
      ap residents_of (truncate_laid n W) ∙ residents_laid n (take n (residents_of W)),
    );
  }

-- FIFO and LRU keep the laws of a policy, and those of nesting

pub fifo_lawful : Laws fifo_meaning
fifo_lawful = stack_laws 70 fifo fifo_keeps (omega arith) (omega arith)

pub fifo_nests : Nests fifo_meaning fifo_nest
fifo_nests = stack_nests 70 fifo fifo_keeps false fifo_narrows

pub lru_lawful : Laws lru_meaning
lru_lawful = stack_laws 76 lru lru_keeps (omega arith) (omega arith)

pub lru_nests : Nests lru_meaning lru_nest
lru_nests = stack_nests 76 lru lru_keeps true lru_narrows
