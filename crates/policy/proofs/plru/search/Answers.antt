-- Each turn passes an empty leaf or one with another tag, or ends at the tag.
use Rattle.std.proofs.Common.{◌≡◌, ℕ, ◌<◌, ◌≤◌, List, map, length, get_or, Some, None, Option, sym, ap, ◌∙◌, arith}
use Rattle.std.specs.List.{range_with_len}
use Rattle.std.proofs.lemmas.List.FromFn.{length-map-range_with_len}
use Rattle.std.proofs.lemmas.Bool.{cond-true, cond-false}
use Rattle.policy.specs.Search.{member}
use Rattle.policy.specs.Plru.{leaf_at, leaf_of, tags_of}
use Rattle.policy.specs.Tree.{leaf_filled, leaf_empty, sought_empty, sought_other, sought_found, sought_all}
use Rattle.policy.proofs.plru.search.Goals as goal
use Rattle.policy.proofs.plru.search.Goals.{then-read_bit-eq1+else-leaf-tag, else-read_bit-eq1}

abbrev leaves : ℕ → List ℕ → List (Option ℕ)
leaves h ws = map (leaf_at h ws) (range_with_len 0 (length ws))

within : (h i : ℕ) (ws : List ℕ) → i < length ws → i < length (leaves h ws)
within h i ws l = omega (arith, length-map-range_with_len (leaf_at h ws) 0 (length ws))

pub returns-then-leaf-tag : goal.returns-then-leaf-tag
returns-then-leaf-tag c =
    let h = c.args.head in
    let ws = c.args.leaves.now in
    let t = c.args.tag in
    let i = c.loop-i.i in
    let l = c.loop-i-test.true in
    let here : get_or (leaves h ws) i None ≡ Some t = leaf_filled h ws (length ws) i l (sym c.read_bit.ensures ∙ c.if-read_bit-eq1.true) ∙ ap Some c.if-leaf-tag.true in
    let f = sought_found t (leaves h ws) i c.loop-i.comparisons c.loop-i.invariant (within h i ws l) here in
    record {
      leaf = sym (cond-true (member t (tags_of (leaves h ws))) (Some (leaf_of t (leaves h ws))) None f.0 ∙ ap Some f.1);
      comparisons = sym f.2;
    }

pub loop-i-preserved : goal.loop-i-preserved
loop-i-preserved c =
    let h = c.args.head in
    let ws = c.args.leaves.now in
    let t = c.args.tag in
    let i = c.loop-i.i in
    let l = c.loop-i-test.true in
    let n = c.loop-i.comparisons in
    elim c.if-read_bit-eq1.branch [
      | then-read_bit-eq1+else-leaf-tag w ↦
          simp w.comparisons-is
          (sought_other t (leaves h ws) i n c.loop-i.invariant (get_or ws i 0) (within h i ws l) (leaf_filled h ws (length ws) i l (sym c.read_bit.ensures ∙ w.if-read_bit-eq1.true)) w.if-leaf-tag.false)
      | else-read_bit-eq1 w ↦
          simp w.comparisons-is
          (sought_empty t (leaves h ws) i n c.loop-i.invariant (within h i ws l) (leaf_empty h ws (length ws) i l (λ e. w.if-read_bit-eq1.false (c.read_bit.ensures ∙ e))))
    ]

pub returns : goal.returns
returns c =
    let h = c.args.head in
    let ws = c.args.leaves.now in
    let t = c.args.tag in
    let end : length (leaves h ws) ≤ c.loop-i.i = omega (arith, length-map-range_with_len (leaf_at h ws) 0 (length ws)) in
    let f = sought_all t (leaves h ws) c.loop-i.i c.loop-i.comparisons c.loop-i.invariant end in
    record {
      leaf = sym (cond-false (member t (tags_of (leaves h ws))) (Some (leaf_of t (leaves h ws))) None f.0);
      comparisons = sym f.1;
    }
