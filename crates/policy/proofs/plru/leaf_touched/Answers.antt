-- The leaves that were searched are those of the tree, so the leaf found, or else the victim, is the one touched.
use Rattle.std.proofs.Common.{◌≡◌, ℕ, ◌-◌, ◌^◌, Bool, true, false, cond, List, map, is_some, Some, None, Option, ap, ◌∙◌, arith}
use Rattle.std.specs.List.{range_with_len}
use Rattle.policy.specs.Search.{member, place}
use Rattle.policy.specs.Plru.{bit, follow, leaf_of, leaf_or, leaf_touched, tags_of, tree_of, victim}
use Rattle.policy.specs.PlruRow.{leaf_touched_in, slice_leaves}
use Rattle.policy.proofs.plru.leaf_touched.Goals as goal

-- what a search answers
abbrev found : ℕ → List (Option ℕ) → Option ℕ
found t ls = cond (member t (tags_of ls)) (Some (leaf_of t ls)) None

-- the leaf that is chosen, and whether one was found
chosen : (b : Bool) (o : Option ℕ) (j v : ℕ) → o ≡ cond b (Some j) None → (leaf_or o v ≡ cond b j v) × (is_some o ≡ b)
chosen true o j v e = (ap (λ p. leaf_or p v) e, ap is_some e)
chosen false o j v e = (ap (λ p. leaf_or p v) e, ap is_some e)

pub returns : goal.returns
returns c =
    let t = c.args.tag in
    let T = tree_of c.args.head c.args.leaves.now in
    let s = slice_leaves c.args.head c.depth_of-depth.result c.args.leaves.now c.requires c.depth_of-depth.ensures in
    let victim_is = ap (λ (d : ℕ). follow (map (bit c.args.head) (range_with_len 0 (2 ^ d - 1))) d 1 - 2 ^ d) c.depth_of-depth.ensures in
    let f = chosen (member t (tags_of T.leaves)) c.search-found.result.0 (leaf_of t T.leaves) (victim T) (c.search-found.ensures.leaf ∙ ap (found t) s) in
    let at : c.leaf_or_victim.result ≡ leaf_touched T t = c.leaf_or_victim.ensures ∙ ap (leaf_or c.search-found.result.0) victim_is ∙ f.0 in
    record {
      leaf = at;
      within = omega (arith, leaf_touched_in c.args.head t c.args.leaves.now);
      hit = c.is_some-hit.ensures ∙ f.1;
      comparisons = c.search-found.ensures.comparisons ∙ ap (λ (ls : List (Option ℕ)). place t (tags_of ls)) s;
    }
