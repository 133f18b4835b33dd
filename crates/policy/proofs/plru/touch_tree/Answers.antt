-- The two writes make the touched row, and the row of a tree becomes that of the touched tree.
use Rattle.std.proofs.Common.{◌≡◌, ℕ, ◌+◌, ◌-◌, ◌^◌, false, List, length, get_or, set, sym, ap, ◌∙◌, subst}
use Rattle.std.proofs.lemmas.List.{take_rest}
use Rattle.policy.specs.Policy.{Touched}
use Rattle.policy.specs.Search.{member, place}
use Rattle.policy.specs.Plru.{away_word, depth_of, leaf_touched, tags_of, tree_of, with_bit}
use Rattle.policy.specs.PlruRow.{on_tree, touch_short, touch_writes}
use Rattle.policy.proofs.plru.touch_tree.Goals as goal

pub returns-then-row-lt2 : goal.returns-then-row-lt2
returns-then-row-lt2 c =
    let r = c.args.row.now in
    let t = c.args.tag in
    let e = sym (touch_short t r c.if-row-lt2.true) in
    let hit = ap (λ (x : Touched). x.hit) e in
    let comparisons = ap (λ (x : Touched). x.comparisons) e in
    let row = ap (λ (x : Touched). x.row) e in
    record { hit = hit; comparisons = comparisons; row = row; tree = on_tree t r r false 0 hit comparisons row }

pub returns : goal.returns
returns c =
    let r = c.args.row.now in
    let t = c.args.tag in
    let h = get_or c.args.row.now 0 0 in
    let i = c.leaf_touched-leaf.result.0 in
    let d = depth_of (length r - 1) in
    let rest = take_rest r 1 in
    let q = c.leaf_touched-leaf.ensures in
    let at = subst (λ (ws : List ℕ). i ≡ leaf_touched (tree_of h ws) t) rest q.leaf in
    let e = sym (touch_writes t i r c.if-row-lt2.false at) in
    let hit = q.hit ∙ ap (λ (ws : List ℕ). member t (tags_of (tree_of h ws).leaves)) rest ∙ ap (λ (x : Touched). x.hit) e in
    let comparisons = q.comparisons ∙ ap (λ (ws : List ℕ). place t (tags_of (tree_of h ws).leaves)) rest ∙ ap (λ (x : Touched). x.comparisons) e in
    let head : c.point_away.result ≡ away_word (with_bit h (16 + i) 1) d (2 ^ d + i) =
    c.point_away.ensures
    ∙ ap (λ (x : ℕ). away_word x c.depth_of-depth.result (2 ^ c.depth_of-depth.result + i)) c.write_bit.ensures
    ∙ ap (λ (k : ℕ). away_word (with_bit h (16 + i) 1) k (2 ^ k + i)) c.depth_of-depth.ensures in
    let row = ap (λ (x : ℕ). set (set r 0 x) (1 + i) t) head ∙ ap (λ (x : Touched). x.row) e in
    record {
      hit = hit;
      comparisons = comparisons;
      row = row;
      tree = on_tree t r (set (set r 0 c.point_away.result) (1 + i) t) c.leaf_touched-leaf.result.1 c.leaf_touched-leaf.result.2 hit comparisons row;
    }
