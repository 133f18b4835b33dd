use Rattle.std.proofs.Common.{◌≡◌, ◌+◌, ◌*◌, ◌^◌, ◌≤◌, sym, ap, ◌∙◌, subst, rules}
use Rattle.std.proofs.lemmas.Bool.{cond-false, lt-leb}
use Rattle.bench.proofs.Sizes.{rows_most}
use Rattle.bench.proofs.link.row_words.Goals as goal

pub returns : goal.returns
returns c =
    let e = c.args.geometry.now.set_bits in
    let a = c.args.geometry.now.ways in
    let is : c.sets.result * (a + 2) ≡ 2 ^ e * (a + 2) = ap (λ n. n * (a + 2)) c.sets.ensures in
    record {
      value = is ∙ sym (cond-false _ 0 (2 ^ e * (a + 2)) (lt-leb a 1 (search rules)));
      small = subst (λ n. n ≤ 294912) (sym is) (rows_most e a (search rules) (search rules));
    }
