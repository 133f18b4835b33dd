use Rattle.std.proofs.Common.{◌≡◌, fold, ◌∙◌, rules}
use Rattle.jobtext.proofs.Values.{fold-next, next}
use Rattle.jobtext.proofs.numeral.value_of.Goals as goal

pub returns : goal.returns
returns c =
    let folded : c.fold.result ≡ fold (next c.args.radix) 0 c.args.digits.now = search rules in
    folded ∙ fold-next c.args.radix c.args.digits.now
