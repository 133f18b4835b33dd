use Rattle.std.proofs.Common.{rules, ◌≡◌, ◌^◌, false, sym, ◌∙◌, arith}
use Rattle.std.proofs.lemmas.Nat.{one_shl, pow_pos}
use Rattle.geometry.specs.Line.{power_to}
use Rattle.geometry.proofs.Powers.{power_found, power_none, power_alone}
use Rattle.geometry.proofs.line.exponent_of.Goals as goal
use Rattle.geometry.proofs.line.exponent_of.Goals.{else-k-most-via-then-k-most+else-n-k, else-k-most-via-else-k-most}

pub returns-in_err-k : goal.returns-in_err-k
returns-in_err-k c =
    let none : power_to c.args.most c.args.n ≡ false = power_none c.args.most c.args.n (λ j h e. absurd (omega (arith, c.in_err-k.ensures.none, e, pow_pos j))) in
    search rules

pub returns-then-n-k : goal.returns-then-n-k
returns-then-n-k c =
    let is : c.args.n ≡ 2 ^ c.in_ok-k.k = c.if-n-k.true ∙ one_shl c.in_ok-k.k 64 (c.in_ok-k.ensures.bound) in
    (c.if-k-most.true, is, power_found c.args.most c.in_ok-k.k c.args.n c.if-k-most.true is)

pub returns-else-k-most : goal.returns-else-k-most
returns-else-k-most c = power_alone c.args.most c.args.n c.in_ok-k.k c.in_ok-k.ensures.power_le c.in_ok-k.ensures.next_power_gt
    (λ low is. elim c.else-k-most.branch [
      | else-k-most-via-then-k-most+else-n-k w ↦ w.if-n-k.false (is ∙ sym (one_shl c.in_ok-k.k 64 c.in_ok-k.ensures.bound))
      | else-k-most-via-else-k-most w ↦ absurd (omega (arith, low, w.if-k-most.false))
    ])
