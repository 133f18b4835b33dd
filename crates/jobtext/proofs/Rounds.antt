-- What a call that writes a table line gives.
use Rattle.std.proofs.Common.{◌≡◌, ℕ, ◌^◌, ◌<◌, ◌≤◌, List, ◌++◌, length, take, drop, IfOk, Some, None, Ok, Err, Option, Result, sym, ap, ◌∙◌, arith}
use Rattle.std.proofs.lemmas.Nat.{pow_below}
use Rattle.std.proofs.lemmas.List.{take_at}
use Rattle.std.proofs.lemmas.Bool.Decides.{nat_tests}
use Rattle.policy.specs.Policy.{Laws}
use Rattle.policy.specs.Three.{Three, policy_of, which}
use Rattle.policy.specs.declared.three.Member.{Member}
use Rattle.policy.specs.declared.three.Member.TheVariants.{First, Second, Further}
use Rattle.geometry.specs.Line.{GeometryOf}
use Rattle.geometry.specs.declared.geometry.Geometry.{Geometry}
use Rattle.geometry.specs.declared.line.Line.{Line}
use Rattle.geometry.specs.declared.refusal.Refusal.{Refusal}
use Rattle.jobtext.specs.Round.{ReadsAs, WrittenBack}
use Rattle.jobtext.specs.Written.{counted, line_text, overwritten, seen_length}
use Rattle.jobtext.proofs.Canonical.{canonical}
use Rattle.jobtext.proofs.ReadBack.{reads_back}

-- the letter of the policy that is found
which_letter : (p : Three) (letter : ℕ) (k : Member) → which p letter ≡ Some k → letter ≡ (policy_of p k).letter
which_letter p letter First h = grind (arith, nat_tests)
which_letter p letter Second h = grind (arith, nat_tests)
which_letter p letter Further h = grind (arith, nat_tests)

-- what is known of a line that passed
pub record Allowed (line : Line) : Type 0 where
  low : 65 ≤ line.letter
  high : line.letter ≤ 90
  sets : line.sets < 10 ^ 10
  block : line.block < 10 ^ 10
  ways : line.ways < 10 ^ 10

pub allowed : (p : Three) (line : Line) (g : Geometry) → ((k : Member) → Laws (policy_of p k)) → GeometryOf p line g → Allowed line
allowed p line g laws is =
    let at = which_letter p line.letter g.member is.member in
    let l = laws g.member in
    record {
      low = omega (arith, l.letter_low);
      high = omega (arith, l.letter_high);
      sets = omega (arith, is.sets, pow_below g.set_bits 15 (omega (arith, g.sets_allowed)));
      block = omega (arith, is.block, pow_below g.block_bits 11 (omega (arith, g.block_allowed)));
      ways = omega (arith, is.ways, g.ways_allowed);
    }

-- a line that is allowed, and is put into a buffer if it fits there
module _ (line : Line) (ok : Allowed line) (text buffer exit : List ℕ) (is : text ≡ line_text line) where
  pub back : (r : Result ℕ Refusal) (o : Option ℕ) → seen_length r ≡ counted o text → exit ≡ overwritten o text buffer → IfOk r (λ n. ReadsAs exit n line)
  back (Ok n) None h e =
      let long : length (line_text line) ≡ n = cc in
      let whole : exit ≡ line_text line ++ drop (length (line_text line)) buffer = cc in
      rw (whole, ← long) (reads_back line (drop (length (line_text line)) buffer) ok.low ok.high ok.sets ok.block ok.ways)
  back (Ok n) (Some k) h e = absurd cc
  back (Err d) o h e = tt

  pub again : (r : Result ℕ Refusal) (o : Option ℕ) → seen_length r ≡ counted o text → exit ≡ overwritten o text buffer → IfOk r (λ n. WrittenBack line exit n)
  again (Ok n) None h e = λ other m reads.
      let long : length text ≡ n = cc in
      canonical other m line reads ∙ sym (ap (take n) e ∙ take_at text (drop (length text) buffer) n long ∙ is)
  again (Ok n) (Some k) h e = absurd cc
  again (Err d) o h e = tt
