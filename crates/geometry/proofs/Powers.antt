-- Powers of two that are at most 2 ^ k.
use Rattle.std.proofs.Common.{◌≡◌, ℕ, zero, suc, ◌+◌, ◌-◌, ◌*◌, ◌%◌, ◌^◌, ◌<◌, ◌≤◌, true, false, eqb, ap, ◌∙◌, ⊎_elim, arith}
use lib.Bits.{bit_and}
use Rattle.std.proofs.Math.Pow.{pow_mono}
use Rattle.std.proofs.lemmas.Grind.{pow_more}
use Rattle.std.proofs.lemmas.Nat.{and_mask, one_shl}
use Rattle.std.proofs.lemmas.Bool.{eq-eqb, ne_eqb, or_left, or_right, or_from, cases_eq, cases_order}
use Rattle.geometry.specs.Address.{block_of, set_of}
use Rattle.geometry.specs.Line.{power_to}

pub power_found : (most k n : ℕ) → k ≤ most → n ≡ 2 ^ k → power_to most n ≡ true
unfolding power_to
power_found zero k n h e = let z : k ≡ 0 = omega arith in eq-eqb n 1 (e ∙ ap (λ j. 2 ^ j) z)
power_found (suc m) k n h e =
    ⊎_elim
    (λ s. or_left (eqb n (2 ^ suc m)) (power_to m n) (eq-eqb n (2 ^ suc m) (e ∙ ap (λ j. 2 ^ j) s)))
    (λ d. or_right (eqb n (2 ^ suc m)) (power_to m n) (power_found m k n (omega arith) e))
    (cases_eq k (suc m))

pub power_none : (most n : ℕ) → ((j : ℕ) → j < most + 1 → n ≡ 2 ^ j → ⊥) → power_to most n ≡ false
unfolding power_to
power_none zero n no_power = ne_eqb n 1 (no_power 0 (omega arith))
power_none (suc m) n no_power =
    or_from (eqb n (2 ^ suc m)) (power_to m n) (ne_eqb n (2 ^ suc m) (no_power (suc m) (omega arith)))
    (power_none m n (λ j h. no_power j (omega arith)))

-- a number between two neighbouring powers is at most the lower one's
pub power_between : (n k j : ℕ) → 2 ^ k ≤ n → n < 2 * 2 ^ k → n ≡ 2 ^ j → j ≡ k
power_between n k j low high e =
    ⊎_elim
    (λ same. same)
    (⊎_elim
    (λ less. let m = pow_mono {i = j + 1} {j = k} (omega (arith, less)) in absurd (omega (arith, low, e, m, pow_more 2 j)))
    (λ more. let m = pow_mono {i = k + 1} {j = j} (omega (arith, more)) in absurd (omega (arith, high, e, m, pow_more 2 k))))
    (cases_order j k)

-- so it is a power only if it is that one
pub power_alone : (most n k : ℕ) → 2 ^ k ≤ n → n < 2 * 2 ^ k → (k ≤ most → n ≡ 2 ^ k → ⊥) → power_to most n ≡ false
power_alone most n k low high other =
    power_none most n (λ j within is. let same = power_between n k j low high is in other (omega (arith, same, within)) (is ∙ ap (λ i. 2 ^ i) same))

-- a mask of k bits
pub low_bits : (n k : ℕ) → k < 32 → bit_and n ((1 * 2 ^ k) % 2 ^ 32 - 1) ≡ n % 2 ^ k
low_bits n k h = ap (λ p. bit_and n (p - 1)) (one_shl k 32 h) ∙ and_mask n k

-- the low bits of a block are its set
pub set_low : (block address b s : ℕ) → s < 32 → block ≡ block_of address (2 ^ b) → bit_and block (1 * 2 ^ s % 4294967296 - 1) ≡ set_of address (2 ^ b) (2 ^ s)
set_low block address b s low is = low_bits block s low ∙ ap (λ n. n % 2 ^ s) is
