-- How large levels and lines can be.
use Rattle.std.proofs.Common.{◌≡◌, ℕ, suc, ◌+◌, ◌*◌, ◌^◌, ◌<◌, ◌≤◌, Bool, true, false, eqb, List, ◌∷◌, sym, refl, ap, ◌∙◌, ⊎_elim, mul-le-mul, arith}
use native.Mathlib.Nat.{pow-le-pow_right}
use Rattle.std.proofs.lemmas.Bool.{cond-true, cond-false, eq-eqb, ne_eqb, cases_lt, eqb-true, eqb-false}
use Rattle.bench.specs.Words.{Kin, line_words, lines_words, one_way, row_words, wide}

-- at most 16,384 sets
pub sets_most : (e : ℕ) → e ≤ 14 → 2 ^ e ≤ 16384
sets_most e le = pow-le-pow_right {n = 2} (omega arith) {i = e} {j = 14} le

pub power_some : (e : ℕ) → 0 < 2 ^ e
power_some e = pow-le-pow_right {n = 2} (omega arith) {i = 0} {j = e} (omega arith)

-- at most 294,912 words of rows
pub rows_most : (e a : ℕ) → e ≤ 14 → a ≤ 16 → 2 ^ e * (a + 2) ≤ 294912
rows_most e a le few = mul-le-mul {n₁ = 2 ^ e} {m₁ = a + 2} {n₂ = 16384} {m₂ = 18} (sets_most e le) (omega arith)

-- different exponents, different powers
power_rises : (a b : ℕ) → a < b → 2 ^ a < 2 ^ b
power_rises a b lt = omega (arith, pow-le-pow_right {n = 2} (omega arith) {i = suc a} {j = b} lt, power_some a)

power_same : (a b : ℕ) → 2 ^ a ≡ 2 ^ b → a ≡ b
power_same a b e = ⊎_elim (λ l. absurd (let r : 2 ^ a < 2 ^ b = power_rises a b l in omega arith)) (λ g. ⊎_elim (λ l. absurd (let r : 2 ^ b < 2 ^ a = power_rises b a l in omega arith)) (λ h. omega arith) (cases_lt b a)) (cases_lt a b)

pub power_eqb : (a b : ℕ) → eqb (2 ^ a) (2 ^ b) ≡ eqb a b
power_eqb a b = go (eqb a b) refl
  where
    go : (c : Bool) → eqb a b ≡ c → eqb (2 ^ a) (2 ^ b) ≡ eqb a b
    go true e = eq-eqb (2 ^ a) (2 ^ b) (ap (λ n. 2 ^ n) (eqb-true a b e)) ∙ sym e
    go false e = ne_eqb (2 ^ a) (2 ^ b) (λ s. eqb-false a b e (power_same a b s)) ∙ sym e

-- the words of one line more
pub wide_words : (s : ℕ) (k : Kin) (ks : List Kin) → lines_words s (wide (k ∷ ks)) ≡ row_words s k + lines_words s (wide ks)
wide_words s k ks = go (one_way k) refl
  where
    go : (b : Bool) → one_way k ≡ b → lines_words s (wide (k ∷ ks)) ≡ row_words s k + lines_words s (wide ks)
    go true o = let none = cond-true (one_way k) 0 (line_words s k.ways) o in omega (arith, none, ap (lines_words s) (cond-true (one_way k) (wide ks) (k ∷ wide ks) o))
    go false o = let own = cond-false (one_way k) 0 (line_words s k.ways) o in omega (arith, own, ap (lines_words s) (cond-false (one_way k) (wide ks) (k ∷ wide ks) o))
