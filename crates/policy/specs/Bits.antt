-- The bits of a word, and a word as a list of bits.
use Rattle.std.specs.Prelude.{◌≡◌, ℕ, zero, suc, ◌+◌, ◌-◌, ◌*◌, ◌/◌, ◌%◌, ◌^◌, ◌<◌, ◌≤◌, List, [], ◌∷◌, length, bit_and, bit_or, slice_index, slice_set}
use Rattle.std.proofs.Common.{sym, ap, ap₂, ◌∙◌, zero-add, zero-mul, div-one, pow-suc, mul_assoc, mod-eq_of_lt, mod-lt, one-add, arith, pow_pos, shr-shr, shr_lt, shl_lt, pow-add, pow_mono}
use Rattle.std.proofs.Math.Nat.{zero-div, zero-mod, mod-le}
use Rattle.std.proofs.lemmas.Nat.{and_block, and_mask, or_block, mod-pow-add}
use Rattle.std.specs.Int.Bits.{or_shifted_r, or_zero_r}
use Rattle.std.proofs.Math.Pow.{split, mod-mod-pow, high_ones}
use Rattle.std.specs.List.{AllByRecursion}
use Rattle.policy.specs.Plru.{bit, bits, with_bit}

-- `word & !(1 << k)` clears bit k
and_not : (h j k : ℕ) → h < 2 ^ (j + (1 + k)) → bit_and h (2 ^ (j + (1 + k)) - 1 - 2 ^ k) ≡ h / 2 ^ (1 + k) * 2 ^ (1 + k) + h % 2 ^ k
and_not h j k l =
    let double : 2 ^ (1 + k) ≡ 2 * 2 ^ k = pow-add 2 1 k in
    let low : 2 ^ k - 1 < 2 ^ (1 + k) = omega (arith, pow_pos k) in
    let mask : 2 ^ (j + (1 + k)) - 1 - 2 ^ k ≡ (2 ^ j - 1) * 2 ^ (1 + k) + (2 ^ k - 1) =
    omega (arith, high_ones j (1 + k), pow_pos k, pow_mono {i = 1 + k} {j = j + (1 + k)} (omega arith)) in
    ap₂ bit_and (sym (split h (1 + k))) mask
    ∙ and_block (1 + k) (h / 2 ^ (1 + k)) (2 ^ j - 1) (h % 2 ^ (1 + k)) (2 ^ k - 1) (mod-lt h (pow_pos (1 + k))) low
    ∙ ap₂ (λ (x y : ℕ). x * 2 ^ (1 + k) + y)
    (and_mask (h / 2 ^ (1 + k)) j ∙ mod-eq_of_lt (shr_lt j (1 + k) l))
    (and_mask (h % 2 ^ (1 + k)) k ∙ mod-mod-pow h 1 k)

-- `(word & !(1 << k)) | (b << k)` puts b at bit k
pub and_not_or : (h b k : ℕ) → k < 32 → h < 2 ^ 32 → b < 2 → bit_or (bit_and h (2 ^ 32 - 1 - 2 ^ k)) (b * 2 ^ k) ≡ with_bit h k b
and_not_or h b k l f g =
    let width : (31 - k) + (1 + k) ≡ 32 = omega arith in
    let whole : h < 2 ^ ((31 - k) + (1 + k)) = rw width f in
    let cleared : bit_and h (2 ^ 32 - 1 - 2 ^ k) ≡ h / 2 ^ (1 + k) * 2 ^ (1 + k) + h % 2 ^ k = rw width at (and_not h (31 - k) k whole) in
    let low : h % 2 ^ k < 2 ^ (1 + k) = omega (arith, mod-lt h (pow_pos k), pow-add 2 1 k) in
    let put : b * 2 ^ k < 2 ^ (1 + k) = shl_lt 1 k g in
    let joined : bit_or (h / 2 ^ (1 + k) * 2 ^ (1 + k) + h % 2 ^ k) (0 * 2 ^ (1 + k) + b * 2 ^ k) ≡ h / 2 ^ (1 + k) * 2 ^ (1 + k) + (b * 2 ^ k + h % 2 ^ k) =
    or_block (1 + k) (h / 2 ^ (1 + k)) 0 (h % 2 ^ k) (b * 2 ^ k) low put
    ∙ ap₂ (λ (x y : ℕ). x * 2 ^ (1 + k) + y) (or_zero_r (h / 2 ^ (1 + k))) (or_shifted_r b k (h % 2 ^ k) (mod-lt h (pow_pos k))) in
    ap₂ bit_or cleared (simp (zero-mul, zero-add))
    ∙ joined ∙ omega (arith, split h (1 + k), mod-pow-add h 1 k)

head : (b n : ℕ) → b < 2 → (b + 2 * n) % 2 ≡ b
head b n l = omega arith

tail : (b n : ℕ) → b < 2 → (b + 2 * n) / 2 ≡ n
tail b n l = omega arith

half_shift : (n j : ℕ) → n / 2 ^ suc j ≡ n / 2 / 2 ^ j
half_shift n j = ap (λ (k : ℕ). n / 2 ^ k) (sym (one-add j)) ∙ sym (shr-shr n 1 j)

bit-suc : (b n j : ℕ) → b < 2 → bit (b + 2 * n) (suc j) ≡ bit n j
bit-suc b n j l = rw (half_shift, tail b n l)

bit_le : (n j : ℕ) → bit n j * 2 ^ j ≤ n
bit_le n j = omega (arith, mod-pow-add n 1 j, mod-le n (2 ^ (1 + j)))

with_bit-suc : (x n j b : ℕ) → x < 2 → with_bit (x + 2 * n) (suc j) b ≡ x + 2 * with_bit n j b
with_bit-suc x n j b l = rw (bit-suc x n j l, pow-suc, ← mul_assoc (bit n j), ← mul_assoc b) (omega (arith, bit_le n j))

pub bit-bits : (l : List ℕ) (j : ℕ) → AllByRecursion (λ b. b < 2) l → bit (bits l) j ≡ slice_index l j
bit-bits [] j h = simp (zero-div, zero-mod)
bit-bits (b ∷ bs) zero h = simp div-one (head b (bits bs) h.0)
bit-bits (b ∷ bs) (suc j) h = bit-suc b (bits bs) j h.0 ∙ bit-bits bs j h.1

pub with_bit-bits : (l : List ℕ) (j b : ℕ) → j < length l → AllByRecursion (λ b. b < 2) l → with_bit (bits l) j b ≡ bits (slice_set l j b)
with_bit-bits [] j b i h = absurd (omega arith)
with_bit-bits (x ∷ xs) zero b i h = let e = bit-bits (x ∷ xs) 0 h in omega arith
with_bit-bits (x ∷ xs) (suc j) b i h =
    with_bit-suc x (bits xs) j b h.0 ∙ ap (λ (n : ℕ). x + 2 * n) (with_bit-bits xs j b (omega arith) h.1)

pub bits_lt : (l : List ℕ) → AllByRecursion (λ b. b < 2) l → bits l < 2 ^ length l
bits_lt [] h = omega arith
bits_lt (x ∷ xs) h = rw pow-suc (omega (arith, bits_lt xs h.1))
