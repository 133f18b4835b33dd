-- The number that digits write, one digit after the other.
use Rattle.std.proofs.Common.{◌≡◌, ℕ, ◌+◌, ◌*◌, ◌%◌, ◌^◌, List, [], ◌∷◌, map, fold, sym, refl, ap, ◌∙◌}
use Rattle.std.specs.Int.Digits.{number_from_digits_after}
use Rattle.std.proofs.Math.Nat.{mod-add-mod}
use Rattle.std.proofs.lemmas.Nat.{mul-mod_first}
use Rattle.jobtext.specs.Numbers.{digit_value, digits_value}

-- one digit more, as 64 bits hold the number
abbrev pub next : ℕ → ℕ → ℕ → ℕ
next radix v b = ((v * radix) % 2 ^ 64 + digit_value b) % 2 ^ 64

next_is : (radix v n d : ℕ) → v ≡ n % 2 ^ 64 → ((v * radix) % 2 ^ 64 + d) % 2 ^ 64 ≡ (n * radix + d) % 2 ^ 64
next_is radix v n d e =
    mod-add-mod (v * radix) (2 ^ 64) d
    ∙ ap (λ x. (x * radix + d) % 2 ^ 64) e
    ∙ sym (mod-add-mod (n % 2 ^ 64 * radix) (2 ^ 64) d)
    ∙ ap (λ x. (x + d) % 2 ^ 64) (mul-mod_first n radix (2 ^ 64))
    ∙ mod-add-mod (n * radix) (2 ^ 64) d

value_after : (radix v n : ℕ) (bs : List ℕ) → v ≡ n % 2 ^ 64 → fold (next radix) v bs ≡ number_from_digits_after radix n (map digit_value bs) % 2 ^ 64
value_after radix v n [] e = e
value_after radix v n (b ∷ bs) e = value_after radix (next radix v b) (n * radix + digit_value b) bs (next_is radix v n (digit_value b) e)

pub fold-next : (radix : ℕ) (bs : List ℕ) → fold (next radix) 0 bs ≡ digits_value radix bs
fold-next radix bs = value_after radix 0 0 bs refl
