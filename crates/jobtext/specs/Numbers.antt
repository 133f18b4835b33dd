-- Numbers as a line has them.
use Rattle.std.specs.Prelude.{ℕ, ◌-◌, ◌%◌, ◌^◌, Bool, cond, not, ◌&&◌, ◌||◌, List, map, length, ◌==◌, nat_le, nat_lt, slice_index}
use Rattle.std.specs.List.{list_all}
use Rattle.std.specs.Int.Digits.{number_from_digits}

-- 0 to 9, and in base 16 a to f
abbrev pub is_digit : ℕ → ℕ → Bool
is_digit base b = (nat_le 48 b && nat_le b 57) || (base == 16 && (nat_le 97 b && nat_le b 102))

-- a leading zero: a 0 that does not stand alone
abbrev pub leading_zero : List ℕ → Bool
leading_zero bs = nat_lt 1 (length bs) && slice_index bs 0 == 48

-- 1 to `most` digits without a leading zero
abbrev pub is_numeral : ℕ → ℕ → List ℕ → Bool
is_numeral base most bs = nat_lt 0 (length bs) && (nat_le (length bs) most && (not (leading_zero bs) && list_all (is_digit base) bs))

-- a decimal number has 1 to 10 digits
abbrev pub is_decimal : List ℕ → Bool
is_decimal bs = is_numeral 10 10 bs

-- an address has 1 to 9 hexadecimal digits
abbrev pub is_address : List ℕ → Bool
is_address bs = is_numeral 16 9 bs

-- what a digit counts
abbrev pub digit_value : ℕ → ℕ
digit_value b = cond (nat_le b 57) (b - 48) (b - 87)

-- the number that digits write in a base, as far as 64 bits hold it
abbrev pub digits_value : ℕ → List ℕ → ℕ
digits_value base bs = number_from_digits base (map digit_value bs) % 2 ^ 64
