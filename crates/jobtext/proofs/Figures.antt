-- Decimal numbers as they are written, and read back.
use Rattle.std.proofs.Common.{◌≡◌, ℕ, ◌^◌, ◌<◌, ◌≤◌, true, false, List, map, length, get_or, decimal, ap, ◌∙◌, mod-eq_of_lt, arith, rules}
use Rattle.std.specs.List.{list_all}
use Rattle.std.specs.Int.Digits.{number_from_digits_after}
use Rattle.std.proofs.lemmas.Fmt.{decimal_digit, decimal_nonempty, decimal-digits_value, digits_decimal, first_decimal, length-decimal-le, digits_value-decimal}
use Rattle.std.proofs.lemmas.Bool.Decides.{nat_tests}
use Rattle.std.proofs.lemmas.Str.Parse.{FoldsDigits, IsNumeralModel, IsDigitsTest, numerals_by_fold, digits_value_short}
use Rattle.jobtext.specs.Numbers.{digit_value, digits_value, is_decimal, is_digit, leading_zero}

-- a number of one digit
pub figures_one : (n : ℕ) → n < 10 → length (decimal n) ≡ 1
figures_one n h = ap (λ (xs : List ℕ). length xs) (decimal_digit n h)

-- digits as the library has them
abbrev value_after : ℕ → List ℕ → ℕ
value_after n bs = number_from_digits_after 10 n (map digit_value bs)

tells : IsDigitsTest (λ bs. list_all (is_digit 10) bs ≡ true)
tells = search rules

folds : FoldsDigits value_after
folds = search rules

own : IsNumeralModel (λ bs. list_all (is_digit 10) bs ≡ true) (value_after 0)
own = numerals_by_fold (λ bs. list_all (is_digit 10) bs ≡ true) tells value_after folds

-- what a decimal number is made of
pub decimal_parts : (bs : List ℕ) → is_decimal bs ≡ true → (0 < length bs) × (length bs ≤ 10) × (leading_zero bs ≡ false) × (list_all (is_digit 10) bs ≡ true)
decimal_parts bs t = (grind (arith, nat_tests), grind (arith, nat_tests), grind (arith, nat_tests), grind (arith, nat_tests))

zero_alone : (bs : List ℕ) → 0 < length bs → leading_zero bs ≡ false → get_or bs 0 0 ≡ 48 → length bs ≡ 1
zero_alone bs some no_zero e = grind (arith, nat_tests)

-- a decimal number is what is written of its value
pub figures_back : (bs : List ℕ) → is_decimal bs ≡ true → decimal (digits_value 10 bs) ≡ bs
figures_back bs t =
    let p = decimal_parts bs t in
    let low = digits_value_short own bs 10 p.3 p.1 in
    let small : value_after 0 bs < 2 ^ 64 = omega arith in
    ap decimal (mod-eq_of_lt small) ∙ decimal-digits_value own bs p.3 p.0 (λ e. zero_alone bs p.0 p.2 e) small

no_zero : (n : ℕ) → n < 2 ^ 64 → leading_zero (decimal n) ≡ false
no_zero n h = let one = figures_one n in let first = first_decimal n in grind (arith, nat_tests)

-- what is written of a number is a decimal number, unless it is too long
pub figures_formed : (n : ℕ) → n < 10 ^ 10 → is_decimal (decimal n) ≡ true
figures_formed n h =
    let d = decimal n in
    let fit : n < 2 ^ 64 = omega arith in
    let some = decimal_nonempty n fit in
    let short = length-decimal-le 10 n (omega arith) h fit in
    let lone = no_zero n fit in
    let digits = digits_decimal own n fit in
    grind (arith, nat_tests)

-- its value is the number
pub figures_value : (n : ℕ) → n < 10 ^ 10 → digits_value 10 (decimal n) ≡ n
figures_value n h =
    let same = digits_value-decimal own n (omega arith) in
    let small : value_after 0 (decimal n) < 2 ^ 64 = omega arith in
    mod-eq_of_lt small ∙ same
