-- Lines of a job and what they are read as.
use Rattle.std.proofs.Common.{◌≡◌, ℕ, List, [], ◌∷◌, ◌++◌, replicate, None, Ok, Err, codes, refl}
use Rattle.geometry.specs.declared.kind.AccessKind.TheVariants.{Read, Store}
use Rattle.jobtext.specs.Entries.{table, access, window, comment}
use Rattle.jobtext.specs.Forms.{read_text}
use Rattle.jobtext.specs.Job.{before_all, blame_at, answer}
use Rattle.jobtext.specs.Numbers.{digits_value}

-- a line with its line feed
abbrev fed : List ℕ → List ℕ
fed bs = bs ++ 10 ∷ []

table_line : read_text (fed (codes "c,L,64,32,4")) ≡ Ok (table 76 (codes "64") (codes "32") (codes "4"), 12)
table_line = refl

read_line : read_text (fed (codes "r,1f0") ++ codes "more") ≡ Ok (access Read (codes "1f0"), 6)
read_line = refl

zero_address : read_text (fed (codes "s,0")) ≡ Ok (access Store (codes "0"), 4)
zero_address = refl

window_line : read_text (fed (codes "w,3,a000,b000")) ≡ Ok (window (codes "3") (codes "a000") (codes "b000"), 14)
window_line = refl

comment_line : read_text (fed (codes "#a, b")) ≡ Ok (comment (codes "a, b"), 6)
comment_line = refl

longest_line : read_text (35 ∷ replicate 78 32 ++ 10 ∷ []) ≡ Ok (comment (replicate 78 32), 80)
longest_line = refl

too_long : read_text (35 ∷ replicate 79 32 ++ 10 ∷ []) ≡ Err 1
too_long = refl

empty_line : read_text (10 ∷ []) ≡ Err 2
empty_line = refl

unknown_field : read_text (fed (codes "gg")) ≡ Err 2
unknown_field = refl

few_fields : read_text (fed (codes "c,x,64,32")) ≡ Err 2
few_fields = refl

leading_zero : read_text (fed (codes "o,01")) ≡ Err 3
leading_zero = refl

upper_case : read_text (fed (codes "i,1F0")) ≡ Err 3
upper_case = refl

ten_digits : read_text (fed (codes "i,1234567890")) ≡ Err 3
ten_digits = refl

before_opening : answer before_all (fed (codes "f")) ≡ Err (blame_at before_all 4)
before_opening = refl

end_of_job : answer before_all [] ≡ Ok None
end_of_job = refl

hexadecimal : digits_value 16 (codes "1f0") ≡ 496
hexadecimal = refl
