-- What each call asks, in order: of its arguments, of the workspace's length, and of what is held.
use Rattle.std.specs.Prelude.{ℕ, ◌&&◌, List, [], ◌∷◌, Option, nat_le, nat_lt}
use Rattle.geometry.specs.Refusal.{Question, ask, first_no}
use Rattle.standalone.specs.declared.access.Access.{Access}
use Rattle.bench.specs.Opened.{No, at_line}

-- a refusal that is not about a table line
abbrev pub refusal : List Question → Option No
refusal qs = at_line 0 (first_no qs)

-- the workspace is as long as the need, the kind is known, the address has 32 bits, and one access more can be counted
abbrev pub access_refusal : ℕ → ℕ → ℕ → Access → Option No
access_refusal need words accesses x = refusal (ask 11 (nat_le need words) ∷ ask 12 (nat_le x.kind 2) ∷ ask 13 (nat_le x.address 4294967295) ∷ ask 14 (nat_lt accesses 4294967295) ∷ [])

abbrev pub flush_refusal : ℕ → ℕ → Option No
flush_refusal need words = refusal (ask 11 (nat_le need words) ∷ [])

-- there are windows 0 to 7; a window is not empty, and ends at 2 ^ 32 at most
abbrev pub window_refusal : ℕ → ℕ → ℕ → Option No
window_refusal number first end = refusal (ask 15 (nat_le number 7) ∷ ask 16 (nat_lt first end && nat_le end 4294967296) ∷ [])

abbrev pub off_refusal : ℕ → Option No
off_refusal number = refusal (ask 15 (nat_le number 7) ∷ [])

-- fewer than 1,000,000 frames
abbrev pub frame_refusal : ℕ → Option No
frame_refusal frames = refusal (ask 17 (nat_lt frames 1000000) ∷ [])
