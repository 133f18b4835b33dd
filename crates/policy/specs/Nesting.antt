-- What a nesting policy adds: the residents of a narrow row are the first of a wide one's, and stay so.
use Rattle.std.specs.Prelude.{◌≡◌, ℕ, ◌+◌, ◌^◌, ◌<◌, ◌≤◌, Bool, true, false, List, take}
use Rattle.policy.specs.Search.{place}
use Rattle.policy.specs.Policy.{Meaning}

pub record Nest : Type 0 where
  -- a row of so many words with the first residents of a wide row
  pub truncate : ℕ → List ℕ → List ℕ
  -- whether a narrow row is still the first of the wide one after a hit beyond its ways
  pub keeps : Bool

-- N is the first n of W: its residents are the first n of W's, or all where W has fewer
abbrev pub First : Meaning → ℕ → List ℕ → List ℕ → Type 0
First m n N W = m.residents N ≡ take n (m.residents W)

-- two rows of one policy, the narrow one the first of the wide one, before both are touched with one tag
pub record Nested (m : Meaning) (n w : ℕ) (N W : List ℕ) (t : ℕ) : Type 0 where
  pub narrow_takes : m.takes n ≡ true
  pub wide_takes : m.takes w ≡ true
  pub narrower : n ≤ w
  pub narrow : m.Row n N
  pub wide : m.Row w W
  pub first : First m n N W
  pub tag : t < 2 ^ 32

-- The laws of a nesting policy.
pub record Nests (m : Meaning) (e : Nest) : Type 0 where
  -- a miss of the wide row is one of the narrow row, which stays the first
  pub miss : (n w : ℕ) (N W : List ℕ) (t : ℕ) → Nested m n w N W t → (m.touch W t).hit ≡ false → ((m.touch N t).hit ≡ false) × First m n (m.touch N t).row (m.touch W t).row
  -- a hit of the wide row at place n or before is one of the narrow row, which stays the first
  pub shallow : (n w : ℕ) (N W : List ℕ) (t : ℕ) → Nested m n w N W t → (m.touch W t).hit ≡ true → place t (m.residents W) ≤ n → ((m.touch N t).hit ≡ true) × First m n (m.touch N t).row (m.touch W t).row
  -- a hit of the wide row beyond place n is a miss of the narrow row
  pub deep : (n w : ℕ) (N W : List ℕ) (t : ℕ) → Nested m n w N W t → (m.touch W t).hit ≡ true → n < place t (m.residents W) → (m.touch N t).hit ≡ false
  -- which stays the first if the policy says so
  pub deep_kept : (n w : ℕ) (N W : List ℕ) (t : ℕ) → Nested m n w N W t → (m.touch W t).hit ≡ true → n < place t (m.residents W) → e.keeps ≡ true → First m n (m.touch N t).row (m.touch W t).row
  -- and does not if the policy says no
  pub deep_left : (n w : ℕ) (N W : List ℕ) (t : ℕ) → Nested m n w N W t → (m.touch W t).hit ≡ true → n < place t (m.residents W) → e.keeps ≡ false → First m n (m.touch N t).row (m.touch W t).row → ⊥
  -- truncating gives a row whose residents are the first of the wide one's
  pub truncated : (n w : ℕ) (W : List ℕ) → m.takes n ≡ true → m.takes w ≡ true → n ≤ w → m.Row w W → m.Row n (e.truncate (n + 1) W) × First m n (e.truncate (n + 1) W) W
