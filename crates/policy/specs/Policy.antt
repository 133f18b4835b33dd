-- What a replacement policy means, and the laws that every policy keeps.
use Rattle.std.specs.Prelude.{◌≡◌, ℕ, ◌+◌, ◌^◌, ◌<◌, ◌≤◌, Bool, true, List, [], length, ◌≢◌}
use Rattle.std.specs.List.{AllByRecursion}
use Rattle.policy.specs.Search.{member, place, Distinct}

-- What a touch gives.
pub record Touched : Type 0 where
  -- whether the tag was resident
  pub hit : Bool
  -- the tags that it was compared with
  pub comparisons : ℕ
  -- the row afterwards
  pub row : List ℕ

-- A row is a list of words: a policy's own head word, and a word for each way.
pub record Meaning : Type 1 where
  -- the letter of the policy
  pub letter : ℕ
  -- whether it takes a number of ways
  pub takes : ℕ → Bool
  -- a new row of so many words
  pub start : ℕ → List ℕ
  -- what the touch of a tag does to a row, whatever the row holds
  pub touch : List ℕ → ℕ → Touched
  -- the tags that a row holds, in search order
  pub residents : List ℕ → List ℕ
  -- the rows of so many ways that the policy itself makes
  pub Row : ℕ → List ℕ → Type 0

-- The laws of every policy. A row is of a ways that the policy takes, and was started, touched or truncated by itself.
pub record Laws (m : Meaning) : Type 0 where
  -- the letter lies between A and Z
  pub letter_low : 65 ≤ m.letter
  pub letter_high : m.letter ≤ 90
  -- a policy takes 1 to 16 ways
  pub ways : (a : ℕ) → m.takes a ≡ true → (1 ≤ a) × (a ≤ 16)
  -- a started row is a row without residents
  pub started : (a : ℕ) → m.takes a ≡ true → m.Row a (m.start (a + 1))
  pub empty : (a : ℕ) → m.takes a ≡ true → m.residents (m.start (a + 1)) ≡ []
  -- a row has a + 1 words of 32 bits
  pub words : (a : ℕ) (r : List ℕ) → m.takes a ≡ true → m.Row a r → length r ≡ a + 1
  pub width : (a : ℕ) (r : List ℕ) → m.takes a ≡ true → m.Row a r → AllByRecursion (λ w. w < 2 ^ 32) r
  -- at most a residents, none twice
  pub few : (a : ℕ) (r : List ℕ) → m.takes a ≡ true → m.Row a r → length (m.residents r) ≤ a
  pub distinct : (a : ℕ) (r : List ℕ) → m.takes a ≡ true → m.Row a r → Distinct (m.residents r)
  -- a touched row is a row
  pub touched : (a : ℕ) (r : List ℕ) (t : ℕ) → m.takes a ≡ true → m.Row a r → t < 2 ^ 32 → m.Row a (m.touch r t).row
  -- a touch hits exactly if the tag is resident
  pub hits : (a : ℕ) (r : List ℕ) (t : ℕ) → m.takes a ≡ true → m.Row a r → t < 2 ^ 32 → (m.touch r t).hit ≡ member t (m.residents r)
  -- the comparisons are the tag's place, from 1, or the number of residents
  pub compares : (a : ℕ) (r : List ℕ) (t : ℕ) → m.takes a ≡ true → m.Row a r → t < 2 ^ 32 → (m.touch r t).comparisons ≡ place t (m.residents r)
  -- afterwards the tag is resident, and every other resident was one before
  pub kept : (a : ℕ) (r : List ℕ) (t : ℕ) → m.takes a ≡ true → m.Row a r → t < 2 ^ 32 → member t (m.residents (m.touch r t).row) ≡ true
  pub known : (a : ℕ) (r : List ℕ) (t u : ℕ) → m.takes a ≡ true → m.Row a r → t < 2 ^ 32 → (u ≢ t) → member u (m.residents (m.touch r t).row) ≡ true → member u (m.residents r) ≡ true
  -- the same tag again leaves the row as it is
  pub again : (a : ℕ) (r : List ℕ) (t : ℕ) → m.takes a ≡ true → m.Row a r → t < 2 ^ 32 → (m.touch (m.touch r t).row t).row ≡ (m.touch r t).row
