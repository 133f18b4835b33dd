-- The first word that is the tag says whether the tag is resident, and its place.
use Rattle.std.proofs.Common.{◌≡◌, ℕ, ◌+◌, true, false, List, [], ◌∷◌, length, Some, None, Option, MatchOption, sym, ◌∙◌, refl, arith}
use Rattle.std.specs.Prelude.{◌==◌}
use Rattle.std.specs.List.{position, position_from}
use Rattle.std.proofs.lemmas.Bool.{cond_both, eq-eqb, ne_eqb, eqb-true, eqb-false}
use Rattle.std.proofs.lemmas.Iterator.Adapters.{position_from-zero}
use Rattle.policy.specs.Search.{member, place}
use Rattle.policy.specs.SearchLemmas.{member_here, member_later, place_here, place_later}

-- what the answer of a search says that starts at word n
abbrev pub Says : ℕ → List ℕ → ℕ → Option ℕ → Type 0
Says t xs n r = MatchOption r ((member t xs ≡ false) × (place t xs ≡ length xs)) (λ i. (member t xs ≡ true) × (n + place t xs ≡ i + 1))

-- a word that is another one is passed
passed : (t x n : ℕ) (xs : List ℕ) (r : Option ℕ) → (t == x) ≡ false → Says t xs (n + 1) r → Says t (x ∷ xs) n r
passed t x n xs None e s = (member_later t x xs e ∙ s.0, omega (arith, place_later t x xs e))
passed t x n xs (Some i) e s = (member_later t x xs e ∙ s.0, omega (arith, place_later t x xs e))

says_from : (t n : ℕ) (xs : List ℕ) → Says t xs n (position_from (λ x. x == t) n xs)
says_from t n [] = (refl, refl)
says_from t n (x ∷ xs) =
    cond_both (x == t) (Some n) (position_from (λ x. x == t) (n + 1) xs) (Says t (x ∷ xs) n)
    (λ e. let same = eq-eqb t x (sym (eqb-true x t e)) in (member_here t x xs same, omega (arith, place_here t x xs same)))
    (λ e. passed t x n xs (position_from (λ x. x == t) (n + 1) xs) (ne_eqb t x (λ p. eqb-false x t e (sym p))) (says_from t (n + 1) xs))

pub says : (t : ℕ) (xs : List ℕ) → Says t xs 0 (position (λ x. x == t) xs)
says t xs = rw (position_from-zero (λ x. x == t) xs) (says_from t 0 xs)
