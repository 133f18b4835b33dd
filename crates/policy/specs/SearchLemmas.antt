-- Facts about a search through a list of tags, and one about all elements of a list.
use Rattle.std.specs.Prelude.{◌≡◌, ℕ, zero, suc, ◌<◌, ◌≤◌, Bool, true, false, List, [], ◌∷◌, length, take, replicate, ◌==◌, ◌≢◌, nat_eq, refl}
use Rattle.std.proofs.Common.{sym, ap, ◌∙◌, ⊎_elim, arith}
use Rattle.std.specs.List.{AllByRecursion}
use Rattle.std.proofs.lemmas.Bool.{both_ways, cases_Bool, or_parts, true≢false, eq-eqb, ne_eqb}
use Rattle.policy.specs.Search.{member, place, Distinct}

-- what a search is compared with, tag by tag
module _ (t x : ℕ) (xs : List ℕ) where
  pub place_here : nat_eq t x ≡ true → place t (x ∷ xs) ≡ 1
  place_here e = rw e refl

  pub place_later : nat_eq t x ≡ false → place t (x ∷ xs) ≡ suc (place t xs)
  place_later e = rw e refl

  pub member_later : nat_eq t x ≡ false → member t (x ∷ xs) ≡ member t xs
  member_later e = rw e refl

  pub member_here : nat_eq t x ≡ true → member t (x ∷ xs) ≡ true
  member_here e = rw e refl

pub member_first : (t : ℕ) (xs : List ℕ) → member t (t ∷ xs) ≡ true
member_first t xs = member_here t t xs (eq-eqb t t refl)

pub member_other : (t x : ℕ) (xs : List ℕ) → (t ≢ x) → member t (x ∷ xs) ≡ true → member t xs ≡ true
member_other t x xs o m = sym (member_later t x xs (ne_eqb t x o)) ∙ m

-- a tag that is in ys only if it is in xs
pub member_not : (t : ℕ) (xs ys : List ℕ) → (member t ys ≡ true → member t xs ≡ true) → member t xs ≡ false → member t ys ≡ false
member_not t xs ys f h = ⊎_elim (λ e. absurd (both_ways (member t xs) h (f e))) (λ e. e) (cases_Bool (member t ys))

pub all_replicate : {X : Type 0} (P : X → Type 0) (n : ℕ) (x : X) → P x → AllByRecursion P (replicate n x)
all_replicate P zero x p = tt
all_replicate P (suc n) x p = (p, all_replicate P n x p)

pub place_absent : (t : ℕ) (xs : List ℕ) → member t xs ≡ false → place t xs ≡ length xs
place_absent t [] m = refl
place_absent t (x ∷ xs) m =
    let (here, later) = or_parts (t == x) (member t xs) m in
    place_later t x xs here ∙ ap suc (place_absent t xs later)

pub place_le : (t : ℕ) (xs : List ℕ) → place t xs ≤ length xs
place_le t [] = omega arith
place_le t (x ∷ xs) = go (t == x) refl (place_le t xs)
  where
    go : (b : Bool) → (t == x) ≡ b → place t xs ≤ length xs → place t (x ∷ xs) ≤ suc (length xs)
    go true e ih = rw e (omega arith)
    go false e ih = rw e (omega arith)

pub place_pos : (t : ℕ) (xs : List ℕ) → member t xs ≡ true → 1 ≤ place t xs
place_pos t [] m = absurd (true≢false (sym m))
place_pos t (x ∷ xs) m = go (t == x) refl
  where
    go : (b : Bool) → (t == x) ≡ b → 1 ≤ place t (x ∷ xs)
    go true e = rw e (omega arith)
    go false e = rw e (omega arith)

-- the first n of a list
pub member_take_absent : (t n : ℕ) (xs : List ℕ) → member t xs ≡ false → member t (take n xs) ≡ false
member_take_absent t zero xs m = refl
member_take_absent t (suc n) [] m = refl
member_take_absent t (suc n) (x ∷ xs) m =
    let (here, later) = or_parts (t == x) (member t xs) m in
    member_later t x (take n xs) here ∙ member_take_absent t n xs later

pub member_take_within : (t n : ℕ) (xs : List ℕ) → member t xs ≡ true → place t xs ≤ n → member t (take n xs) ≡ true
member_take_within t zero xs m h = let p = place_pos t xs m in absurd (omega arith)
member_take_within t (suc n) [] m h = absurd (true≢false (sym m))
member_take_within t (suc n) (x ∷ xs) m h = go (t == x) refl (member_take_within t n xs)
  where
    go : (b : Bool) → (t == x) ≡ b → (member t xs ≡ true → place t xs ≤ n → member t (take n xs) ≡ true) → member t (x ∷ take n xs) ≡ true
    go true e ih = member_here t x (take n xs) e
    go false e ih =
        let m' : member t xs ≡ true = sym (member_later t x xs e) ∙ m in
        let h' : place t xs ≤ n = omega (arith, place_later t x xs e) in
        member_later t x (take n xs) e ∙ ih m' h'

pub member_take_beyond : (t n : ℕ) (xs : List ℕ) → n < place t xs → member t (take n xs) ≡ false
member_take_beyond t zero xs h = refl
member_take_beyond t (suc n) [] h = refl
member_take_beyond t (suc n) (x ∷ xs) h = go (t == x) refl (member_take_beyond t n xs)
  where
    go : (b : Bool) → (t == x) ≡ b → (n < place t xs → member t (take n xs) ≡ false) → member t (x ∷ take n xs) ≡ false
    go true e ih = absurd (omega (arith, place_here t x xs e))
    go false e ih = member_later t x (take n xs) e ∙ ih (omega (arith, place_later t x xs e))

pub member-take : (u n : ℕ) (xs : List ℕ) → member u (take n xs) ≡ true → member u xs ≡ true
member-take u zero xs m = absurd (true≢false (sym m))
member-take u (suc n) [] m = absurd (true≢false (sym m))
member-take u (suc n) (x ∷ xs) m = go (u == x) refl (member-take u n xs)
  where
    go : (b : Bool) → (u == x) ≡ b → (member u (take n xs) ≡ true → member u xs ≡ true) → member u (x ∷ xs) ≡ true
    go true e ih = member_here u x xs e
    go false e ih = member_later u x xs e ∙ ih (sym (member_later u x (take n xs) e) ∙ m)

pub distinct_take : (n : ℕ) (xs : List ℕ) → Distinct xs → Distinct (take n xs)
distinct_take zero xs d = tt
distinct_take (suc n) [] d = tt
distinct_take (suc n) (x ∷ xs) d = (member_take_absent x n xs d.0, distinct_take n xs d.1)
