-- What FIFO and LRU do to a list of residents: the facts behind the laws.
use Rattle.std.specs.Prelude.{◌≡◌, ℕ, zero, suc, ◌<◌, ◌≤◌, Bool, true, false, List, [], ◌∷◌, ◌++◌, length, take, drop, ◌==◌, nat_eq, refl}
use Rattle.std.proofs.Common.{sym, ap, ◌∙◌, arith}
use Rattle.std.specs.List.{AllByRecursion}
use Rattle.std.proofs.lemmas.Bool.{true≢false, eqb-true}
use Rattle.policy.specs.Search.{member, place, Distinct}
use Rattle.policy.specs.Stack.{without}
use Rattle.policy.specs.SearchLemmas.{place_here, place_later, place_pos, member_here, member_later, member_not}
use Rattle.policy.specs.StackRow.{drop_taken}

module _ (t x : ℕ) (xs : List ℕ) where
  pub without_here : nat_eq t x ≡ true → without t (x ∷ xs) ≡ xs
  without_here e = rw e refl

  without_later : nat_eq t x ≡ false → without t (x ∷ xs) ≡ x ∷ without t xs
  without_later e = rw e refl

pub length_without : (t : ℕ) (xs : List ℕ) → member t xs ≡ true → suc (length (without t xs)) ≡ length xs
length_without t [] m = absurd (true≢false (sym m))
length_without t (x ∷ xs) m = go (t == x) refl (length_without t xs)
  where
    go : (b : Bool) → (t == x) ≡ b → (member t xs ≡ true → suc (length (without t xs)) ≡ length xs) → suc (length (without t (x ∷ xs))) ≡ suc (length xs)
    go true e ih = ap (λ ys. suc (length ys)) (without_here t x xs e)
    go false e ih = ap (λ ys. suc (length ys)) (without_later t x xs e) ∙ ap suc (ih (sym (member_later t x xs e) ∙ m))

pub member-without : (u t : ℕ) (xs : List ℕ) → member u (without t xs) ≡ true → member u xs ≡ true
member-without u t [] m = m
member-without u t (x ∷ xs) m = go (t == x) refl (u == x) refl (member-without u t xs)
  where
    go : (b : Bool) → (t == x) ≡ b → (c : Bool) → (u == x) ≡ c → (member u (without t xs) ≡ true → member u xs ≡ true) → member u (x ∷ xs) ≡ true
    go b e true f ih = member_here u x xs f
    go true e false f ih = member_later u x xs f ∙ sym (ap (member u) (without_here t x xs e)) ∙ m
    go false e false f ih = member_later u x xs f ∙ ih (sym (member_later u x (without t xs) f) ∙ sym (ap (member u) (without_later t x xs e)) ∙ m)

pub absent_without : (u t : ℕ) (xs : List ℕ) → member u xs ≡ false → member u (without t xs) ≡ false
absent_without u t xs n = member_not u xs (without t xs) (member-without u t xs) n

pub without_itself : (t : ℕ) (xs : List ℕ) → Distinct xs → member t (without t xs) ≡ false
without_itself t [] d = refl
without_itself t (x ∷ xs) d = go (t == x) refl (without_itself t xs d.1)
  where
    go : (b : Bool) → (t == x) ≡ b → member t (without t xs) ≡ false → member t (without t (x ∷ xs)) ≡ false
    go true e ih = ap (member t) (without_here t x xs e) ∙ ap (λ u. member u xs) (eqb-true t x e) ∙ d.0
    go false e ih = ap (member t) (without_later t x xs e) ∙ member_later t x (without t xs) e ∙ ih

pub distinct_without : (t : ℕ) (xs : List ℕ) → Distinct xs → Distinct (without t xs)
distinct_without t [] d = tt
distinct_without t (x ∷ xs) d = go (t == x) refl (distinct_without t xs d.1)
  where
    go : (b : Bool) → (t == x) ≡ b → Distinct (without t xs) → Distinct (without t (x ∷ xs))
    go true e ih = rw (without_here t x xs e) d.1
    go false e ih = rw (without_later t x xs e) (absent_without x t xs d.0, ih)

pub all_without : (P : ℕ → Type 0) (t : ℕ) (xs : List ℕ) → AllByRecursion P xs → AllByRecursion P (without t xs)
all_without P t [] h = tt
all_without P t (x ∷ xs) h = go (t == x) refl (all_without P t xs h.1)
  where
    go : (b : Bool) → (t == x) ≡ b → AllByRecursion P (without t xs) → AllByRecursion P (without t (x ∷ xs))
    go true e ih = rw (without_here t x xs e) h.1
    go false e ih = rw (without_later t x xs e) (h.0, ih)

-- the tag taken out at its place q + 1, in the words of a row
pub words_without : (t h q : ℕ) (ws : List ℕ) → member t (take h ws) ≡ true → place t (take h ws) ≡ suc q
    → without t (take h ws) ++ drop (length (take h ws)) ws ≡ take q ws ++ drop (suc q) ws
words_without t zero q ws m p = absurd (true≢false (sym m))
words_without t (suc h) q [] m p = absurd (true≢false (sym m))
words_without t (suc h) q (x ∷ ws) m p = go (t == x) refl q p (words_without t h)
  where
    rest : List ℕ
    rest = drop (length (take h ws)) ws

    go : (b : Bool) → (t == x) ≡ b → (q : ℕ) → place t (x ∷ take h ws) ≡ suc q
        → ((q : ℕ) (ws : List ℕ) → member t (take h ws) ≡ true → place t (take h ws) ≡ suc q → without t (take h ws) ++ drop (length (take h ws)) ws ≡ take q ws ++ drop (suc q) ws)
        → without t (x ∷ take h ws) ++ drop (length (take h ws)) ws ≡ take q (x ∷ ws) ++ drop (suc q) (x ∷ ws)
    go true e q p ih =
        let z : q ≡ 0 = omega (arith, place_here t x (take h ws) e) in
        ap (λ ys. ys ++ drop (length (take h ws)) ws) (without_here t x (take h ws) e) ∙ drop_taken h ws ∙ sym (ap (λ k. take k (x ∷ ws) ++ drop (suc k) (x ∷ ws)) z)
    go false e zero p ih =
        let m' : member t (take h ws) ≡ true = sym (member_later t x (take h ws) e) ∙ m in
        absurd (omega (arith, place_later t x (take h ws) e, place_pos t (take h ws) m'))
    go false e (suc q) p ih =
        let m' : member t (take h ws) ≡ true = sym (member_later t x (take h ws) e) ∙ m in
        let p' : place t (take h ws) ≡ suc q = omega (arith, place_later t x (take h ws) e) in
        ap (λ ys. ys ++ drop (length (take h ws)) ws) (without_later t x (take h ws) e) ∙ ap (λ ys. x ∷ ys) (ih q ws m' p')

-- the first k others: those of the first k + 1 where the tag is among them, else the first k
pub take_without_within : (t k : ℕ) (xs : List ℕ) → member t xs ≡ true → place t xs ≤ suc k → without t (take (suc k) xs) ≡ take k (without t xs)
take_without_within t k [] m h = absurd (true≢false (sym m))
take_without_within t k (x ∷ xs) m h = go (t == x) refl k h (λ k'. take_without_within t k' xs)
  where
    go : (b : Bool) → (t == x) ≡ b → (k : ℕ) → place t (x ∷ xs) ≤ suc k
        → ((k : ℕ) → member t xs ≡ true → place t xs ≤ suc k → without t (take (suc k) xs) ≡ take k (without t xs))
        → without t (x ∷ take k xs) ≡ take k (without t (x ∷ xs))
    go true e k h ih = without_here t x (take k xs) e ∙ sym (ap (take k) (without_here t x xs e))
    go false e zero h ih =
        let m' : member t xs ≡ true = sym (member_later t x xs e) ∙ m in
        absurd (omega (arith, place_later t x xs e, place_pos t xs m'))
    go false e (suc k) h ih =
        let m' : member t xs ≡ true = sym (member_later t x xs e) ∙ m in
        let h' : place t xs ≤ suc k = omega (arith, place_later t x xs e) in
        without_later t x (take (suc k) xs) e ∙ ap (λ ys. x ∷ ys) (ih k m' h') ∙ sym (ap (take (suc k)) (without_later t x xs e))

pub take_without_beyond : (t k : ℕ) (xs : List ℕ) → k < place t xs → take k (without t xs) ≡ take k xs
take_without_beyond t zero xs h = refl
take_without_beyond t (suc k) [] h = refl
take_without_beyond t (suc k) (x ∷ xs) h = go (t == x) refl (take_without_beyond t k xs)
  where
    go : (b : Bool) → (t == x) ≡ b → (k < place t xs → take k (without t xs) ≡ take k xs) → take (suc k) (without t (x ∷ xs)) ≡ x ∷ take k xs
    go true e ih = absurd (omega (arith, place_here t x xs e))
    go false e ih = ap (take (suc k)) (without_later t x xs e) ∙ ap (λ ys. x ∷ ys) (ih (omega (arith, place_later t x xs e)))
