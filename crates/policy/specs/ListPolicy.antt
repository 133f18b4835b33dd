-- What a policy on the list of residents keeps, and that FIFO and LRU keep it.
use Rattle.std.specs.Prelude.{◌≡◌, ℕ, zero, suc, ◌^◌, ◌<◌, ◌≤◌, Bool, true, false, cond, List, [], ◌∷◌, length, take, ◌≢◌, nat_eq, refl}
use Rattle.std.proofs.Common.{sym, ap, ◌∙◌, arith}
use Rattle.std.specs.List.{AllByRecursion}
use Rattle.std.proofs.lemmas.List.{length-take, take-take}
use Rattle.std.proofs.ByRecursion.{All-take}
use Rattle.std.proofs.lemmas.Bool.{true≢false, eq-eqb, cond-true, cond-false, cond_both}
use Rattle.policy.specs.Search.{member, place, Distinct}
use Rattle.policy.specs.Stack.{without, fifo, lru}
use Rattle.policy.specs.SearchLemmas.{place_here, place_pos, member_first, member_other, member-take, member_take_absent, member_take_within, member_take_beyond, distinct_take}
use Rattle.policy.specs.Shift.{take_front}
use Rattle.policy.specs.Residents.{length_without, member-without, without_here, without_itself, distinct_without, all_without, take_without_within, take_without_beyond}

abbrev pub ListPolicy : Type 0
ListPolicy = ℕ → List ℕ → ℕ → List ℕ

-- a policy that acts on a miss as FIFO does, and on a hit by some other function
abbrev pub by_hit : (List ℕ → ℕ → List ℕ) → ListPolicy
by_hit onHit a rs t = cond (member t rs) (onHit rs t) (take a (t ∷ rs))

pub record Keeps (P : ListPolicy) : Type 0 where
  pub grows : (a t : ℕ) (rs : List ℕ) → length rs ≤ a → length rs ≤ length (P a rs t)
  pub few : (a t : ℕ) (rs : List ℕ) → length rs ≤ a → length (P a rs t) ≤ a
  pub distinct : (a t : ℕ) (rs : List ℕ) → Distinct rs → Distinct (P a rs t)
  pub width : (a t : ℕ) (rs : List ℕ) → AllByRecursion (λ w. w < 2 ^ 32) rs → t < 2 ^ 32 → AllByRecursion (λ w. w < 2 ^ 32) (P a rs t)
  pub kept : (a t : ℕ) (rs : List ℕ) → 1 ≤ a → member t (P a rs t) ≡ true
  pub known : (a t u : ℕ) (rs : List ℕ) → (u ≢ t) → member u (P a rs t) ≡ true → member u rs ≡ true
  pub again : (a t : ℕ) (rs : List ℕ) → 1 ≤ a → P a (P a rs t) t ≡ P a rs t

-- what the part on a hit keeps
record KeepsHit (onHit : List ℕ → ℕ → List ℕ) : Type 0 where
  same : (t : ℕ) (rs : List ℕ) → member t rs ≡ true → length (onHit rs t) ≡ length rs
  distinct : (t : ℕ) (rs : List ℕ) → Distinct rs → Distinct (onHit rs t)
  width : (t : ℕ) (rs : List ℕ) → AllByRecursion (λ w. w < 2 ^ 32) rs → t < 2 ^ 32 → AllByRecursion (λ w. w < 2 ^ 32) (onHit rs t)
  kept : (t : ℕ) (rs : List ℕ) → member t rs ≡ true → member t (onHit rs t) ≡ true
  known : (t u : ℕ) (rs : List ℕ) → (u ≢ t) → member u (onHit rs t) ≡ true → member u rs ≡ true

member_front : (a t : ℕ) (rs : List ℕ) → 1 ≤ a → member t (take a (t ∷ rs)) ≡ true
member_front zero t rs h = absurd (omega arith)
member_front (suc a) t rs h = member_first t (take a rs)

module _ (onHit : List ℕ → ℕ → List ℕ) (h : KeepsHit onHit) where
  hit_grows : (a t : ℕ) (rs : List ℕ) → length rs ≤ a → length rs ≤ length (by_hit onHit a rs t)
  hit_grows a t rs l = cond_both (member t rs) (onHit rs t) (take a (t ∷ rs)) (λ ys. length rs ≤ length ys) (λ m. omega (arith, h.same t rs m)) (λ m. omega (arith, length-take a (t ∷ rs)))

  hit_few : (a t : ℕ) (rs : List ℕ) → length rs ≤ a → length (by_hit onHit a rs t) ≤ a
  hit_few a t rs l = cond_both (member t rs) (onHit rs t) (take a (t ∷ rs)) (λ ys. length ys ≤ a) (λ m. omega (arith, h.same t rs m)) (λ m. omega (arith, length-take a (t ∷ rs)))

  hit_distinct : (a t : ℕ) (rs : List ℕ) → Distinct rs → Distinct (by_hit onHit a rs t)
  hit_distinct a t rs d = cond_both (member t rs) (onHit rs t) (take a (t ∷ rs)) Distinct (λ m. h.distinct t rs d) (λ m. distinct_take a (t ∷ rs) (m, d))

  hit_width : (a t : ℕ) (rs : List ℕ) → AllByRecursion (λ w. w < 2 ^ 32) rs → t < 2 ^ 32 → AllByRecursion (λ w. w < 2 ^ 32) (by_hit onHit a rs t)
  hit_width a t rs w l = cond_both (member t rs) (onHit rs t) (take a (t ∷ rs)) (AllByRecursion (λ w. w < 2 ^ 32)) (λ m. h.width t rs w l) (λ m. All-take (λ w. w < 2 ^ 32) a (t ∷ rs) (l, w))

  hit_kept : (a t : ℕ) (rs : List ℕ) → 1 ≤ a → member t (by_hit onHit a rs t) ≡ true
  hit_kept a t rs l = cond_both (member t rs) (onHit rs t) (take a (t ∷ rs)) (λ ys. member t ys ≡ true) (λ m. h.kept t rs m) (λ m. member_front a t rs l)

  hit_known : (a t u : ℕ) (rs : List ℕ) → (u ≢ t) → member u (by_hit onHit a rs t) ≡ true → member u rs ≡ true
  hit_known a t u rs n = cond_both (member t rs) (onHit rs t) (take a (t ∷ rs)) (λ ys. member u ys ≡ true → member u rs ≡ true) (λ m k. h.known t u rs n k)
      (λ m k. member_other u t rs n (member-take u a (t ∷ rs) k))

fifo_hit : KeepsHit (λ rs t. rs)
fifo_hit = record {
  same = λ t rs m. refl;
  distinct = λ t rs d. d;
  width = λ t rs w l. w;
  kept = λ t rs m. m;
  known = λ t u rs n k. k;
}

lru_hit : KeepsHit (λ rs t. t ∷ without t rs)
lru_hit = record {
  same = length_without;
  distinct = λ t rs d. (without_itself t rs d, distinct_without t rs d);
  width = λ t rs w l. (l, all_without (λ w. w < 2 ^ 32) t rs w);
  kept = λ t rs m. member_first t (without t rs);
  known = λ t u rs n k. member-without u t rs (member_other u t (without t rs) n k);
}

-- a tag in front is not moved by LRU
lru_front : (a t : ℕ) (rs : List ℕ) → lru a (t ∷ rs) t ≡ t ∷ rs
lru_front a t rs =
    let e : nat_eq t t ≡ true = eq-eqb t t refl in
    cond-true (member t (t ∷ rs)) (t ∷ without t (t ∷ rs)) (take a (t ∷ (t ∷ rs))) (member_first t rs) ∙ ap (λ ys. t ∷ ys) (without_here t t rs e)

pub fifo_keeps : Keeps fifo
fifo_keeps = record {
  grows = hit_grows (λ rs t. rs) fifo_hit;
  few = hit_few (λ rs t. rs) fifo_hit;
  distinct = hit_distinct (λ rs t. rs) fifo_hit;
  width = hit_width (λ rs t. rs) fifo_hit;
  kept = hit_kept (λ rs t. rs) fifo_hit;
  known = hit_known (λ rs t. rs) fifo_hit;
  again = λ a t rs l. cond-true (member t (fifo a rs t)) (fifo a rs t) (take a (t ∷ fifo a rs t)) (hit_kept (λ rs t. rs) fifo_hit a t rs l);
}

lru_again : (a t : ℕ) (rs : List ℕ) → 1 ≤ a → lru a (lru a rs t) t ≡ lru a rs t
lru_again zero t rs l = absurd (omega arith)
lru_again (suc a) t rs l = cond_both (member t rs) (t ∷ without t rs) (take (suc a) (t ∷ rs)) (λ ys. lru (suc a) ys t ≡ ys) (λ m. lru_front (suc a) t (without t rs)) (λ m. lru_front (suc a) t (take a rs))

pub lru_keeps : Keeps lru
lru_keeps = record {
  grows = hit_grows (λ rs t. t ∷ without t rs) lru_hit;
  few = hit_few (λ rs t. t ∷ without t rs) lru_hit;
  distinct = hit_distinct (λ rs t. t ∷ without t rs) lru_hit;
  width = hit_width (λ rs t. t ∷ without t rs) lru_hit;
  kept = hit_kept (λ rs t. t ∷ without t rs) lru_hit;
  known = hit_known (λ rs t. t ∷ without t rs) lru_hit;
  again = lru_again;
}

-- what the first n residents do beside all of them
pub record Narrows (P : ListPolicy) (keeps : Bool) : Type 0 where
  pub miss : (n w t : ℕ) (rs : List ℕ) → n ≤ w → member t rs ≡ false → P n (take n rs) t ≡ take n (P w rs t)
  pub shallow : (n w t : ℕ) (rs : List ℕ) → member t rs ≡ true → place t rs ≤ n → P n (take n rs) t ≡ take n (P w rs t)
  pub deep_kept : (n w t : ℕ) (rs : List ℕ) → 1 ≤ n → member t rs ≡ true → n < place t rs → keeps ≡ true → P n (take n rs) t ≡ take n (P w rs t)
  pub deep_left : (n w t : ℕ) (rs : List ℕ) → 1 ≤ n → member t rs ≡ true → n < place t rs → keeps ≡ false → P n (take n rs) t ≢ take n (P w rs t)

module _ (onHit : List ℕ → ℕ → List ℕ) (n w t : ℕ) (rs : List ℕ) where
  on_hit : member t rs ≡ true → by_hit onHit w rs t ≡ onHit rs t
  on_hit m = cond-true (member t rs) (onHit rs t) (take w (t ∷ rs)) m

  on_miss : member t (take n rs) ≡ false → by_hit onHit n (take n rs) t ≡ take n (t ∷ rs)
  on_miss m = cond-false (member t (take n rs)) (onHit (take n rs) t) (take n (t ∷ take n rs)) m ∙ take_front n t rs

  both_miss : n ≤ w → member t rs ≡ false → by_hit onHit n (take n rs) t ≡ take n (by_hit onHit w rs t)
  both_miss l m =
      on_miss (member_take_absent t n rs m)
      ∙ sym (ap (take n) (cond-false (member t rs) (onHit rs t) (take w (t ∷ rs)) m) ∙ take-take n w (t ∷ rs) l)

fifo_deep : (n w t : ℕ) (rs : List ℕ) → 1 ≤ n → member t rs ≡ true → n < place t rs → fifo n (take n rs) t ≢ take n (fifo w rs t)
fifo_deep zero w t rs l m d e = omega arith
fifo_deep (suc n) w t [] l m d e = true≢false (sym m)
fifo_deep (suc n) w t (x ∷ rs) l m d e =
    let beyond = member_take_beyond t (suc n) (x ∷ rs) d in
    let same : t ∷ take n (x ∷ rs) ≡ x ∷ take n rs = sym (on_miss (λ rs t. rs) (suc n) w t (x ∷ rs) beyond) ∙ e ∙ ap (take (suc n)) (on_hit (λ rs t. rs) (suc n) w t (x ∷ rs) m) in
    let head : t ≡ x = cc in
    omega (arith, place_here t x rs (eq-eqb t x head))

pub fifo_narrows : Narrows fifo false
fifo_narrows = record {
  miss = both_miss (λ rs t. rs);
  shallow = λ n w t rs m p. on_hit (λ rs t. rs) n n t (take n rs) (member_take_within t n rs m p) ∙ sym (ap (take n) (on_hit (λ rs t. rs) n w t rs m));
  deep_kept = λ n w t rs l m d k. absurd (true≢false (sym k));
  deep_left = λ n w t rs l m d k. fifo_deep n w t rs l m d;
}

lru_shallow : (n w t : ℕ) (rs : List ℕ) → member t rs ≡ true → place t rs ≤ n → lru n (take n rs) t ≡ take n (lru w rs t)
lru_shallow zero w t rs m p = absurd (omega (arith, place_pos t rs m))
lru_shallow (suc n) w t rs m p =
    on_hit (λ rs t. t ∷ without t rs) (suc n) (suc n) t (take (suc n) rs) (member_take_within t (suc n) rs m p)
    ∙ ap (λ ys. t ∷ ys) (take_without_within t n rs m p)
    ∙ sym (ap (take (suc n)) (on_hit (λ rs t. t ∷ without t rs) (suc n) w t rs m))

lru_deep : (n w t : ℕ) (rs : List ℕ) → 1 ≤ n → member t rs ≡ true → n < place t rs → lru n (take n rs) t ≡ take n (lru w rs t)
lru_deep zero w t rs l m d = absurd (omega arith)
lru_deep (suc n) w t rs l m d =
    on_miss (λ rs t. t ∷ without t rs) (suc n) w t rs (member_take_beyond t (suc n) rs d)
    ∙ ap (λ ys. t ∷ ys) (sym (take_without_beyond t n rs (omega arith)))
    ∙ sym (ap (take (suc n)) (on_hit (λ rs t. t ∷ without t rs) (suc n) w t rs m))

pub lru_narrows : Narrows lru true
lru_narrows = record {
  miss = both_miss (λ rs t. t ∷ without t rs);
  shallow = lru_shallow;
  deep_kept = λ n w t rs l m d k. lru_deep n w t rs l m d;
  deep_left = λ n w t rs l m d k e. true≢false k;
}
