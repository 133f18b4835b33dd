-- The four ways in which a follower goes, and what a sweep leaves of the ways.
use Rattle.std.proofs.Common.{◌≡◌, ℕ, ◌<◌, ◌≤◌, Bool, true, false, cond, leb, List, [], ◌∷◌, Some, None, Option, sym, refl, ap, ◌∙◌, subst}
use Rattle.std.specs.List.{AllByRecursion}
use Rattle.std.proofs.lemmas.Bool.{leb-true, leb-false}
use Rattle.policy.specs.Policy.{Meaning}
use Rattle.policy.specs.Nesting.{Nest}
use Rattle.bench.specs.Rows.{Slot, Lead, Stepped, stay, leave, step, step_follower, touch_leader, sweep, leads}

-- how a follower goes, by what its leader did
pub data Goes (m : Meaning) (e : Nest) (x : Slot) (t : ℕ) (l : Lead) : Type 0 where
  misses : l.hit ≡ false → step_follower m e x t (Some l) ≡ stay x false (Some l) → Goes m e x t l
  hits : l.hit ≡ true → l.place ≤ x.ways → step_follower m e x t (Some l) ≡ stay x true (Some l) → Goes m e x t l
  nests : l.hit ≡ true → x.ways < l.place → e.keeps ≡ true → step_follower m e x t (Some l) ≡ stay x false (Some l) → Goes m e x t l
  leaves : l.hit ≡ true → x.ways < l.place → e.keeps ≡ false → step_follower m e x t (Some l) ≡ leave m e x t l → Goes m e x t l

module _ (m : Meaning) (e : Nest) (x : Slot) (t : ℕ) (l : Lead) where
  by : Bool → Bool → Bool → Stepped
  by h n k = cond h (cond n (stay x true (Some l)) (cond k (stay x false (Some l)) (leave m e x t l))) (stay x false (Some l))

  pub goes : Goes m e x t l
  goes = go l.hit refl (leb l.place x.ways) refl e.keeps refl
    where
      go : (h : Bool) → l.hit ≡ h → (n : Bool) → leb l.place x.ways ≡ n → (k : Bool) → e.keeps ≡ k → Goes m e x t l
      go false eh n en k ek = misses eh (rw eh refl)
      go true eh true en k ek = hits eh (leb-true l.place x.ways en) (rw (eh, en) refl)
      go true eh false en true ek = nests eh (leb-false l.place x.ways en) ek (rw (eh, en, ek) refl)
      go true eh false en false ek = leaves eh (leb-false l.place x.ways en) ek (rw (eh, en, ek) refl)

-- a step of a leader and of a follower
pub step-leads : (m : Meaning) (e : Nest) (x : Slot) (t : ℕ) (l : Option Lead) → leads x ≡ true → step m e x t l ≡ touch_leader m x t
step-leads m e x t l h = ap (λ b. cond b (touch_leader m x t) (step_follower m e x t l)) h

pub step_follows : (m : Meaning) (e : Nest) (x : Slot) (t : ℕ) (l : Option Lead) → leads x ≡ false → step m e x t l ≡ step_follower m e x t l
step_follows m e x t l h = ap (λ b. cond b (touch_leader m x t) (step_follower m e x t l)) h

follower_ways : (m : Meaning) (e : Nest) (x : Slot) (t : ℕ) (l : Option Lead) → (step_follower m e x t l).slot.ways ≡ x.ways
follower_ways m e x t None = refl
follower_ways m e x t (Some l) = go (goes m e x t l)
  where
    go : Goes m e x t l → (step_follower m e x t (Some l)).slot.ways ≡ x.ways
    go (misses h s) = ap (λ r. r.slot.ways) s
    go (hits h p s) = ap (λ r. r.slot.ways) s
    go (nests h p k s) = ap (λ r. r.slot.ways) s
    go (leaves h p k s) = ap (λ r. r.slot.ways) s

pub step_ways : (m : Meaning) (e : Nest) (x : Slot) (t : ℕ) (l : Option Lead) → (step m e x t l).slot.ways ≡ x.ways
step_ways m e x t l = go (leads x) refl
  where
    go : (b : Bool) → leads x ≡ b → (step m e x t l).slot.ways ≡ x.ways
    go true h = ap (λ r. r.slot.ways) (step-leads m e x t l h)
    go false h = ap (λ r. r.slot.ways) (step_follows m e x t l h) ∙ follower_ways m e x t l

-- the ways stay, so they rise as before
pub rising_kept : (m : Meaning) (e : Nest) (t n : ℕ) (xs : List Slot) → AllByRecursion (λ y. n ≤ y.ways) xs → AllByRecursion (λ y. n ≤ y.ways) (sweep (step m e) xs t).slots
rising_kept m e t n [] h = tt
rising_kept m e t n (x ∷ xs) h = (subst (λ w. n ≤ w) (sym (step_ways m e x t (sweep (step m e) xs t).lead)) h.0, rising_kept m e t n xs h.1)
