-- The sweep of one set keeps the rows of all policies beside their standalone rows, hits as they do, and compares no more.
use Rattle.std.proofs.Common.{◌≡◌, ℕ, ◌+◌, ◌^◌, ◌<◌, ◌≤◌, Bool, true, false, cond, List, [], ◌∷◌, length, Some, None, Option, sym, refl, ap, ◌∙◌, subst, arith}
use Rattle.std.proofs.lemmas.Bool.{cond-false, true≢false}
use Rattle.policy.specs.Policy.{Meaning}
use Rattle.policy.specs.Nesting.{Nest}
use Rattle.policy.specs.declared.three.Member.{Member}
use Rattle.policy.specs.declared.three.Member.TheVariants.{First, Second, Further}
use Rattle.policy.specs.Suite.{Suite, Lawful, meaning, nest, nesting, same}
use Rattle.bench.specs.Rows.{Slot, Lead, Stepped, leads, step, step_alone, step_follower, sweep}
use Rattle.bench.specs.Mixed.{Leads, Owned, lead_of, own_step, rows_of, sweep_all}
use Rattle.bench.specs.Words.{words_of}
use Rattle.bench.specs.Beside.{AllBeside, Beside}
use Rattle.bench.specs.Abreast.{Abreast, AllAbreast, compared_of, hits_of, rows_after}
use Rattle.bench.proofs.Steps.{Goes, misses, hits, nests, leaves, goes, step-leads, step_follows, step_ways}
use Rattle.bench.proofs.SweepSet.{step_kept}
use Rattle.bench.proofs.Restrict.{agrees, own, same_is}

same_self : (k : Member) → same k k ≡ true
same_self First = refl
same_self Second = refl
same_self Further = refl

-- the standalone rows of one policy
abbrev standalone_of : Member → List Owned → List (List ℕ) → List (List ℕ)
standalone_of k [] qs = []
standalone_of k (x ∷ xs) [] = []
standalone_of k (x ∷ xs) (q ∷ qs) = cond (same k x.member) (q ∷ standalone_of k xs qs) (standalone_of k xs qs)

-- the rows of a nesting policy stand beside them
rows_beside : (s : Suite) (k : Member) → nesting k ≡ true → (xs : List Owned) (qs : List (List ℕ)) → AllAbreast s xs qs → AllBeside (meaning s k) (rows_of k xs) (standalone_of k xs qs)
rows_beside s k n [] [] b = tt
rows_beside s k n [] (q ∷ qs) b = absurd b
rows_beside s k n (x ∷ xs) [] b = absurd b
rows_beside s k n (x ∷ xs) (q ∷ qs) b = go (same k x.member) refl (rows_beside s k n xs qs b.1)
  where
    go : (c : Bool) → same k x.member ≡ c → AllBeside (meaning s k) (rows_of k xs) (standalone_of k xs qs) → AllBeside (meaning s k) (rows_of k (x ∷ xs)) (standalone_of k (x ∷ xs) (q ∷ qs))
    go true e bs =
        let is : x.member ≡ k = sym (same_is k x.member e) in
        rw e (subst (λ j. Beside (meaning s j) x.slot (rows_of j xs) q) is (b.0.nested (ap nesting is ∙ n)), bs)
    go false e bs = rw e bs

-- what the sweep makes of the row before xs
abbrev pub stepped : Suite → ℕ → Owned → List Owned → Stepped
stepped s t x xs = own_step s x t (sweep_all (own_step s) xs t).leads

-- a row that has its words: a lead word, a head word, and a word a way
abbrev pub Whole : Slot → Type 0
Whole x = length (words_of x) ≡ x.ways + 2

-- the step of a row of the further policy
own_alone : (s : Suite) (t : ℕ) (x : Owned) (l : Leads) → nesting x.member ≡ false → own_step s x t l ≡ step_alone (meaning s x.member) x.slot t None
own_alone s t x l n = cond-false (nesting x.member) (step (meaning s x.member) (nest s x.member) x.slot t (lead_of l x.member)) (step_alone (meaning s x.member) x.slot t None) n

-- the ways of a row stay
pub own_ways : (s : Suite) (t : ℕ) (x : Owned) (l : Leads) → (own_step s x t l).slot.ways ≡ x.slot.ways
own_ways s t x l = go (nesting x.member) refl
  where
    go : (c : Bool) → nesting x.member ≡ c → (own_step s x t l).slot.ways ≡ x.slot.ways
    go true n = ap (λ r. r.slot.ways) (own s t x.member n x l (same_self x.member)) ∙ step_ways (meaning s x.member) (nest s x.member) x.slot t (lead_of l x.member)
    go false n = ap (λ r. r.slot.ways) (own_alone s t x l n)

-- a row that follows after its step is as it was
follower_stays : (m : Meaning) (e : Nest) (x : Slot) (t : ℕ) (l : Option Lead) → leads (step_follower m e x t l).slot ≡ false → (step_follower m e x t l).slot ≡ x
follower_stays m e x t None f = refl
follower_stays m e x t (Some l) f = go (goes m e x t l)
  where
    go : Goes m e x t l → (step_follower m e x t (Some l)).slot ≡ x
    go (misses h s) = ap (λ r. r.slot) s
    go (hits h p s) = ap (λ r. r.slot) s
    go (nests h p k s) = ap (λ r. r.slot) s
    go (leaves h p k s) = absurd (true≢false (sym (ap (λ r. leads r.slot) s) ∙ f))

step_stays : (m : Meaning) (e : Nest) (x : Slot) (t : ℕ) (l : Option Lead) → leads (step m e x t l).slot ≡ false → (step m e x t l).slot ≡ x
step_stays m e x t l f = go (leads x) refl
  where
    go : (b : Bool) → leads x ≡ b → (step m e x t l).slot ≡ x
    go true h = absurd (true≢false (sym h ∙ sym (ap (λ r. leads r.slot) (step-leads m e x t l h)) ∙ f))
    go false h =
        let follows = step_follows m e x t l h in
        ap (λ r. r.slot) follows ∙ follower_stays m e x t l (sym (ap (λ r. leads r.slot) follows) ∙ f)

module _ (s : Suite) (L : Lawful s) (t : ℕ) (small : t < 2 ^ 32) where
  -- a row after its step, beside its touched standalone row
  record RowKept (x : Owned) (xs : List Owned) (q : List ℕ) (r : Stepped) : Type 0 where
    hit : r.hit ≡ ((meaning s x.member).touch q t).hit
    after : Abreast s (record { member = x.member; slot = r.slot }) (sweep_all (own_step s) xs t).rows ((meaning s x.member).touch q t).row
    few : r.comparisons ≤ ((meaning s x.member).touch q t).comparisons

  module _ (x : Owned) (xs : List Owned) (q : List ℕ) (qs : List (List ℕ)) (b : Abreast s x xs q) (bs : AllAbreast s xs qs) where
    nested_kept : nesting x.member ≡ true → RowKept x xs q (stepped s t x xs)
    nested_kept n =
        let k = x.member in
        let m = meaning s k in
        let e = nest s k in
        let A = agrees s t k n xs in
        let K = step_kept m (L.laws k) e (L.nests k n) t small x.slot (rows_of k xs) q (standalone_of k xs qs) (b.nested n) (rows_beside s k n xs qs bs) in
        let r : stepped s t x xs ≡ step m e x.slot t (sweep (step m e) (rows_of k xs) t).lead =
        own s t k n x (sweep_all (own_step s) xs t).leads (same_self k) ∙ ap (λ l. step m e x.slot t l) A.lead in
        subst (RowKept x xs q) (sym r) (record {
          hit = K.hit;
          after = record {
            nested = λ _. subst (λ ys. Beside m (step m e x.slot t (sweep (step m e) (rows_of k xs) t).lead).slot ys (m.touch q t).row) (sym A.rows) K.beside;
            alone = λ f. absurd (true≢false (sym n ∙ f));
          };
          few = K.few;
        })

    alone_kept : nesting x.member ≡ false → RowKept x xs q (stepped s t x xs)
    alone_kept n =
        let m = meaning s x.member in
        let E = b.alone n in
        subst (RowKept x xs q) (sym (own_alone s t x (sweep_all (own_step s) xs t).leads n)) (record {
          hit = ap (λ r. (m.touch r t).hit) E.same;
          after = record {
            nested = λ f. absurd (true≢false (sym f ∙ n));
            alone = λ _. record {
              takes = E.takes;
              made = (L.laws x.member).touched x.slot.ways q t E.takes E.made small;
              same = ap (λ r. (m.touch r t).row) E.same;
            };
          };
          few = omega (arith, ap (λ r. (m.touch r t).comparisons) E.same);
        })

    row_kept : RowKept x xs q (stepped s t x xs)
    row_kept = go (nesting x.member) refl
      where
        go : (c : Bool) → nesting x.member ≡ c → RowKept x xs q (stepped s t x xs)
        go true n = nested_kept n
        go false n = alone_kept n

    -- a row that leads is one of its policy, and a follower that stays is as it was
    pub row_length : Whole x.slot → Whole (stepped s t x xs).slot
    row_length long = go (nesting x.member) refl (leads (stepped s t x xs).slot) refl
      where
        made : (r : List ℕ) → (meaning s x.member).takes (stepped s t x xs).slot.ways ≡ true → (meaning s x.member).Row (stepped s t x xs).slot.ways r → (stepped s t x xs).slot.row ≡ r → Whole (stepped s t x xs).slot
        made r takes R same = omega (arith, ap length same, (L.laws x.member).words (stepped s t x xs).slot.ways r takes R)

        go : (c : Bool) → nesting x.member ≡ c → (d : Bool) → leads (stepped s t x xs).slot ≡ d → Whole (stepped s t x xs).slot
        go false n d l = let E = row_kept.after.alone n in made _ E.takes E.made E.same
        go true n true l = let B = row_kept.after.nested n in made _ B.takes (B.leading l).made refl
        go true n false l =
            let k = x.member in
            let is = own s t k n x (sweep_all (own_step s) xs t).leads (same_self k) in
            let stays : (step (meaning s k) (nest s k) x.slot t (lead_of (sweep_all (own_step s) xs t).leads k)).slot ≡ x.slot =
            step_stays (meaning s k) (nest s k) x.slot t (lead_of (sweep_all (own_step s) xs t).leads k) (sym (ap (λ r. leads r.slot) is) ∙ l) in
            subst Whole (sym (ap (λ r. r.slot) is ∙ stays)) long

  pub abreast_hits : (xs : List Owned) (qs : List (List ℕ)) → AllAbreast s xs qs → (sweep_all (own_step s) xs t).hits ≡ hits_of s t xs qs
  abreast_hits [] [] b = refl
  abreast_hits [] (q ∷ qs) b = absurd b
  abreast_hits (x ∷ xs) [] b = absurd b
  abreast_hits (x ∷ xs) (q ∷ qs) b =
      ap (λ h. h ∷ (sweep_all (own_step s) xs t).hits) (row_kept x xs q qs b.0 b.1).hit
      ∙ ap (λ hs. ((meaning s x.member).touch q t).hit ∷ hs) (abreast_hits xs qs b.1)

  pub abreast_kept : (xs : List Owned) (qs : List (List ℕ)) → AllAbreast s xs qs → AllAbreast s (sweep_all (own_step s) xs t).rows (rows_after s t xs qs)
  abreast_kept [] [] b = tt
  abreast_kept [] (q ∷ qs) b = absurd b
  abreast_kept (x ∷ xs) [] b = absurd b
  abreast_kept (x ∷ xs) (q ∷ qs) b = ((row_kept x xs q qs b.0 b.1).after, abreast_kept xs qs b.1)

  pub abreast_few : (xs : List Owned) (qs : List (List ℕ)) → AllAbreast s xs qs → (sweep_all (own_step s) xs t).comparisons ≤ compared_of s t xs qs
  abreast_few [] [] b = omega arith
  abreast_few [] (q ∷ qs) b = absurd b
  abreast_few (x ∷ xs) [] b = absurd b
  abreast_few (x ∷ xs) (q ∷ qs) b = omega (arith, (row_kept x xs q qs b.0 b.1).few, abreast_few xs qs b.1)
