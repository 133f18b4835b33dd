-- The sweep of all rows does to the rows of each nesting policy what the sweep of those rows alone does.
use Rattle.std.proofs.Common.{◌≡◌, ℕ, Bool, true, false, List, [], ◌∷◌, None, Option, sym, refl, ap, ◌∙◌}
use Rattle.std.proofs.lemmas.Bool.{cond-true, cond-false, true≢false}
use Rattle.policy.specs.declared.three.Member.{Member}
use Rattle.policy.specs.declared.three.Member.TheVariants.{First, Second, Further}
use Rattle.policy.specs.Suite.{Suite, meaning, nesting, nest, same}
use Rattle.bench.specs.Rows.{Lead, step, step_alone, sweep}
use Rattle.bench.specs.Mixed.{Owned, Leads, lead_of, with_lead, own_step, sweep_all, rows_of}

pub same_is : (j k : Member) → same j k ≡ true → j ≡ k
same_is First First e = refl
same_is First Second e = absurd (true≢false (sym e))
same_is First Further e = absurd (true≢false (sym e))
same_is Second First e = absurd (true≢false (sym e))
same_is Second Second e = refl
same_is Second Further e = absurd (true≢false (sym e))
same_is Further First e = absurd (true≢false (sym e))
same_is Further Second e = absurd (true≢false (sym e))
same_is Further Further e = refl

lead_own : (l : Leads) (k : Member) (x : Option Lead) → nesting k ≡ true → lead_of (with_lead l k x) k ≡ x
lead_own l First x n = refl
lead_own l Second x n = refl
lead_own l Further x n = absurd (true≢false (sym n))

lead_other : (l : Leads) (j k : Member) (x : Option Lead) → same k j ≡ false → lead_of (with_lead l j x) k ≡ lead_of l k
lead_other l First First x n = absurd (true≢false n)
lead_other l First Second x n = refl
lead_other l First Further x n = refl
lead_other l Second First x n = refl
lead_other l Second Second x n = absurd (true≢false n)
lead_other l Second Further x n = refl
lead_other l Further First x n = refl
lead_other l Further Second x n = refl
lead_other l Further Further x n = refl

module _ (s : Suite) (t : ℕ) (k : Member) (n : nesting k ≡ true) where
  -- what the sweep of all rows hands down, and makes of the policy's own rows
  pub record Agrees (xs : List Owned) : Type 0 where
    pub lead : lead_of (sweep_all (own_step s) xs t).leads k ≡ (sweep (step (meaning s k) (nest s k)) (rows_of k xs) t).lead
    pub rows : rows_of k (sweep_all (own_step s) xs t).rows ≡ (sweep (step (meaning s k) (nest s k)) (rows_of k xs) t).slots

  -- the step of a row of the policy
  pub own : (x : Owned) (l : Leads) → same k x.member ≡ true → own_step s x t l ≡ step (meaning s k) (nest s k) x.slot t (lead_of l k)
  own x l e =
      let is : x.member ≡ k = sym (same_is k x.member e) in
      let nests : nesting x.member ≡ true = ap nesting is ∙ n in
      cond-true (nesting x.member) (step (meaning s x.member) (nest s x.member) x.slot t (lead_of l x.member)) (step_alone (meaning s x.member) x.slot t None) nests
      ∙ ap (λ j. step (meaning s j) (nest s j) x.slot t (lead_of l j)) is

  pub agrees : (xs : List Owned) → Agrees xs
  agrees [] = record { lead = go k; rows = refl }
    where
      go : (j : Member) → lead_of (record { first = None; second = None }) j ≡ None
      go First = refl
      go Second = refl
      go Further = refl
  agrees (x ∷ xs) = go (same k x.member) refl (agrees xs)
    where
      go : (b : Bool) → same k x.member ≡ b → Agrees xs → Agrees (x ∷ xs)
      go true e A =
          let w = sweep_all (own_step s) xs t in
          let f = step (meaning s k) (nest s k) in
          let mine : rows_of k (x ∷ xs) ≡ x.slot ∷ rows_of k xs = cond-true (same k x.member) (x.slot ∷ rows_of k xs) (rows_of k xs) e in
          let r : own_step s x t w.leads ≡ f x.slot t (sweep f (rows_of k xs) t).lead = own x w.leads e ∙ ap (λ l. f x.slot t l) A.lead in
          let is : x.member ≡ k = sym (same_is k x.member e) in
          record {
            lead =
                ap (λ j. lead_of (with_lead w.leads j (own_step s x t w.leads).lead) k) is
                ∙ lead_own w.leads k (own_step s x t w.leads).lead n
                ∙ ap (λ r. r.lead) r
                ∙ sym (ap (λ ys. (sweep f ys t).lead) mine);
            rows =
                cond-true (same k x.member) ((own_step s x t w.leads).slot ∷ rows_of k w.rows) (rows_of k w.rows) e
                ∙ ap (λ r. r.slot ∷ rows_of k w.rows) r
                ∙ ap (λ ys. (f x.slot t (sweep f (rows_of k xs) t).lead).slot ∷ ys) A.rows
                ∙ sym (ap (λ ys. (sweep f ys t).slots) mine);
          }
      go false e A =
          let w = sweep_all (own_step s) xs t in
          let f = step (meaning s k) (nest s k) in
          let others : rows_of k (x ∷ xs) ≡ rows_of k xs = cond-false (same k x.member) (x.slot ∷ rows_of k xs) (rows_of k xs) e in
          record {
            lead = lead_other w.leads x.member k (own_step s x t w.leads).lead e ∙ A.lead ∙ sym (ap (λ ys. (sweep f ys t).lead) others);
            rows = cond-false (same k x.member) ((own_step s x t w.leads).slot ∷ rows_of k w.rows) (rows_of k w.rows) e ∙ A.rows ∙ sym (ap (λ ys. (sweep f ys t).slots) others);
          }
