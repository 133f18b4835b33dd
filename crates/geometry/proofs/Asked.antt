-- The first "no" among questions, one after the other and list after list.
use Rattle.std.proofs.Common.{◌≡◌, ℕ, Bool, true, false, cond, List, [], ◌∷◌, ◌++◌, Some, None, sym, refl, ap, ◌∙◌, arith}
use Rattle.geometry.specs.Refusal.{Question, ask, first_no}

-- a question that passes, and one that does not
pub passes : (n : ℕ) (b : Bool) (qs : List Question) → b ≡ true → first_no (ask n b ∷ qs) ≡ first_no qs
passes n b qs e = ap (λ t. cond t (first_no qs) (Some n)) e

pub stops : (n : ℕ) (b : Bool) (qs : List Question) → b ≡ false → first_no (ask n b ∷ qs) ≡ Some n
stops n b qs e = ap (λ t. cond t (first_no qs) (Some n)) e

-- after questions that all pass the next ones count, and else only they
pub after_none : (qs rs : List Question) → first_no qs ≡ None → first_no (qs ++ rs) ≡ first_no rs
after_none [] rs e = refl
after_none (q ∷ qs) rs e = go q.passes refl (after_none qs rs)
  where
    go : (b : Bool) → q.passes ≡ b → (first_no qs ≡ None → first_no (qs ++ rs) ≡ first_no rs) → first_no (q ∷ (qs ++ rs)) ≡ first_no rs
    go true p ih = passes q.number q.passes (qs ++ rs) p ∙ ih (sym (passes q.number q.passes qs p) ∙ e)
    go false p ih = let z : ◌≡◌ {A = ℕ} 0 1 = cc (stops q.number q.passes qs p) in absurd (omega arith)

pub after_some : (qs rs : List Question) (n : ℕ) → first_no qs ≡ Some n → first_no (qs ++ rs) ≡ Some n
after_some [] rs n e = let z : ◌≡◌ {A = ℕ} 0 1 = cc in absurd (omega arith)
after_some (q ∷ qs) rs n e = go q.passes refl (after_some qs rs n)
  where
    go : (b : Bool) → q.passes ≡ b → (first_no qs ≡ Some n → first_no (qs ++ rs) ≡ Some n) → first_no (q ∷ (qs ++ rs)) ≡ Some n
    go true p ih = passes q.number q.passes (qs ++ rs) p ∙ ih (sym (passes q.number q.passes qs p) ∙ e)
    go false p ih = stops q.number q.passes (qs ++ rs) p ∙ sym (stops q.number q.passes qs p) ∙ e
