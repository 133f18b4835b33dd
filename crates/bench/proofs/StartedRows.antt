-- The rows that a start writes.
use Rattle.std.proofs.Common.{◌≡◌, ℕ, ◌-◌, ◌<◌, Bool, true, false, List, [], ◌∷◌, length, take, drop, set, replicate, sym, ap, ◌∙◌, not-suc-le-zero, arith}
use borrow.Rule.Slice.PartMut.{put_mid}
use Rattle.std.proofs.lemmas.List.{take_rest}
use Rattle.std.proofs.lemmas.Bool.{cond-true, cond-false}
use Rattle.policy.specs.declared.three.Member.{Member}
use Rattle.bench.specs.Started.{new_row}
use Rattle.policy.specs.Suite.{Suite, meaning}
use Rattle.bench.proofs.RowWords.{row_replaced}

module _ (s : Suite) (follows : Bool) (k : Member) where
  pub row_follows : (row zeros : List ℕ) → 0 < length row → follows ≡ true → zeros ≡ replicate (length row) 0 → set zeros 0 1 ≡ new_row s follows k (length row - 1)
  row_follows [] zeros some h e = absurd (not-suc-le-zero some)
  row_follows (w ∷ ws) zeros some h e =
      let n : length (w ∷ ws) - 1 ≡ length ws = omega arith in
      ap (λ zs. set zs 0 1) e ∙ sym (cond-true follows (1 ∷ replicate (length ws) 0) (0 ∷ (meaning s k).start (length ws)) h) ∙ ap (new_row s follows k) (sym n)

  pub row_leads : (row started : List ℕ) → 0 < length row → follows ≡ false → started ≡ (meaning s k).start (length (take (length (set row 0 0) - 1) (drop 1 (set row 0 0))))
      → put_mid 1 (length (set row 0 0) - 1) (set row 0 0) started ≡ new_row s follows k (length row - 1)
  row_leads [] started some h e = absurd (not-suc-le-zero some)
  row_leads (w ∷ ws) started some h e =
      let n : length (w ∷ ws) - 1 ≡ length ws = omega arith in
      row_replaced (0 ∷ ws) started some ∙ ap (λ zs. 0 ∷ zs) (e ∙ ap (λ zs. (meaning s k).start (length zs)) (take_rest (0 ∷ ws) 1))
      ∙ sym (cond-false follows (1 ∷ replicate (length ws) 0) (0 ∷ (meaning s k).start (length ws)) h) ∙ ap (new_row s follows k) (sym n)
