-- The words of a row after its own words are rewritten.
use Rattle.std.proofs.Common.{◌≡◌, ℕ, suc, ◌-◌, ◌<◌, List, [], ◌∷◌, ◌++◌, length, get_or, set, ap, ◌∙◌, not-suc-le-zero, arith}
use borrow.Rule.Slice.PartMut.{put_mid}
use Rattle.std.proofs.lemmas.List.{drop_all, append-nil}

-- all elements but the first are replaced
pub first_kept : {X : Type 0} (d : X) (xs new : List X) → 0 < length xs → put_mid 1 (length xs - 1) xs new ≡ get_or xs 0 d ∷ new
first_kept d [] new h = absurd (not-suc-le-zero h)
first_kept d (x ∷ xs) new h = ap (λ zs. x ∷ (new ++ zs)) (drop_all (suc (length xs) - 1) xs (omega arith)) ∙ ap (λ zs. x ∷ zs) (append-nil new)

-- all words but the lead word
pub row_replaced : (ws row : List ℕ) → 0 < length ws → put_mid 1 (length ws - 1) ws row ≡ get_or ws 0 0 ∷ row
row_replaced = first_kept 0

-- and a new lead word
pub row_left : (ws row : List ℕ) → 0 < length ws → put_mid 1 (length (set ws 0 0) - 1) (set ws 0 0) row ≡ 0 ∷ row
row_left [] row h = absurd (not-suc-le-zero h)
row_left (w ∷ ws) row h = row_replaced (0 ∷ ws) row (omega arith)
