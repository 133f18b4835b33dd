-- Words that move up by one, and a tag that is put in front of them.
use Rattle.std.specs.Prelude.{◌≡◌, ℕ, suc, ◌+◌, ◌-◌, ◌<◌, ◌≤◌, List, [], ◌∷◌, ◌++◌, length, take, drop, slice_index, slice_set}
use Rattle.std.proofs.Common.{sym, ap, ◌∙◌, not-suc-le-zero, arith}
use borrow.Rule.Slice.PartMut.{put_mid}
use Rattle.std.proofs.lemmas.List.{drop_more, take_more_set, drop-set-lt, append_assoc, take_all, take_at, take-take, length-take-le}

-- one word more has moved: the carried one is stored, and the one that it replaces is carried
pub shift_more : (ws : List ℕ) (i carried : ℕ) → i < length ws
    → take i ws ++ (carried ∷ drop i ws) ≡ take (i + 1) (slice_set ws i carried) ++ (slice_index ws i ∷ drop (i + 1) (slice_set ws i carried))
shift_more ws i carried h =
    let low : i < i + 1 = omega arith in
    let front : take (i + 1) (slice_set ws i carried) ≡ take i ws ++ (carried ∷ []) = take_more_set ws i carried h in
    let back : drop (i + 1) (slice_set ws i carried) ≡ drop (i + 1) ws = drop-set-lt (i + 1) ws i carried low in
    ap (λ zs. take i ws ++ (carried ∷ zs)) (drop_more ws i 0 h)
    ∙ sym (append_assoc (take i ws) (carried ∷ []) (slice_index ws i ∷ drop (i + 1) ws))
    ∙ sym (ap (λ zs. zs ++ (slice_index ws i ∷ drop (i + 1) (slice_set ws i carried))) front ∙ ap (λ zs. (take i ws ++ (carried ∷ [])) ++ (slice_index ws i ∷ zs)) back)

-- all words have moved
pub shift_all : (ws vs : List ℕ) (tag carried n : ℕ) → length ws ≡ length vs → length vs ≤ n → tag ∷ vs ≡ take n ws ++ (carried ∷ drop n ws) → ws ≡ take (length vs) (tag ∷ vs)
shift_all ws vs tag carried n e h p =
    let long : length ws ≤ n = omega arith in
    sym (ap (take (length vs)) p ∙ ap (λ zs. take (length vs) (zs ++ (carried ∷ drop n ws))) (take_all n ws long) ∙ take_at ws (carried ∷ drop n ws) (length vs) e)

-- the first k words after a tag is put in front need no more than the first k words
pub take_front : (k tag : ℕ) (ws : List ℕ) → take k (tag ∷ take k ws) ≡ take k (tag ∷ ws)
take_front k tag ws = take-take k (suc k) (tag ∷ ws) (omega arith)

pub promoted : (r ys : List ℕ) (last count tag : ℕ) → last < length r → ys ≡ take (length (take (last + 1 - 1) (drop 1 r))) (tag ∷ take (last + 1 - 1) (drop 1 r))
    → slice_set (put_mid 1 (last + 1 - 1) r ys) 0 count ≡ count ∷ (take last (tag ∷ drop 1 r) ++ drop last (drop 1 r))
promoted [] ys last count tag h e = absurd (not-suc-le-zero h)
promoted (x ∷ ws) ys last count tag h e =
    let same : last + 1 - 1 ≡ last = omega arith in
    let room : last ≤ length ws = omega arith in
    let e' : ys ≡ take (length (take last ws)) (tag ∷ take last ws) = rw same at e in
    let front : ys ≡ take last (tag ∷ ws) = e' ∙ ap (λ n. take n (tag ∷ take last ws)) (length-take-le last ws room) ∙ take_front last tag ws in
    ap (λ zs. count ∷ (zs ++ drop (last + 1 - 1) ws)) front ∙ ap (λ n. count ∷ (take last (tag ∷ ws) ++ drop n ws)) same
