-- The residents of a row of FIFO or LRU among its words.
use Rattle.std.specs.Prelude.{◌≡◌, ℕ, zero, suc, ◌+◌, ◌-◌, ◌<◌, ◌≤◌, min, false, List, [], ◌∷◌, ◌++◌, length, take, drop, slice_index, refl}
use Rattle.std.proofs.Common.{sym, ap, ◌∙◌, ⊎_elim, not-suc-le-zero, arith}
use Rattle.std.proofs.lemmas.List.{length-take, take-take, take_all, length-take-le}
use Rattle.std.proofs.lemmas.Bool.{cases_lt, cond-false}
use Rattle.policy.specs.Search.{member}
use Rattle.policy.specs.Stack.{residents_of, ways_of, relaid, fifo, touched_row}

-- as many words as were taken are the words that were taken
pub take_taken : (h : ℕ) (ws : List ℕ) → take (length (take h ws)) ws ≡ take h ws
take_taken zero ws = refl
take_taken (suc h) [] = refl
take_taken (suc h) (x ∷ ws) = ap (λ zs. x ∷ zs) (take_taken h ws)

pub drop_taken : (h : ℕ) (ws : List ℕ) → take h ws ++ drop (length (take h ws)) ws ≡ ws
drop_taken zero ws = refl
drop_taken (suc h) [] = refl
drop_taken (suc h) (x ∷ ws) = ap (λ zs. x ∷ zs) (drop_taken h ws)

pub counted : (r : List ℕ) (h : ℕ) → 0 < length r → h ≡ slice_index r 0 → min (length r - 1) h ≡ length (residents_of r)
counted [] h l e = absurd (not-suc-le-zero l)
counted (x ∷ ws) h l e = let n = length-take x ws in omega arith

pub count_room : (r : List ℕ) → 0 < length (residents_of r) → length (residents_of r) < length r
count_room [] l = l
count_room (x ∷ ws) l = let n = length-take x ws in omega arith

pub count_within : (r : List ℕ) → 0 < length r → length (residents_of r) < length r
count_within [] l = l
count_within (x ∷ ws) l = let n = length-take x ws in omega arith

-- a row without words has no residents, and stays so
pub residents_none : (r : List ℕ) → length r ≡ 0 → r ≡ residents_of r
residents_none [] e = refl
residents_none (x ∷ ws) e = absurd (omega arith)

pub touched_none : (P : ℕ → List ℕ → ℕ → List ℕ) (r : List ℕ) (t : ℕ) → length r ≡ 0 → r ≡ touched_row P r t
touched_none P [] t e = refl
touched_none P (x ∷ ws) t e = absurd (omega arith)

pub residents_part : (r : List ℕ) (n : ℕ) → n ≡ length (residents_of r) → take n (drop 1 r) ≡ residents_of r
residents_part [] n e = ap (λ k. take {A = ℕ} k []) e
residents_part (x ∷ ws) n e = ap (λ k. take k ws) e ∙ take_taken x ws

-- a tag in front of the residents, as far as there are ways
front_words : (w h t last : ℕ) (ws : List ℕ) → last ≡ min w (length (take h ws) + 1) → take w (t ∷ take h ws) ≡ take last (t ∷ ws)
front_words w h t last ws e =
    let n = length (take h ws) in
    let whole : t ∷ take h ws ≡ take (suc n) (t ∷ ws) = ap (λ zs. t ∷ zs) (sym (take_taken h ws)) in
    ⊎_elim (λ l. let m : last ≡ w = omega arith in ap (take w) whole ∙ take-take w (suc n) (t ∷ ws) (omega arith) ∙ ap (λ k. take k (t ∷ ws)) (sym m))
    (λ g. let m : last ≡ suc n = omega arith in take_all w (t ∷ take h ws) g ∙ whole ∙ ap (λ k. take k (t ∷ ws)) (sym m))
    (cases_lt w (suc n))

pub admitted : (r : List ℕ) (t last count : ℕ) → 0 < length r → count ≡ length (residents_of r) → member t (residents_of r) ≡ false → last ≡ min (ways_of (drop 1 r)) (count + 1)
    → last ∷ (take last (t ∷ drop 1 r) ++ drop last (drop 1 r)) ≡ touched_row fifo r t
admitted [] t last count l e n m = absurd (not-suc-le-zero l)
admitted (x ∷ ws) t last count l e n m =
    let m' : last ≡ min (ways_of ws) (length (take x ws) + 1) = omega arith in
    let same : take (ways_of ws) (t ∷ take x ws) ≡ take last (t ∷ ws) = front_words (ways_of ws) x t last ws m' in
    let room : last ≤ length (t ∷ ws) = omega arith in
    sym (ap (relaid ws) (cond-false (member t (take x ws)) (take x ws) (take (ways_of ws) (t ∷ take x ws)) n ∙ same)
    ∙ ap (λ k. k ∷ (take last (t ∷ ws) ++ drop k ws)) (length-take-le last (t ∷ ws) room))
