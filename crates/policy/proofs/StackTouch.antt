-- What FIFO and LRU write on a hit and on a miss.
use Rattle.std.proofs.Common.{◌≡◌, ℕ, zero, suc, ◌<◌, true, false, List, [], ◌∷◌, ◌++◌, length, take, drop, set, sym, refl, ap, ◌∙◌, arith}
use Rattle.std.proofs.lemmas.List.{length-take}
use Rattle.std.proofs.lemmas.Bool.{cond-true, cond-false, true≢false}
use Rattle.policy.specs.Search.{member, place}
use Rattle.policy.specs.Stack.{residents_of, ways_of, relaid, without, fifo, lru, touched_row}
use Rattle.policy.specs.SearchLemmas.{place_le, place_pos}
use Rattle.policy.specs.Residents.{length_without, words_without}
use Rattle.policy.specs.StackRow.{drop_taken}

-- a row with a resident has a head word, and room for the tag's place
pub hit_room : (r : List ℕ) (t p : ℕ) → member t (residents_of r) ≡ true → p ≡ place t (residents_of r) → p < length r
hit_room [] t p m e = absurd (true≢false (sym m))
hit_room (x ∷ ws) t p m e = omega (arith, place_le t (take x ws), length-take x ws)

pub fifo_hit_row : (r : List ℕ) (t count : ℕ) → member t (residents_of r) ≡ true → count ≡ length (residents_of r) → set r 0 count ≡ touched_row fifo r t
fifo_hit_row [] t count m e = refl
fifo_hit_row (x ∷ ws) t count m e =
    ap (λ n. n ∷ ws) e
    ∙ sym (ap (relaid ws) (cond-true (member t (take x ws)) (take x ws) (take (ways_of ws) (t ∷ take x ws)) m) ∙ ap (λ zs. length (take x ws) ∷ zs) (drop_taken x ws))

module _ (x t : ℕ) (ws : List ℕ) (m : member t (take x ws) ≡ true) where
  lru_hit_words : (p : ℕ) → p ≡ place t (take x ws) → (t ∷ without t (take x ws)) ++ drop (length (take x ws)) ws ≡ take p (t ∷ ws) ++ drop p ws
  lru_hit_words zero e = absurd (omega (arith, place_pos t (take x ws) m))
  lru_hit_words (suc q) e = ap (λ zs. t ∷ zs) (words_without t x q ws m (sym e))

pub lru_hit_row : (r : List ℕ) (t p count : ℕ) → member t (residents_of r) ≡ true → p ≡ place t (residents_of r) → count ≡ length (residents_of r)
    → count ∷ (take p (t ∷ drop 1 r) ++ drop p (drop 1 r)) ≡ touched_row lru r t
lru_hit_row [] t p count m e n = absurd (true≢false (sym m))
lru_hit_row (x ∷ ws) t p count m e n =
    let moved = t ∷ without t (take x ws) in
    let same : length moved ≡ length (take x ws) = length_without t (take x ws) m in
    ap (λ k. k ∷ (take p (t ∷ ws) ++ drop p ws)) (n ∙ sym same)
    ∙ ap (λ zs. length moved ∷ zs) (sym (ap (λ k. moved ++ drop k ws) same ∙ lru_hit_words x t ws m p e))
    ∙ sym (ap (relaid ws) (cond-true (member t (take x ws)) moved (take (ways_of ws) (t ∷ take x ws)) m))

-- on a miss LRU acts as FIFO does
pub lru_miss_row : (r : List ℕ) (t : ℕ) → member t (residents_of r) ≡ false → touched_row fifo r t ≡ touched_row lru r t
lru_miss_row [] t m = refl
lru_miss_row (x ∷ ws) t m =
    let front = take (ways_of ws) (t ∷ take x ws) in
    ap (relaid ws) (cond-false (member t (take x ws)) (take x ws) front m ∙ sym (cond-false (member t (take x ws)) (t ∷ without t (take x ws)) front m))
