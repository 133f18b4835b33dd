-- A visit of one level, from what its direct-mapped cache and its rows do.
use Rattle.std.proofs.Common.{◌≡◌, ℕ, ◌+◌, ◌*◌, ◌<◌, ◌≤◌, min, true, false, List, ◌++◌, take, drop, set, sym, ap, ◌∙◌, subst, arith}
use Rattle.std.proofs.lemmas.List.{drop-set-lt}
use Rattle.std.proofs.lemmas.Bool.{cond-true, cond-false, cond_both}
use Rattle.bench.specs.Direct.{direct_after, direct_compared, direct_hit, filled}
use Rattle.bench.specs.Entries.{all_counted, capped}
use Rattle.bench.specs.Group.{SetSwept}
use Rattle.bench.specs.Level.{Done, hit_level, miss_level, visit}
use Rattle.bench.specs.Mixed.{Leads, Owned}
use Rattle.bench.specs.Rows.{Stepped}
use Rattle.bench.specs.Words.{Kin}
use Rattle.bench.proofs.Hits.{all_kept}

-- the direct-mapped cache makes at most one comparison
one_compared : (ws : List ℕ) (i : ℕ) → direct_compared ws i ≤ 1
one_compared ws i = cond_both (filled ws i) 1 0 (λ n. n ≤ 1) (λ _. omega arith) (λ _. omega arith)

module _ (f : Owned → ℕ → Leads → Stepped) (s i t kind : ℕ) (ks : List Kin) (ms : List (List ℕ)) (ws : List ℕ) where
  pub level_hit : {ws' : List ℕ} {c : ℕ} → direct_hit ws i t ≡ true → ws' ≡ direct_after ws i t → c ≡ direct_compared ws i → Done (visit f s i t ks ws) kind ms ms ws' c
  level_hit {ws'} {c} h ew ec =
      let goes : visit f s i t ks ws ≡ hit_level i ks ws = cond-true (direct_hit ws i t) (hit_level i ks ws) (miss_level f s i t ks ws) h in
      record {
        words = ew ∙ cond-true (direct_hit ws i t) ws (set (set ws (2 * i) 1) (2 * i + 1) t) h ∙ sym (ap (λ v. v.words) goes);
        misses = sym (ap (λ v. all_counted kind v.hits ms) goes ∙ all_kept kind ks ms);
        compared = omega (arith, ec, one_compared ws i) ∙ sym (ap (λ v. capped v.comparisons) goes);
      }

  -- what the direct-mapped cache does stays below the rows
  rows_kept : direct_hit ws i t ≡ false → i < s → drop (2 * s) (direct_after ws i t) ≡ drop (2 * s) ws
  rows_kept h low = ap (drop (2 * s)) (cond-false (direct_hit ws i t) ws (set (set ws (2 * i) 1) (2 * i + 1) t) h) ∙ drop-set-lt (2 * s) (set ws (2 * i) 1) (2 * i + 1) t (omega arith) ∙ drop-set-lt (2 * s) ws (2 * i) 1 (omega arith)

  pub level_miss : {ms' : List (List ℕ)} {ws₁ rest : List ℕ} {n d c : ℕ} {lead : Leads} → direct_hit ws i t ≡ false → i < s → ws₁ ≡ direct_after ws i t → d ≡ direct_compared ws i
      → SetSwept f s i t kind ks ms (drop (2 * s) ws₁) ms' rest n lead → c ≡ min (n + d) 18446744073709551615
      → Done (visit f s i t ks ws) kind ms ms' (take (2 * s) ws₁ ++ rest) c
  level_miss {ms'} {ws₁} {rest} {n} {d} {c} {lead} h low ew ed R ec =
      let goes : visit f s i t ks ws ≡ miss_level f s i t ks ws = cond-false (direct_hit ws i t) (hit_level i ks ws) (miss_level f s i t ks ws) h in
      let same : drop (2 * s) ws₁ ≡ drop (2 * s) ws = ap (drop (2 * s)) ew ∙ rows_kept h low in
      let R₁ : SetSwept f s i t kind ks ms (drop (2 * s) ws) ms' rest n lead = subst (λ xs. SetSwept f s i t kind ks ms xs ms' rest n lead) same R in
      record {
        words = ap (λ xs. take (2 * s) xs ++ rest) ew ∙ ap (λ xs. take (2 * s) (direct_after ws i t) ++ xs) R₁.rows ∙ sym (ap (λ v. v.words) goes);
        misses = R₁.misses ∙ sym (ap (λ v. all_counted kind v.hits ms) goes);
        compared = omega (arith, ec, ed, R₁.compared, one_compared ws i) ∙ sym (ap (λ v. capped v.comparisons) goes);
      }
