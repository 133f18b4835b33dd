-- A run by the line's numbers and by its geometry, and the memory that it starts from.
use Rattle.std.proofs.Common.{◌≡◌, ℕ, ◌+◌, ◌*◌, ◌^◌, true, List, ◌++◌, length, drop, replicate, Some, sym, ap, ◌∙◌}
use Rattle.std.proofs.lemmas.List.{drop_at, length-replicate}
use Rattle.policy.specs.Policy.{Meaning, Laws}
use Rattle.policy.specs.Three.{Three, policy_of, which}
use Rattle.policy.specs.declared.three.Member.{Member}
use Rattle.policy.specs.SearchLemmas.{all_replicate}
use Rattle.geometry.specs.Line.{GeometryOf}
use Rattle.geometry.specs.declared.line.Line.{Line}
use Rattle.geometry.specs.declared.geometry.Geometry.{Geometry}
use Rattle.standalone.specs.Cache.{Cache, new_cache, run}
use Rattle.standalone.specs.Rows.{laid}
use Rattle.standalone.specs.Run.{need, ran, Ran, Tracks}
use Rattle.standalone.specs.declared.access.Access.{Access}
use Rattle.standalone.specs.declared.access.Counts.{Counts}
use Rattle.standalone.proofs.Laid.{length_laid}

abbrev pub cache_at : Three → Member → ℕ → ℕ → ℕ → List Access → Cache
cache_at p k b s a xs = run (policy_of p k) b s (new_cache (policy_of p k) s a) xs

module _ (p : Three) (line : Line) (g : Geometry) (G : GeometryOf p line g) where
  pub need_is : need line ≡ 2 ^ g.set_bits * (g.ways + 1)
  need_is = ap (λ s. s * (line.ways + 1)) G.sets ∙ ap (λ a. 2 ^ g.set_bits * (a + 1)) G.ways

  pub takes_is : (policy_of p g.member).takes g.ways ≡ true
  takes_is = sym (ap (policy_of p g.member).takes G.ways) ∙ G.takes

  same-member : (k : Member) → which p line.letter ≡ Some k → k ≡ g.member
  same-member k e = let f = G.member in cc

  same_cache : (xs : List Access) (k : Member) → which p line.letter ≡ Some k → cache_at p g.member (2 ^ g.block_bits) (2 ^ g.set_bits) g.ways xs ≡ ran p line k xs
  same_cache xs k e = sym
      (ap (λ k. cache_at p k line.block line.sets line.ways xs) (same-member k e)
      ∙ ap (λ b. cache_at p g.member b line.sets line.ways xs) G.block
      ∙ ap (λ s. cache_at p g.member (2 ^ g.block_bits) s line.ways xs) G.sets
      ∙ ap (λ a. cache_at p g.member (2 ^ g.block_bits) (2 ^ g.set_bits) a xs) G.ways)

  pub ran_by_geometry : (xs : List Access) (entry rest exit : List ℕ) (counts : Counts) (comparisons : ℕ) → rest ≡ drop (2 ^ g.set_bits * (g.ways + 1)) entry
      → Tracks (policy_of p g.member) (2 ^ g.block_bits) (2 ^ g.set_bits) g.ways xs rest exit counts comparisons
      → Ran p line xs entry exit counts.misses counts.hits comparisons
  ran_by_geometry xs entry rest exit counts comparisons e t = record {
    missed = λ k n. t.misses ∙ ap (λ c. c.misses) (same_cache xs k n);
    hit = λ k n. t.hits ∙ ap (λ c. c.hits) (same_cache xs k n);
    compared = λ k n. t.compared ∙ ap (λ c. c.comparisons) (same_cache xs k n);
    memory = λ k n. t.rows ∙ ap (λ c. laid c.rows ++ rest) (same_cache xs k n) ∙ ap (λ ws. laid (ran p line k xs).rows ++ ws) (e ∙ ap (λ n. drop n entry) (sym need_is));
  }

-- the words after started rows are those of the memory before
module _ (m : Meaning) (L : Laws m) (s a : ℕ) (takes : m.takes a ≡ true) (entry mid : List ℕ)
    (started : mid ≡ laid (replicate s (m.start (a + 1))) ++ drop (s * (a + 1)) entry) where
  rows_long : length (laid (replicate s (m.start (a + 1)))) ≡ s * (a + 1)
  rows_long =
      let r = m.start (a + 1) in
      length_laid (a + 1) (replicate s r) (all_replicate (λ r. length r ≡ a + 1) s r (L.words a r takes (L.started a takes))) ∙ ap (λ n. n * (a + 1)) (length-replicate s r)

  pub rest_kept : drop (s * (a + 1)) mid ≡ drop (s * (a + 1)) entry
  rest_kept = ap (drop (s * (a + 1))) started ∙ drop_at (laid (replicate s (m.start (a + 1)))) (drop (s * (a + 1)) entry) (s * (a + 1)) rows_long

  pub started_again : mid ≡ laid (replicate s (m.start (a + 1))) ++ drop (s * (a + 1)) mid
  started_again = started ∙ ap (λ ws. laid (replicate s (m.start (a + 1))) ++ ws) (sym rest_kept)
