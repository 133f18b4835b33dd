-- Two rows of a nesting policy with the same ways and the same residents count alike.
use Rattle.std.proofs.Common.{◌≡◌, ℕ, ◌^◌, ◌<◌, Bool, true, false, List, take, sym, refl, ap, ◌∙◌, arith}
use Rattle.std.proofs.lemmas.List.{take_all}
use Rattle.policy.specs.Search.{member, place}
use Rattle.policy.specs.Policy.{Meaning, Laws}
use Rattle.policy.specs.Nesting.{Nest, Nests, Nested}
use Rattle.policy.specs.SearchLemmas.{place_le}

module _ (m : Meaning) (L : Laws m) (e : Nest) (V : Nests m e) (t : ℕ) (small : t < 2 ^ 32)
    (a : ℕ) (takes : m.takes a ≡ true) (r q : List ℕ) (R : m.Row a r) (Q : m.Row a q) (same : m.residents r ≡ m.residents q) where
  pub alike_hit : (m.touch r t).hit ≡ (m.touch q t).hit
  alike_hit = L.hits a r t takes R small ∙ ap (member t) same ∙ sym (L.hits a q t takes Q small)

  pub alike_comparisons : (m.touch r t).comparisons ≡ (m.touch q t).comparisons
  alike_comparisons = L.compares a r t takes R small ∙ ap (place t) same ∙ sym (L.compares a q t takes Q small)

  both : Nested m a a r q t
  both = record {
    narrow_takes = takes;
    wide_takes = takes;
    narrower = omega arith;
    narrow = R;
    wide = Q;
    first = same ∙ sym (take_all a (m.residents q) (L.few a q takes Q));
    tag = small;
  }

  all_after : take a (m.residents (m.touch q t).row) ≡ m.residents (m.touch q t).row
  all_after = take_all a (m.residents (m.touch q t).row) (L.few a (m.touch q t).row takes (L.touched a q t takes Q small))

  pub alike_residents : m.residents (m.touch r t).row ≡ m.residents (m.touch q t).row
  alike_residents = by_hit (m.touch q t).hit refl
    where
      by_hit : (b : Bool) → (m.touch q t).hit ≡ b → m.residents (m.touch r t).row ≡ m.residents (m.touch q t).row
      by_hit true h = (V.shallow a a r q t both h (omega (arith, place_le t (m.residents q), L.few a q takes Q))).1 ∙ all_after
      by_hit false h = (V.miss a a r q t both h).1 ∙ all_after
