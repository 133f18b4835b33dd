-- Lines that hit.
use Rattle.std.proofs.Common.{◌≡◌, ℕ, Bool, true, List, [], ◌∷◌, refl, ap, ◌∙◌}
use Rattle.std.specs.List.{AllByRecursion}
use Rattle.bench.specs.Entries.{all_counted, counted}
use Rattle.bench.specs.Level.{all_hit}
use Rattle.bench.specs.Words.{Kin}

-- they keep their misses
pub hits_kept : (kind : ℕ) (hs : List Bool) (ms : List (List ℕ)) → AllByRecursion (λ h. h ≡ true) hs → all_counted kind hs ms ≡ ms
hits_kept kind [] ms t = refl
hits_kept kind (h ∷ hs) [] t = refl
hits_kept kind (h ∷ hs) (m ∷ ms) t = ap (λ b. counted kind b m ∷ all_counted kind hs ms) t.0 ∙ ap (λ xs. m ∷ xs) (hits_kept kind hs ms t.1)

-- lines that are skipped hit
pub all_hit_true : (ks : List Kin) → AllByRecursion (λ h. h ≡ true) (all_hit ks)
all_hit_true [] = tt
all_hit_true (k ∷ ks) = (refl, all_hit_true ks)

pub all_kept : (kind : ℕ) (ks : List Kin) (ms : List (List ℕ)) → all_counted kind (all_hit ks) ms ≡ ms
all_kept kind ks ms = hits_kept kind (all_hit ks) ms (all_hit_true ks)
