-- Lines that keep their own misses, from lines and misses that stand apart.
use Rattle.std.proofs.Common.{◌≡◌, ℕ, suc, Bool, List, [], ◌∷◌, length, sym, refl, ap, ◌∙◌, arith}
use Rattle.bench.specs.Entries.{all_counted, entries, kin_of, misses_of}
use Rattle.bench.specs.Group.{RowsSwept, SetSwept}
use Rattle.bench.specs.Level.{Done, LevelVisited, visit}
use Rattle.bench.specs.Mixed.{Leads, Owned}
use Rattle.bench.specs.Rows.{Stepped}
use Rattle.bench.specs.Words.{Kin}

kin_entries : (ks : List Kin) (ms : List (List ℕ)) → length ms ≡ length ks → kin_of (entries ks ms) ≡ ks
kin_entries [] ms e = refl
kin_entries (k ∷ ks) [] e = absurd (omega (arith, e))
kin_entries (k ∷ ks) (m ∷ ms) e = ap (λ zs. k ∷ zs) (kin_entries ks ms (omega (arith, e)))

misses_entries : (ks : List Kin) (ms : List (List ℕ)) → length ms ≡ length ks → misses_of (entries ks ms) ≡ ms
misses_entries [] [] e = refl
misses_entries [] (m ∷ ms) e = absurd (omega (arith, e))
misses_entries (k ∷ ks) [] e = absurd (omega (arith, e))
misses_entries (k ∷ ks) (m ∷ ms) e = ap (λ zs. m ∷ zs) (misses_entries ks ms (omega (arith, e)))

-- counting keeps the number of lines
length-all_counted : (kind : ℕ) (hs : List Bool) (ms : List (List ℕ)) → length (all_counted kind hs ms) ≡ length ms
length-all_counted kind [] ms = refl
length-all_counted kind (h ∷ hs) [] = refl
length-all_counted kind (h ∷ hs) (m ∷ ms) = ap suc (length-all_counted kind hs ms)

module _ (f : Owned → ℕ → Leads → Stepped) (s i t kind : ℕ) (ks : List Kin) (ms : List (List ℕ)) (ws : List ℕ) (long : length ms ≡ length ks) where
  pub rows_within : {ms' : List (List ℕ)} {ws' : List ℕ} {c : ℕ} {lead : Leads} → SetSwept f s i t kind ks ms ws ms' ws' c lead → RowsSwept f s i t kind (entries ks ms) ws (entries ks ms') ws' c lead
  rows_within {ms'} R =
      let long' : length ms' ≡ length ks = ap length R.misses ∙ length-all_counted kind _ ms ∙ long in
      let kin = kin_entries ks ms long in
      record {
        rows = rw kin R.rows;
        misses = rw (kin, misses_entries ks ms long, misses_entries ks ms' long') R.misses;
        kin = kin_entries ks ms' long' ∙ sym kin;
        compared = rw kin R.compared;
        told = rw kin R.told;
      }

  pub visit_within : {ms' : List (List ℕ)} {ws' : List ℕ} {c : ℕ} → Done (visit f s i t ks ws) kind ms ms' ws' c → LevelVisited f s i t kind (entries ks ms) ws (entries ks ms') ws' c
  visit_within {ms'} D =
      let long' : length ms' ≡ length ks = ap length D.misses ∙ length-all_counted kind _ ms ∙ long in
      let kin = kin_entries ks ms long in
      record {
        rows = rw kin D.words;
        misses = rw (kin, misses_entries ks ms long, misses_entries ks ms' long') D.misses;
        kin = kin_entries ks ms' long' ∙ sym kin;
        compared = rw kin D.compared;
      }
