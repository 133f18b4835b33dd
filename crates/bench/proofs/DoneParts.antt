-- Parts of a sweep that are done one after the other.
use Rattle.std.proofs.Common.{◌≡◌, ℕ, suc, ◌+◌, ◌*◌, ◌≤◌, min, Bool, true, false, cond, List, [], ◌∷◌, ◌++◌, length, take, drop, sym, refl, ap, ◌∙◌, arith}
use Rattle.std.specs.List.{AllByRecursion}
use Rattle.std.proofs.lemmas.List.{length-append, length-drop, length-map, length-take}
use Rattle.std.proofs.lemmas.Bool.{cond_both, cond-true, cond-false}
use Rattle.bench.specs.Rows.{Stepped}
use Rattle.bench.specs.Mixed.{Leads, Owned, sweep_all}
use Rattle.bench.specs.Words.{Kin, one_way, rows_at, spread, wide}
use Rattle.bench.specs.Direct.{direct_hit}
use Rattle.bench.specs.Group.{sweep_at}
use Rattle.bench.specs.Entries.{all_counted, counted}
use Rattle.bench.specs.OpenLines.{line_kin}
use Rattle.bench.specs.Level.{Done, Visited, all_hit, hit_level, level_words, miss_level, visit}
use Rattle.geometry.specs.Address.{set_of, tag_of}
use Rattle.bench.specs.Spans.{SpansLevels}
use Rattle.bench.specs.Sweep.{and_then, families_hit, levels_hit, skip, sweep_levels, visit_of}
use Rattle.bench.specs.Table.{Family, Level}
use Rattle.bench.specs.declared.open_line.OpenLine.{OpenLine}
use Rattle.bench.proofs.Hits.{all_hit_true, hits_kept}

-- misses counted part by part
counted_append : (kind : ℕ) (hs gs : List Bool) (ms ns : List (List ℕ)) → length hs ≡ length ms → all_counted kind (hs ++ gs) (ms ++ ns) ≡ all_counted kind hs ms ++ all_counted kind gs ns
counted_append kind [] gs [] ns e = refl
counted_append kind [] gs (m ∷ ms) ns e = absurd (omega arith)
counted_append kind (h ∷ hs) gs [] ns e = absurd (omega arith)
counted_append kind (h ∷ hs) gs (m ∷ ms) ns e = ap (λ xs. counted kind h m ∷ xs) (counted_append kind hs gs ms ns (omega arith))

pub done_then : (v w : Visited) (kind : ℕ) (ms ms' ns ns' : List (List ℕ)) (ws ws' : List ℕ) (c d : ℕ) → length v.hits ≡ length ms
    → Done v kind ms ms' ws c → Done w kind ns ns' ws' d → Done (and_then v w) kind (ms ++ ns) (ms' ++ ns') (ws ++ ws') (min (c + d) 18446744073709551615)
done_then v w kind ms ms' ns ns' ws ws' c d e V W = record {
  words = ap (λ xs. xs ++ ws') V.words ∙ ap (λ xs. v.words ++ xs) W.words;
  misses = ap (λ xs. xs ++ ns') V.misses ∙ ap (λ xs. all_counted kind v.hits ms ++ xs) W.misses ∙ sym (counted_append kind v.hits w.hits ms ns e);
  compared = omega (arith, V.compared, W.compared);
}

-- the same, with its results in another form
pub done_same : {v : Visited} {kind : ℕ} {ms ms₁ ms₂ : List (List ℕ)} {ws₁ ws₂ : List ℕ} {c₁ c₂ : ℕ} → ms₂ ≡ ms₁ → ws₂ ≡ ws₁ → c₂ ≡ c₁ → Done v kind ms ms₁ ws₁ c₁ → Done v kind ms ms₂ ws₂ c₂
done_same em ew ec D = record { words = ew ∙ D.words; misses = em ∙ D.misses; compared = ec ∙ D.compared }

pub done_skip : (kind : ℕ) (hs : List Bool) (ms : List (List ℕ)) (ws : List ℕ) → AllByRecursion (λ h. h ≡ true) hs → Done (skip hs ws) kind ms ms ws 0
done_skip kind hs ms ws t = record { words = refl; misses = sym (hits_kept kind hs ms t); compared = refl }

-- skipped lines all hit
append_true : (hs gs : List Bool) → AllByRecursion (λ h. h ≡ true) hs → AllByRecursion (λ h. h ≡ true) gs → AllByRecursion (λ h. h ≡ true) (hs ++ gs)
append_true [] gs t u = u
append_true (h ∷ hs) gs t u = (t.0, append_true hs gs t.1 u)

pub levels_true : (ls : List Level) → AllByRecursion (λ h. h ≡ true) (levels_hit ls)
levels_true [] = tt
levels_true (l ∷ ls) = append_true (all_hit l.lines) (levels_hit ls) (all_hit_true l.lines) (levels_true ls)

pub families_true : (fs : List Family) → AllByRecursion (λ h. h ≡ true) (families_hit fs)
families_true [] = tt
families_true (f ∷ fs) = append_true (levels_hit f.levels) (families_hit fs) (levels_true f.levels) (families_true fs)

-- a visit answers for each line
sweep-length : (f : Owned → ℕ → Leads → Stepped) (xs : List Owned) (t : ℕ) → length (sweep_all f xs t).hits ≡ length xs
sweep-length f [] t = refl
sweep-length f (x ∷ xs) t = ap suc (sweep-length f xs t)

rows_at-length : (s i : ℕ) (ks : List Kin) (ws : List ℕ) → length (rows_at s i ks ws) ≡ length ks
rows_at-length s i [] ws = refl
rows_at-length s i (k ∷ ks) ws = ap suc (rows_at-length s i ks (drop (s * (k.ways + 2)) ws))

spread-length : (ks : List Kin) (hs : List Bool) → length hs ≡ length (wide ks) → length (spread ks hs) ≡ length ks
spread-length [] hs e = refl
spread-length (k ∷ ks) hs e = go (one_way k) refl hs e (spread-length ks)
  where
    go : (b : Bool) → one_way k ≡ b → (hs : List Bool) → length hs ≡ length (wide (k ∷ ks)) → ((hs : List Bool) → length hs ≡ length (wide ks) → length (spread ks hs) ≡ length ks) → length (spread (k ∷ ks) hs) ≡ suc (length ks)
    go true o hs e ih =
        let less : length hs ≡ length (wide ks) = e ∙ ap length (cond-true (one_way k) (wide ks) (k ∷ wide ks) o) in
        by hs less
      where
        by : (hs : List Bool) → length hs ≡ length (wide ks) → length (spread (k ∷ ks) hs) ≡ suc (length ks)
        by [] e = ap length (cond-true (one_way k) (false ∷ spread ks []) [] o) ∙ ap suc (ih [] e)
        by (h ∷ hs) e = ap length (cond-true (one_way k) (false ∷ spread ks (h ∷ hs)) (h ∷ spread ks hs) o) ∙ ap suc (ih (h ∷ hs) e)
    go false o [] e ih = let more : 0 ≡ suc (length (wide ks)) = e ∙ ap length (cond-false (one_way k) (wide ks) (k ∷ wide ks) o) in absurd (omega arith)
    go false o (h ∷ hs) e ih =
        let more : suc (length hs) ≡ suc (length (wide ks)) = e ∙ ap length (cond-false (one_way k) (wide ks) (k ∷ wide ks) o) in
        ap length (cond-false (one_way k) (false ∷ spread ks (h ∷ hs)) (h ∷ spread ks hs) o) ∙ ap suc (ih hs (omega arith))

pub visit-length : (f : Owned → ℕ → Leads → Stepped) (s i t : ℕ) (ks : List Kin) (ws : List ℕ) → length (visit f s i t ks ws).hits ≡ length ks
visit-length f s i t ks ws = go (direct_hit ws i t) refl
  where
    go : (b : Bool) → direct_hit ws i t ≡ b → length (visit f s i t ks ws).hits ≡ length ks
    go true h = ap (λ v. length v.hits) (cond-true (direct_hit ws i t) (hit_level i ks ws) (miss_level f s i t ks ws) h) ∙ length-map ks (λ _. true)
    go false h =
        ap (λ v. length v.hits) (cond-false (direct_hit ws i t) (hit_level i ks ws) (miss_level f s i t ks ws) h)
        ∙ spread-length ks (sweep_at f s i t (wide ks) (drop (2 * s) ws)).hits (sweep-length f (rows_at s i (wide ks) (drop (2 * s) ws)) t ∙ rows_at-length s i (wide ks) (drop (2 * s) ws))

-- a sweep over levels answers for each of their lines
pub levels_length : (f : Owned → ℕ → Leads → Stepped) (b address : ℕ) (ls : List Level) (xs : List OpenLine) (ws : List ℕ) → SpansLevels b ls xs → length (sweep_levels f b address ls ws).hits ≡ length xs
levels_length f b address [] xs ws sp = sym (ap length sp)
levels_length f b address (l ∷ ls) [] ws sp = absurd sp
levels_length f b address (l ∷ ls) (x ∷ xs) ws sp =
    let N = level_words l.sets l.lines in
    let n = length l.lines in
    let v = visit_of f b address l (take N ws) in
    let hit = direct_hit (take N ws) (set_of address b l.sets) (tag_of address b l.sets) in
    let here : length v.hits ≡ n = visit-length f _ _ _ l.lines (take N ws) in
    let there : n ≤ length (x ∷ xs) = omega (arith, ap length sp.0.kin, length-map (take n (x ∷ xs)) line_kin, length-take n (x ∷ xs)) in
    let later : length (cond hit (skip (levels_hit ls) (drop N ws)) (sweep_levels f b address ls (drop N ws))).hits ≡ length (drop n (x ∷ xs)) =
    cond_both hit (skip (levels_hit ls) (drop N ws)) (sweep_levels f b address ls (drop N ws)) (λ w. length w.hits ≡ length (drop n (x ∷ xs))) (λ _. hits-length b ls (drop n (x ∷ xs)) sp.1) (λ _. levels_length f b address ls (drop n (x ∷ xs)) (drop N ws) sp.1) in
    omega (arith, length-append v.hits (cond hit (skip (levels_hit ls) (drop N ws)) (sweep_levels f b address ls (drop N ws))).hits, length-drop n (x ∷ xs))
  where
    hits-length : (b : ℕ) (ls : List Level) (xs : List OpenLine) → SpansLevels b ls xs → length (levels_hit ls) ≡ length xs
    hits-length b [] xs sp = sym (ap length sp)
    hits-length b (l ∷ ls) [] sp = absurd sp
    hits-length b (l ∷ ls) (x ∷ xs) sp =
        let n = length l.lines in
        let there : n ≤ length (x ∷ xs) = omega (arith, ap length sp.0.kin, length-map (take n (x ∷ xs)) line_kin, length-take n (x ∷ xs)) in
        omega (arith, length-append (all_hit l.lines) (levels_hit ls), length-map l.lines (λ _. true), hits-length b ls (drop n (x ∷ xs)) sp.1, length-drop n (x ∷ xs))
