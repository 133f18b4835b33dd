-- The words of the levels of a table that are started, one level and one block size after the other.
use Rattle.std.proofs.Common.{◌≡◌, ℕ, ◌^◌, List, [], ◌∷◌, ◌++◌, length, take, drop, sym, refl, ap, ◌∙◌, subst, ap₂, arith}
use Rattle.bench.specs.OpenLines.{kins_of}
use Rattle.bench.specs.Level.{level_words}
use Rattle.bench.specs.Spans.{SpansFamilies, SpansLevels}
use Rattle.bench.specs.Start.{started, started_level, started_levels}
use Rattle.bench.specs.Started.{FamiliesStarted, LevelsStarted}
use Rattle.policy.specs.Suite.{Suite}
use Rattle.bench.specs.Table.{Family, Level, families_words, levels_words}
use Rattle.bench.specs.declared.open_line.OpenLine.{OpenLine}
use Rattle.bench.proofs.FamiliesSwept.{FirstFamily}
use Rattle.bench.proofs.LevelsSwept.{FirstLevel, level_kin}
use Rattle.bench.proofs.LinesStarted.{then_started}

-- no lines, no levels
pub levels_none : (s : Suite) (es : List OpenLine) (ws : List ℕ) → length es ≡ 0 → LevelsStarted s es ws ws
levels_none s [] ws z b [] sp = refl
levels_none s [] ws z b (l ∷ ls) sp = absurd sp
levels_none s (x ∷ es) ws z b ls sp = absurd (omega arith)

pub families_none : (s : Suite) (es : List OpenLine) (ws : List ℕ) → length es ≡ 0 → FamiliesStarted s es ws ws
families_none s [] ws z [] sp = refl
families_none s [] ws z (f ∷ fs) sp = absurd sp
families_none s (x ∷ es) ws z fs sp = absurd (omega arith)

-- the first level, and then the later ones
pub levels_more : (s : Suite) {b : ℕ} {ls : List Level} (es : List OpenLine) {x : OpenLine} → FirstLevel b ls es x → (sets : ℕ) (ws new rest : List ℕ) → sets ≡ 2 ^ x.geometry.set_bits
    → new ≡ started_level s (record { sets = sets; lines = kins_of (take x.level.lines es) }) ++ drop (level_words sets (kins_of (take x.level.lines es))) (take x.level.words ws)
    → LevelsStarted s (drop x.level.lines es) (drop x.level.words ws) rest
    → new ++ rest ≡ started_levels s ls ++ drop (levels_words ls) ws
levels_more s {b} {ls} es {x} F sets ws new rest e V R =
    let l = F.level in
    let N = level_words l.sets l.lines in
    let sets_are : sets ≡ l.sets = e ∙ F.span.sets in
    let lines_are : kins_of (take x.level.lines es) ≡ l.lines = ap (λ n. kins_of (take n es)) F.span.lines ∙ level_kin F in
    let here : new ≡ started_level s l ++ drop N (take N ws) =
    V ∙ ap₂ (λ n ks. started_level s (record { sets = n; lines = ks }) ++ drop (level_words n ks) (take x.level.words ws)) sets_are lines_are ∙ ap (λ n. started_level s l ++ drop N (take n ws)) F.span.words in
    let spans : SpansLevels b F.rest (drop x.level.lines es) = subst (λ n. SpansLevels b F.rest (drop n es)) (sym F.span.lines) F.later in
    let later : rest ≡ started_levels s F.rest ++ drop (levels_words F.rest) (drop N ws) =
    R b F.rest spans ∙ ap (λ n. started_levels s F.rest ++ drop (levels_words F.rest) (drop n ws)) F.span.words in
    then_started N (levels_words F.rest) (started_level s l) (started_levels s F.rest) ws new rest here later ∙ ap (λ zs. started_levels s zs ++ drop (levels_words zs) ws) (sym F.is)

-- the first block size, and then the later ones
pub families_more : (s : Suite) {fs : List Family} (es : List OpenLine) {x : OpenLine} → FirstFamily fs es x → (ws new rest : List ℕ)
    → LevelsStarted s (take x.family.lines es) (take x.family.words ws) new → FamiliesStarted s (drop x.family.lines es) (drop x.family.words ws) rest
    → new ++ rest ≡ started s fs ++ drop (families_words fs) ws
families_more s {fs} es {x} F ws new rest V R =
    let ls = F.family.levels in
    let N = levels_words ls in
    let spans : SpansLevels F.family.block ls (take x.family.lines es) = subst (λ n. SpansLevels F.family.block ls (take n es)) (sym F.span.lines) F.levels in
    let here : new ≡ started_levels s ls ++ drop N (take N ws) = V F.family.block ls spans ∙ ap (λ n. started_levels s ls ++ drop N (take n ws)) F.span.words in
    let others : SpansFamilies F.rest (drop x.family.lines es) = subst (λ n. SpansFamilies F.rest (drop n es)) (sym F.span.lines) F.later in
    let later : rest ≡ started s F.rest ++ drop (families_words F.rest) (drop N ws) =
    R F.rest others ∙ ap (λ n. started s F.rest ++ drop (families_words F.rest) (drop n ws)) F.span.words in
    then_started N (families_words F.rest) (started_levels s ls) (started s F.rest) ws new rest here later ∙ ap (λ zs. started s zs ++ drop (families_words zs) ws) (sym F.is)
