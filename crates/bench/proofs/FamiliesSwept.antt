-- The levels of a table, one block size after the other.
use Rattle.std.proofs.Common.{◌≡◌, ℕ, ◌+◌, ◌^◌, ◌<◌, ◌≤◌, min, true, false, cond, List, [], ◌∷◌, ◌++◌, length, get_or, take, drop, Option, sym, refl, ap, ◌∙◌, subst, not-suc-le-zero, arith}
use Rattle.std.proofs.lemmas.List.{length-drop, length-map, length-take, length-take-le, take-append-drop}
use Rattle.std.proofs.lemmas.Bool.{cond-true, cond-false}
use Rattle.bench.specs.Done.{FamiliesDone, LevelsDone}
use Rattle.bench.specs.Rows.{Stepped}
use Rattle.bench.specs.Mixed.{Leads, Owned}
use Rattle.bench.specs.OpenLines.{line_kin}
use Rattle.bench.specs.Level.{Done, Visited}
use Rattle.bench.specs.Spans.{FamiliesFit, FamilySpan, LevelsFit, SpansFamilies, SpansLevels, levels_lines}
use Rattle.bench.specs.Sweep.{and_then, families_hit, same_block, skip, sweep_families, sweep_levels}
use Rattle.bench.specs.Table.{Family, Level, families_words, levels_words}
use Rattle.bench.specs.declared.open_line.OpenLine.{OpenLine}
use Rattle.bench.proofs.DoneParts.{done_skip, done_then, families_true, levels_length}

-- the first block size of lines that are not empty
pub record FirstFamily (fs : List Family) (es : List OpenLine) (x : OpenLine) : Type 0 where
  pub family : Family
  pub rest : List Family
  pub is : fs ≡ family ∷ rest
  pub span : FamilySpan family x
  pub levels : SpansLevels family.block family.levels (take (levels_lines family.levels) es)
  pub later : SpansFamilies rest (drop (levels_lines family.levels) es)

pub first_family : (fs : List Family) (es : List OpenLine) (x : OpenLine) → x ≡ get_or es 0 x → 0 < length es → SpansFamilies fs es → FirstFamily fs es x
first_family fs [] x is some sp = absurd (not-suc-le-zero some)
first_family [] (y ∷ es) x is some sp = let z : length (y ∷ es) ≡ 0 = ap length sp in absurd (omega arith)
first_family (f ∷ fs) (y ∷ es) x is some sp = record {
  family = f;
  rest = fs;
  is = refl;
  span = subst (λ z. FamilySpan f z) (sym is) sp.0;
  levels = sp.1.0;
  later = sp.1.1;
}

-- no lines, no levels
pub none_swept : (f : Owned → ℕ → Leads → Stepped) (last : Option ℕ) (address kind : ℕ) (es : List OpenLine) (ms : List (List ℕ)) (ws : List ℕ) → length es ≡ 0 → FamiliesDone f last address kind es ms ws ms ws 0
none_swept f last address kind [] ms ws e [] sp = record { words = refl; misses = refl; compared = refl }
none_swept f last address kind [] ms ws e (g ∷ gs) sp = absurd sp
none_swept f last address kind (x ∷ es) ms ws e fs sp = absurd (omega arith)

-- lines of levels are there
lines_there : (b : ℕ) (ls : List Level) (xs : List OpenLine) → SpansLevels b ls xs → levels_lines ls ≤ length xs
lines_there b [] xs sp = omega arith
lines_there b (l ∷ ls) [] sp = absurd sp
lines_there b (l ∷ ls) (x ∷ xs) sp =
    let here : length l.lines ≤ length (x ∷ xs) = omega (arith, ap length sp.0.kin, length-map (take (length l.lines) (x ∷ xs)) line_kin, length-take (length l.lines) (x ∷ xs)) in
    omega (arith, lines_there b ls (drop (length l.lines) (x ∷ xs)) sp.1, length-drop (length l.lines) (x ∷ xs))

module _ {fs : List Family} {es : List OpenLine} {x : OpenLine} (F : FirstFamily fs es x) where
  pub family_lines : levels_lines F.family.levels ≤ length es
  family_lines = omega (arith, lines_there F.family.block F.family.levels (take (levels_lines F.family.levels) es) F.levels, length-take (levels_lines F.family.levels) es)

  pub family_room : levels_words F.family.levels + families_words F.rest ≡ families_words fs
  family_room = sym (ap families_words F.is)

-- lines and words of the first block size lie within those that are lent
pub record Within (es : List OpenLine) (x : OpenLine) (room : ℕ) : Type 0 where
  pub lines : x.family.lines ≤ length es
  pub some : 0 < x.family.lines
  pub words : x.family.words ≤ room

pub within : (es : List OpenLine) (x : OpenLine) → x ≡ get_or es 0 x → (room : ℕ) → 0 < length es → FamiliesFit es room → Within es x room
within es x is room some fit =
    let F = first_family fit.table es x is some fit.spans in
    record { lines = omega (arith, F.span.lines, family_lines F); some = omega (arith, F.span.lines, F.span.some); words = omega (arith, F.span.words, family_room F, fit.fits) }

-- what the sweep of the first block size asks
pub levels_fit : (es : List OpenLine) (x : OpenLine) → x ≡ get_or es 0 x → (ws : List ℕ) → 0 < length es → FamiliesFit es (length ws) → LevelsFit (take x.family.lines es) (length (take x.family.words ws))
levels_fit es x is ws some fit =
    let F = first_family fit.table es x is some fit.spans in
    let W = within es x is (length ws) some fit in
    record {
      block = F.family.block;
      levels = F.family.levels;
      spans = subst (λ n. SpansLevels F.family.block F.family.levels (take n es)) (sym F.span.lines) F.levels;
      fits = omega (arith, F.span.words, length-take-le x.family.words ws W.words);
    }

-- and that of the later ones
pub later_fit : (es : List OpenLine) (x : OpenLine) → x ≡ get_or es 0 x → (ws : List ℕ) → 0 < length es → FamiliesFit es (length ws) → FamiliesFit (drop x.family.lines es) (length (drop x.family.words ws))
later_fit es x is ws some fit =
    let F = first_family fit.table es x is some fit.spans in
    record {
      table = F.rest;
      spans = subst (λ n. SpansFamilies F.rest (drop n es)) (sym F.span.lines) F.later;
      fits = omega (arith, F.span.words, family_room F, fit.fits, length-drop x.family.words ws);
    }

module _ (f : Owned → ℕ → Leads → Stepped) (last : Option ℕ) (address kind : ℕ) {fs : List Family} (es : List OpenLine) {x : OpenLine} (F : FirstFamily fs es x) (ms : List (List ℕ)) (same_long : length ms ≡ length es) (ws : List ℕ) where
  abbrev others : Visited
  others = and_then (sweep_levels f F.family.block address F.family.levels (take (levels_words F.family.levels) ws)) (sweep_families f last address F.rest (drop (levels_words F.family.levels) ws))

  goes : sweep_families f last address fs ws ≡ cond (same_block last address F.family.block) (skip (families_hit (F.family ∷ F.rest)) ws) others
  goes = ap (λ zs. sweep_families f last address zs ws) F.is

  -- the last access lay in the same block: nothing is visited
  pub families_stop : same_block last address (2 ^ x.geometry.block_bits) ≡ true → Done (sweep_families f last address fs ws) kind ms ms ws 0
  families_stop h =
      let all = skip (families_hit (F.family ∷ F.rest)) ws in
      subst (λ v. Done v kind ms ms ws 0) (sym (goes ∙ cond-true (same_block last address F.family.block) all others (ap (same_block last address) (sym F.span.block) ∙ h)))
      (done_skip kind (families_hit (F.family ∷ F.rest)) ms ws (families_true (F.family ∷ F.rest)))

  -- another block: its levels are swept, and then the later ones
  pub families_go : {ms' ms'' : List (List ℕ)} {ws' ws'' : List ℕ} {c d : ℕ} → same_block last address (2 ^ x.geometry.block_bits) ≡ false
      → LevelsDone f address kind (take x.family.lines es) (take x.family.lines ms) (take x.family.words ws) ms' ws' c → FamiliesDone f last address kind (drop x.family.lines es) (drop x.family.lines ms) (drop x.family.words ws) ms'' ws'' d
      → Done (sweep_families f last address fs ws) kind ms (ms' ++ ms'') (ws' ++ ws'') (min (c + d) 18446744073709551615)
  families_go {ms'} {ms''} {ws'} {ws''} {c} {d} h V R =
      let N = levels_words F.family.levels in
      let first = take x.family.lines es in
      let spans : SpansLevels F.family.block F.family.levels first = subst (λ n. SpansLevels F.family.block F.family.levels (take n es)) (sym F.span.lines) F.levels in
      let v = sweep_levels f F.family.block address F.family.levels (take N ws) in
      let w = sweep_families f last address F.rest (drop N ws) in
      let V₁ : Done v kind (take x.family.lines ms) ms' ws' c = subst (λ n. Done (sweep_levels f F.family.block address F.family.levels (take n ws)) kind (take x.family.lines ms) ms' ws' c) F.span.words (V F.family.block F.family.levels spans) in
      let later : SpansFamilies F.rest (drop x.family.lines es) = subst (λ n. SpansFamilies F.rest (drop n es)) (sym F.span.lines) F.later in
      let W₁ : Done w kind (drop x.family.lines ms) ms'' ws'' d = subst (λ n. Done (sweep_families f last address F.rest (drop n ws)) kind (drop x.family.lines ms) ms'' ws'' d) F.span.words (R F.rest later) in
      let long : length v.hits ≡ length (take x.family.lines ms) = levels_length f F.family.block address F.family.levels first (take N ws) spans ∙ omega (arith, same_long, length-take x.family.lines es, length-take x.family.lines ms) in
      let both = done_then v w kind (take x.family.lines ms) ms' (drop x.family.lines ms) ms'' ws' ws'' c d long V₁ W₁ in
      let whole = subst (λ zs. Done (and_then v w) kind zs (ms' ++ ms'') (ws' ++ ws'') (min (c + d) 18446744073709551615)) (take-append-drop x.family.lines ms) both in
      subst (λ u. Done u kind ms (ms' ++ ms'') (ws' ++ ws'') (min (c + d) 18446744073709551615)) (sym (goes ∙ cond-false (same_block last address F.family.block) (skip (families_hit (F.family ∷ F.rest)) ws) others (ap (same_block last address) (sym F.span.block) ∙ h))) whole
