-- The levels of one block size, one after the other.
use Rattle.std.proofs.Common.{◌≡◌, ℕ, ◌+◌, ◌^◌, ◌<◌, ◌≤◌, min, true, false, cond, List, [], ◌∷◌, ◌++◌, length, get_or, take, drop, sym, refl, ap, ◌∙◌, subst, not-suc-le-zero, arith}
use Rattle.std.proofs.lemmas.List.{length-drop, length-map, length-take, length-take-le, take-append-drop}
use Rattle.std.proofs.lemmas.Bool.{cond-true, cond-false}
use Rattle.geometry.specs.Address.{set_of, tag_of}
use Rattle.bench.specs.Direct.{direct_hit}
use Rattle.bench.specs.Done.{LevelsDone}
use Rattle.bench.specs.Rows.{Stepped}
use Rattle.bench.specs.Mixed.{Leads, Owned}
use Rattle.bench.specs.OpenLines.{line_kin, kins_of}
use Rattle.bench.specs.Level.{Done, Visited, level_words, visit}
use Rattle.bench.specs.Spans.{LevelSpan, LevelsFit, SpansLevels}
use Rattle.bench.specs.Sweep.{and_then, levels_hit, skip, sweep_levels, visit_of}
use Rattle.bench.specs.Table.{Level, levels_words}
use Rattle.bench.specs.declared.open_line.OpenLine.{OpenLine}
use Rattle.bench.specs.declared.place.Place.{Place}
use Rattle.bench.proofs.DoneParts.{done_skip, done_then, levels_true, visit-length}

-- the first level of lines that are not empty
pub record FirstLevel (b : ℕ) (ls : List Level) (es : List OpenLine) (x : OpenLine) : Type 0 where
  pub level : Level
  pub rest : List Level
  pub is : ls ≡ level ∷ rest
  pub span : LevelSpan b level x es
  pub later : SpansLevels b rest (drop (length level.lines) es)

pub first_level : (b : ℕ) (ls : List Level) (es : List OpenLine) (x : OpenLine) → x ≡ get_or es 0 x → 0 < length es → SpansLevels b ls es → FirstLevel b ls es x
first_level b ls [] x is some sp = absurd (not-suc-le-zero some)
first_level b [] (y ∷ es) x is some sp = let z : length (y ∷ es) ≡ 0 = ap length sp in absurd (omega arith)
first_level b (l ∷ ls) (y ∷ es) x is some sp = record {
  level = l;
  rest = ls;
  is = refl;
  span = subst (λ z. LevelSpan b l z (y ∷ es)) (sym is) sp.0;
  later = sp.1;
}

-- no lines, no levels
pub none_swept : (f : Owned → ℕ → Leads → Stepped) (address kind : ℕ) (es : List OpenLine) (ms : List (List ℕ)) (ws : List ℕ) → length es ≡ 0 → LevelsDone f address kind es ms ws ms ws 0
none_swept f address kind [] ms ws e b [] sp = record { words = refl; misses = refl; compared = refl }
none_swept f address kind [] ms ws e b (l ∷ ls) sp = absurd sp
none_swept f address kind (x ∷ es) ms ws e b ls sp = absurd (omega arith)

module _ {b : ℕ} {ls : List Level} {es : List OpenLine} {x : OpenLine} (F : FirstLevel b ls es x) where
  -- its lines are there
  pub level_lines : length F.level.lines ≤ length es
  level_lines = omega (arith, ap length F.span.kin, length-map (take (length F.level.lines) es) line_kin, length-take (length F.level.lines) es)

  pub level_room : level_words F.level.sets F.level.lines + levels_words F.rest ≡ levels_words ls
  level_room = sym (ap levels_words F.is)

  -- and are of these policies and ways
  pub level_kin : kins_of (take (length F.level.lines) es) ≡ F.level.lines
  level_kin = F.span.kin

-- lines and words of the first level lie within those that are lent
pub record Within (es : List OpenLine) (x : OpenLine) (room : ℕ) : Type 0 where
  pub lines : x.level.lines ≤ length es
  pub some : 0 < x.level.lines
  pub words : x.level.words ≤ room

pub within : (es : List OpenLine) (x : OpenLine) → x ≡ get_or es 0 x → (room : ℕ) → 0 < length es → LevelsFit es room → Within es (x) room
within es x is room some fit =
    let F = first_level fit.block fit.levels es x is some fit.spans in
    record { lines = omega (arith, F.span.lines, level_lines F); some = omega (arith, F.span.lines, F.span.some); words = omega (arith, F.span.words, level_room F, fit.fits) }

-- and so do those of the later ones
pub later_fit : (es : List OpenLine) (x : OpenLine) → x ≡ get_or es 0 x → (ws : List ℕ) → 0 < length es → LevelsFit es (length ws) → LevelsFit (drop x.level.lines es) (length (drop x.level.words ws))
later_fit es x is ws some fit =
    let F = first_level fit.block fit.levels es x is some fit.spans in
    record {
      block = fit.block;
      levels = F.rest;
      spans = subst (λ n. SpansLevels fit.block F.rest (drop n es)) (sym F.span.lines) F.later;
      fits = omega (arith, F.span.words, level_room F, fit.fits, length-drop x.level.words ws);
    }

-- what a visit of the first level asks
pub visit_room : (es : List OpenLine) (x : OpenLine) → x ≡ get_or es 0 x → (ws : List ℕ) → 0 < length es → LevelsFit es (length ws)
    → level_words (2 ^ x.geometry.set_bits) (kins_of (take x.level.lines es)) ≤ length (take x.level.words ws)
visit_room es x is ws some fit =
    let F = first_level fit.block fit.levels es x is some fit.spans in
    let W = within es x is (length ws) some fit in
    let same : level_words (2 ^ x.geometry.set_bits) (kins_of (take x.level.lines es)) ≡ x.level.words =
    ap (λ n. level_words n (kins_of (take x.level.lines es))) F.span.sets
    ∙ ap (λ n. level_words F.level.sets (kins_of (take n es))) F.span.lines ∙ ap (level_words F.level.sets) (level_kin F) ∙ sym F.span.words in
    omega (arith, same, length-take-le x.level.words ws W.words)

module _ (f : Owned → ℕ → Leads → Stepped) (address kind : ℕ) {b : ℕ} {ls : List Level} (es : List OpenLine) {x : OpenLine} (F : FirstLevel b ls es x) (ms : List (List ℕ)) (same_long : length ms ≡ length es) (ws : List ℕ) (at : Place)
    (sets : at.sets ≡ 2 ^ x.geometry.set_bits) (set : at.set ≡ set_of address (2 ^ x.geometry.block_bits) (2 ^ x.geometry.set_bits))
    (tag : at.tag ≡ tag_of address (2 ^ x.geometry.block_bits) (2 ^ x.geometry.set_bits)) where
  set_is : at.set ≡ set_of address b F.level.sets
  set_is = set ∙ ap (λ n. set_of address n (2 ^ x.geometry.set_bits)) F.span.block ∙ ap (set_of address b) F.span.sets

  tag_is : at.tag ≡ tag_of address b F.level.sets
  tag_is = tag ∙ ap (λ n. tag_of address n (2 ^ x.geometry.set_bits)) F.span.block ∙ ap (tag_of address b) F.span.sets

  words_are : take x.level.words ws ≡ take (level_words F.level.sets F.level.lines) ws
  words_are = ap (λ n. take n ws) F.span.words

  lines_are : kins_of (take x.level.lines es) ≡ F.level.lines
  lines_are = ap (λ n. kins_of (take n es)) F.span.lines ∙ level_kin F

  -- the visit at that place is the one that the sweep makes of the first level
  same-visit : visit f at.sets at.set at.tag (kins_of (take x.level.lines es)) (take x.level.words ws) ≡ visit_of f b address F.level (take (level_words F.level.sets F.level.lines) ws)
  same-visit =
      ap (λ n. visit f n at.set at.tag (kins_of (take x.level.lines es)) (take x.level.words ws)) (sets ∙ F.span.sets)
      ∙ ap (λ i. visit f F.level.sets i at.tag (kins_of (take x.level.lines es)) (take x.level.words ws)) set_is
      ∙ ap (λ t. visit f F.level.sets (set_of address b F.level.sets) t (kins_of (take x.level.lines es)) (take x.level.words ws)) tag_is
      ∙ ap (λ ks. visit f F.level.sets (set_of address b F.level.sets) (tag_of address b F.level.sets) ks (take x.level.words ws)) lines_are
      ∙ ap (visit_of f b address F.level) words_are

  pub same_hit : direct_hit (take x.level.words ws) at.set at.tag ≡ direct_hit (take (level_words F.level.sets F.level.lines) ws) (set_of address b F.level.sets) (tag_of address b F.level.sets)
  same_hit =
      ap (λ vs. direct_hit vs at.set at.tag) words_are
      ∙ ap (λ i. direct_hit (take (level_words F.level.sets F.level.lines) ws) i at.tag) set_is
      ∙ ap (λ t. direct_hit (take (level_words F.level.sets F.level.lines) ws) (set_of address b F.level.sets) t) tag_is

  -- the first level, and what is done of the others
  module _ {ms' : List (List ℕ)} {ws' : List ℕ} {c : ℕ} (V : Done (visit f at.sets at.set at.tag (kins_of (take x.level.lines es)) (take x.level.words ws)) kind (take x.level.lines ms) ms' ws' c) where
    first_then : (w : Visited) {ms'' : List (List ℕ)} {ws'' : List ℕ} {d : ℕ}
        → cond (direct_hit (take (level_words F.level.sets F.level.lines) ws) (set_of address b F.level.sets) (tag_of address b F.level.sets))
        (skip (levels_hit F.rest) (drop (level_words F.level.sets F.level.lines) ws)) (sweep_levels f b address F.rest (drop (level_words F.level.sets F.level.lines) ws)) ≡ w
        → Done w kind (drop x.level.lines ms) ms'' ws'' d → Done (sweep_levels f b address ls ws) kind ms (ms' ++ ms'') (ws' ++ ws'') (min (c + d) 18446744073709551615)
    first_then w {ms''} {ws''} {d} goes W =
        let v = visit_of f b address F.level (take (level_words F.level.sets F.level.lines) ws) in
        let V₁ : Done v kind (take x.level.lines ms) ms' ws' c = subst (λ v. Done v kind (take x.level.lines ms) ms' ws' c) same-visit V in
        let long : length v.hits ≡ length (take x.level.lines ms) =
        visit-length f _ _ _ F.level.lines (take (level_words F.level.sets F.level.lines) ws)
        ∙ ap length (sym lines_are) ∙ length-map (take x.level.lines es) line_kin ∙ omega (arith, same_long, length-take x.level.lines es, length-take x.level.lines ms) in
        let both = done_then v w kind (take x.level.lines ms) ms' (drop x.level.lines ms) ms'' ws' ws'' c d long V₁ W in
        let whole : Done (and_then v w) kind ms (ms' ++ ms'') (ws' ++ ws'') (min (c + d) 18446744073709551615) =
        subst (λ zs. Done (and_then v w) kind zs (ms' ++ ms'') (ws' ++ ws'') (min (c + d) 18446744073709551615)) (take-append-drop x.level.lines ms) both in
        let swept : sweep_levels f b address ls ws ≡ and_then v w = ap (λ zs. sweep_levels f b address zs ws) F.is ∙ ap (and_then v) goes in
        subst (λ u. Done u kind ms (ms' ++ ms'') (ws' ++ ws'') (min (c + d) 18446744073709551615)) (sym swept) whole

    -- a direct-mapped hit: the later levels are skipped
    pub levels_stop : direct_hit (take x.level.words ws) at.set at.tag ≡ true → Done (sweep_levels f b address ls ws) kind ms (ms' ++ drop x.level.lines ms) (ws' ++ drop x.level.words ws) c
    levels_stop h =
        let N = level_words F.level.sets F.level.lines in
        let rest = skip (levels_hit F.rest) (drop N ws) in
        let goes = cond-true (direct_hit (take N ws) (set_of address b F.level.sets) (tag_of address b F.level.sets)) rest (sweep_levels f b address F.rest (drop N ws)) (sym same_hit ∙ h) in
        let all = first_then rest goes (done_skip kind (levels_hit F.rest) (drop x.level.lines ms) (drop N ws) (levels_true F.rest)) in
        let same_words : drop N ws ≡ drop x.level.words ws = ap (λ n. drop n ws) (sym F.span.words) in
        let capped : min (c + 0) 18446744073709551615 ≡ c = omega (arith, V.compared) in
        subst (λ k. Done (sweep_levels f b address ls ws) kind ms (ms' ++ drop x.level.lines ms) (ws' ++ drop x.level.words ws) k) capped
        (subst (λ vs. Done (sweep_levels f b address ls ws) kind ms (ms' ++ drop x.level.lines ms) (ws' ++ vs) (min (c + 0) 18446744073709551615)) same_words all)

    -- a miss: the later ones are swept
    pub levels_go : {ms'' : List (List ℕ)} {ws'' : List ℕ} {d : ℕ} → direct_hit (take x.level.words ws) at.set at.tag ≡ false → LevelsDone f address kind (drop x.level.lines es) (drop x.level.lines ms) (drop x.level.words ws) ms'' ws'' d
        → Done (sweep_levels f b address ls ws) kind ms (ms' ++ ms'') (ws' ++ ws'') (min (c + d) 18446744073709551615)
    levels_go {ms''} {ws''} {d} h R =
        let N = level_words F.level.sets F.level.lines in
        let goes = cond-false (direct_hit (take N ws) (set_of address b F.level.sets) (tag_of address b F.level.sets)) (skip (levels_hit F.rest) (drop N ws)) (sweep_levels f b address F.rest (drop N ws)) (sym same_hit ∙ h) in
        let later : SpansLevels b F.rest (drop x.level.lines es) = subst (λ n. SpansLevels b F.rest (drop n es)) (sym F.span.lines) F.later in
        let W : Done (sweep_levels f b address F.rest (drop N ws)) kind (drop x.level.lines ms) ms'' ws'' d =
        subst (λ n. Done (sweep_levels f b address F.rest (drop n ws)) kind (drop x.level.lines ms) ms'' ws'' d) F.span.words (R b F.rest later) in
        first_then (sweep_levels f b address F.rest (drop N ws)) goes W
