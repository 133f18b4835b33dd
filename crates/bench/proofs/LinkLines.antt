-- A line put before others that know where their levels end.
use Rattle.std.proofs.Common.{◌≡◌, ℕ, zero, suc, ◌+◌, ◌-◌, ◌^◌, ◌<◌, ◌≤◌, Bool, true, false, cond, ◌&&◌, eqb, List, [], ◌∷◌, map, length, get_or, take, drop, set, sym, refl, ap, ◌∙◌, subst, not-suc-le-zero, arith}
use borrow.Rule.Slice.PartMut.{put_mid}
use Rattle.std.proofs.lemmas.List.{length-take}
use Rattle.std.proofs.lemmas.Bool.{and_from, and_parts, cond-true, cond-false, eq-eqb, eqb-true}
use Rattle.bench.specs.OpenLines.{line_kin}
use Rattle.bench.specs.Joins.{Joins, added, joins_family, joins_level, linked, placed, rows, whole}
use Rattle.bench.specs.Level.{level_words}
use Rattle.bench.specs.Spans.{LevelSpan, Linked, SpansFamilies, SpansLevels, config, configs, levels_lines}
use Rattle.bench.specs.Table.{Family, Level, families, families_words, in_families, in_levels, levels_words, new_family, new_level}
use Rattle.bench.specs.Words.{row_words}
use Rattle.bench.proofs.Sizes.{power_eqb, wide_words}
use Rattle.bench.specs.declared.open_line.OpenLine.{OpenLine}
use Rattle.bench.proofs.RowWords.{first_kept}
use Rattle.bench.proofs.FamiliesSwept.{family_lines, first_family}
use Rattle.bench.proofs.LevelsSwept.{first_level, level_lines}

-- a level of its own
new_words : (x : OpenLine) → level_words (2 ^ x.geometry.set_bits) (line_kin x ∷ []) ≡ whole x.geometry
new_words x = omega (arith, wide_words (2 ^ x.geometry.set_bits) (line_kin x) [])

level_new : (x : OpenLine) (xs : List OpenLine) → x.level.lines ≡ 1 → x.level.words ≡ whole x.geometry → LevelSpan (2 ^ x.geometry.block_bits) (new_level (config x)) x (x ∷ xs)
level_new x xs n w = record { block = refl; sets = refl; lines = n; words = w ∙ sym (new_words x); kin = refl; some = omega arith }

-- the level of the next line
level_in : (b : ℕ) (l : Level) (x y : OpenLine) (ys : List OpenLine) → 2 ^ x.geometry.block_bits ≡ b → 2 ^ x.geometry.set_bits ≡ l.sets → LevelSpan b l y (y ∷ ys)
    → x.level.lines ≡ y.level.lines + 1 → x.level.words ≡ y.level.words + rows x.geometry
    → LevelSpan b (record { sets = l.sets; lines = line_kin x ∷ l.lines }) x (x ∷ y ∷ ys)
level_in b l x y ys eb es L n w = record {
  block = eb;
  sets = es;
  lines = omega (arith, L.lines);
  words = omega (arith, L.words, w, wide_words l.sets (line_kin x) l.lines, ap (λ n. row_words n (line_kin x)) es);
  kin = ap (λ ks. line_kin x ∷ ks) L.kin;
  some = omega arith;
}

-- the words of a level with one line more
level_more : (s : ℕ) (x : OpenLine) (l : Level) → 2 ^ x.geometry.set_bits ≡ l.sets → level_words l.sets (line_kin x ∷ l.lines) ≡ level_words l.sets l.lines + rows x.geometry
level_more s x l es = omega (arith, wide_words l.sets (line_kin x) l.lines, ap (λ n. row_words n (line_kin x)) es)

-- a block size of its own
pub family_new : (x : OpenLine) (xs : List OpenLine) (fs : List Family) → x.level.lines ≡ 1 → x.level.words ≡ whole x.geometry → x.family.lines ≡ 1 → x.family.words ≡ whole x.geometry
    → SpansFamilies fs xs → SpansFamilies (new_family (config x) ∷ fs) (x ∷ xs)
family_new x xs fs n w fn fw S = (record { block = refl; lines = fn; words = omega (arith, fw, new_words x); some = omega arith }, ((level_new x [] n w, refl), S))

-- the levels of the next line's block size
pub record Levels (b : ℕ) (x : OpenLine) (xs : List OpenLine) (ls ls' : List Level) (more : ℕ) : Type 0 where
  pub spans : SpansLevels b ls' (x ∷ xs)
  pub lines : levels_lines ls' ≡ suc (levels_lines ls)
  pub words : levels_words ls' ≡ levels_words ls + more

levels_join : (b : ℕ) (x y : OpenLine) (ys : List OpenLine) (ls : List Level) (words : ℕ) → 2 ^ x.geometry.block_bits ≡ b → joins_family x.geometry y ≡ true → SpansLevels b ls (y ∷ ys) → Joins x.geometry y x.level x.family words → Levels b x (y ∷ ys) ls (in_levels (config x) ls) words
levels_join b x y ys [] words eb jf S J = let z : suc (length ys) ≡ 0 = ap length S in absurd (omega arith)
levels_join b x y ys (l ∷ ls) words eb jf S J = go (eqb x.geometry.set_bits y.geometry.set_bits) refl
  where
    same : eqb (2 ^ x.geometry.set_bits) l.sets ≡ eqb x.geometry.set_bits y.geometry.set_bits
    same = ap (eqb (2 ^ x.geometry.set_bits)) (sym S.0.sets) ∙ power_eqb x.geometry.set_bits y.geometry.set_bits

    joined : (c : Bool) → eqb x.geometry.set_bits y.geometry.set_bits ≡ c → joins_level x.geometry y ≡ c
    joined c e = ap (λ f. f && eqb x.geometry.set_bits y.geometry.set_bits) jf ∙ e

    go : (c : Bool) → eqb x.geometry.set_bits y.geometry.set_bits ≡ c → Levels b x (y ∷ ys) (l ∷ ls) (in_levels (config x) (l ∷ ls)) words
    go true e =
        let j = joined true e in
        let l' : Level = record { sets = l.sets; lines = line_kin x ∷ l.lines } in
        let is : in_levels (config x) (l ∷ ls) ≡ l' ∷ ls = cond-true (eqb (2 ^ x.geometry.set_bits) l.sets) (l' ∷ ls) (new_level (config x) ∷ l ∷ ls) (same ∙ e) in
        let es : 2 ^ x.geometry.set_bits ≡ l.sets = eqb-true (2 ^ x.geometry.set_bits) l.sets (same ∙ e) in
        let n = J.level_lines ∙ cond-true (joins_level x.geometry y) (y.level.lines + 1) 1 j in
        let w = J.level_words ∙ cond-true (joins_level x.geometry y) (y.level.words + rows x.geometry) (whole x.geometry) j in
        let adds = J.adds ∙ cond-true (joins_level x.geometry y) (rows x.geometry) (whole x.geometry) j in
        subst (λ zs. Levels b x (y ∷ ys) (l ∷ ls) zs words) (sym is) (record {
          spans = (level_in b l x y ys eb es S.0 n w, S.1);
          lines = omega arith;
          words = omega (arith, adds, level_more l.sets x l es);
        })
    go false e =
        let j = joined false e in
        let l' : Level = record { sets = l.sets; lines = line_kin x ∷ l.lines } in
        let is : in_levels (config x) (l ∷ ls) ≡ new_level (config x) ∷ l ∷ ls = cond-false (eqb (2 ^ x.geometry.set_bits) l.sets) (l' ∷ ls) (new_level (config x) ∷ l ∷ ls) (same ∙ e) in
        let n = J.level_lines ∙ cond-false (joins_level x.geometry y) (y.level.lines + 1) 1 j in
        let w = J.level_words ∙ cond-false (joins_level x.geometry y) (y.level.words + rows x.geometry) (whole x.geometry) j in
        let adds = J.adds ∙ cond-false (joins_level x.geometry y) (rows x.geometry) (whole x.geometry) j in
        subst (λ zs. Levels b x (y ∷ ys) (l ∷ ls) zs words) (sym is) (record {
          spans = (subst (λ m. LevelSpan m (new_level (config x)) x (x ∷ y ∷ ys)) eb (level_new x (y ∷ ys) n w), S);
          lines = omega arith;
          words = omega (arith, adds, new_words x);
        })

-- a line before others
pub record Joined (x : OpenLine) (xs : List OpenLine) (fs fs' : List Family) (more : ℕ) : Type 0 where
  pub spans : SpansFamilies fs' (x ∷ xs)
  pub words : families_words fs' ≡ families_words fs + more

pub joined : (x y : OpenLine) (ys : List OpenLine) (fs : List Family) (words : ℕ) → SpansFamilies fs (y ∷ ys) → Joins x.geometry y x.level x.family words → Joined x (y ∷ ys) fs (in_families (config x) fs) words
joined x y ys [] words S J = let z : suc (length ys) ≡ 0 = ap length S in absurd (omega arith)
joined x y ys (f ∷ fs) words S J = go (joins_family x.geometry y) refl
  where
    same : eqb (2 ^ x.geometry.block_bits) f.block ≡ joins_family x.geometry y
    same = ap (eqb (2 ^ x.geometry.block_bits)) (sym S.0.block) ∙ power_eqb x.geometry.block_bits y.geometry.block_bits

    go : (c : Bool) → joins_family x.geometry y ≡ c → Joined x (y ∷ ys) (f ∷ fs) (in_families (config x) (f ∷ fs)) words
    go true j =
        let f' : Family = record { block = f.block; levels = in_levels (config x) f.levels } in
        let is : in_families (config x) (f ∷ fs) ≡ f' ∷ fs = cond-true (eqb (2 ^ x.geometry.block_bits) f.block) (f' ∷ fs) (new_family (config x) ∷ f ∷ fs) (same ∙ j) in
        let eb : 2 ^ x.geometry.block_bits ≡ f.block = eqb-true (2 ^ x.geometry.block_bits) f.block (same ∙ j) in
        let n = levels_lines f.levels in
        let m = n - 1 in
        let nm : n ≡ suc m = omega (arith, S.0.some) in
        let T : SpansLevels f.block f.levels (y ∷ take m ys) = subst (λ zs. SpansLevels f.block f.levels zs) (ap (λ k. take k (y ∷ ys)) nm) S.1.0 in
        let V = levels_join f.block x y (take m ys) f.levels words eb j T J in
        let fn = J.family_lines ∙ cond-true (joins_family x.geometry y) (y.family.lines + 1) 1 j in
        let fw = J.family_words ∙ cond-true (joins_family x.geometry y) (y.family.words + words) (whole x.geometry) j in
        let back : take (levels_lines (in_levels (config x) f.levels)) (x ∷ y ∷ ys) ≡ x ∷ y ∷ take m ys = ap (λ k. take k (x ∷ y ∷ ys)) (V.lines ∙ ap suc nm) in
        let rest : drop (levels_lines (in_levels (config x) f.levels)) (x ∷ y ∷ ys) ≡ drop n (y ∷ ys) = ap (λ k. drop k (x ∷ y ∷ ys)) V.lines in
        subst (λ zs. Joined x (y ∷ ys) (f ∷ fs) zs words) (sym is) (record {
          spans = (
            record { block = eb; lines = omega (arith, fn, S.0.lines, V.lines); words = omega (arith, fw, S.0.words, V.words); some = omega (arith, V.lines) },
            (subst (SpansLevels f.block (in_levels (config x) f.levels)) (sym back) V.spans, subst (SpansFamilies fs) (sym rest) S.1.1),
          );
          words = omega (arith, V.words);
        })
    go false j =
        let f' : Family = record { block = f.block; levels = in_levels (config x) f.levels } in
        let is : in_families (config x) (f ∷ fs) ≡ new_family (config x) ∷ f ∷ fs = cond-false (eqb (2 ^ x.geometry.block_bits) f.block) (f' ∷ fs) (new_family (config x) ∷ f ∷ fs) (same ∙ j) in
        let other : joins_level x.geometry y ≡ false = ap (λ b. b && eqb x.geometry.set_bits y.geometry.set_bits) j in
        let n = J.level_lines ∙ cond-false (joins_level x.geometry y) (y.level.lines + 1) 1 other in
        let w = J.level_words ∙ cond-false (joins_level x.geometry y) (y.level.words + rows x.geometry) (whole x.geometry) other in
        let fn = J.family_lines ∙ cond-false (joins_family x.geometry y) (y.family.lines + 1) 1 j in
        let fw = J.family_words ∙ cond-false (joins_family x.geometry y) (y.family.words + words) (whole x.geometry) j in
        let adds = J.adds ∙ cond-false (joins_level x.geometry y) (rows x.geometry) (whole x.geometry) other in
        subst (λ zs. Joined x (y ∷ ys) (f ∷ fs) zs words) (sym is) (record { spans = family_new x (y ∷ ys) (f ∷ fs) n w fn fw S; words = omega (arith, adds, new_words x) })

-- the four tests of a line's spans
four : (a b c d : Bool) → (a && (b && (c && d))) ≡ true → (a ≡ true) × ((b ≡ true) × ((c ≡ true) × (d ≡ true)))
four a b c d h =
    let p = and_parts a (b && (c && d)) h in
    let q = and_parts b (c && d) p.1 in
    (p.0, (q.0, and_parts c d q.1))

all_four : (a b c d : Bool) → a ≡ true → b ≡ true → c ≡ true → d ≡ true → (a && (b && (c && d))) ≡ true
all_four a b c d ea eb ec ed = and_from a _ ea (and_from b _ eb (and_from c d ec ed))

-- what the tests say
placed_joins : (x y : OpenLine) (ys : List OpenLine) → placed x (y ∷ ys) ≡ true → Joins x.geometry y x.level x.family (added x.geometry y)
placed_joins x y ys h =
    let p = four _ _ _ _ h in
    record { adds = refl; level_lines = eqb-true _ _ p.0; level_words = eqb-true _ _ p.1.0; family_lines = eqb-true _ _ p.1.1.0; family_words = eqb-true _ _ p.1.1.1 }

joins_placed : (x y : OpenLine) (ys : List OpenLine) (words : ℕ) → Joins x.geometry y x.level x.family words → placed x (y ∷ ys) ≡ true
joins_placed x y ys words J =
    all_four _ _ _ _ (eq-eqb _ _ J.level_lines) (eq-eqb _ _ J.level_words) (eq-eqb _ _ J.family_lines)
    (eq-eqb _ _ (J.family_words ∙ ap (λ n. cond (joins_family x.geometry y) (y.family.words + n) (whole x.geometry)) J.adds))

-- linked lines span the levels of their table
pub linked_spans : (xs : List OpenLine) → linked xs ≡ true → SpansFamilies (families (map config xs)) xs
linked_spans [] h = refl
linked_spans (x ∷ []) h =
    let p = four _ _ _ _ (and_parts (placed x []) true h).0 in
    family_new x [] [] (eqb-true _ _ p.0) (eqb-true _ _ p.1.0) (eqb-true _ _ p.1.1.0) (eqb-true _ _ p.1.1.1) refl
linked_spans (x ∷ y ∷ ys) h =
    (joined x y ys (families (map config (y ∷ ys))) (added x.geometry y) (linked_spans (y ∷ ys) (and_parts (placed x (y ∷ ys)) (linked (y ∷ ys)) h).1) (placed_joins x y ys (and_parts (placed x (y ∷ ys)) (linked (y ∷ ys)) h).0)).spans

pub linked_none : (es : List OpenLine) → length es ≡ 0 → Linked es es 0
linked_none [] e = record { geometry = refl; spans = refl; need = refl; small = omega arith }
linked_none (x ∷ es) e = absurd (omega arith)

-- the only line
pub linked_one : (es es'' : List OpenLine) (x d : OpenLine) (n : ℕ) → length es ≡ 1 → length es'' ≡ 0 → x.geometry ≡ (get_or es 0 d).geometry
    → x.level.lines ≡ 1 → x.level.words ≡ whole x.geometry → x.family.lines ≡ 1 → x.family.words ≡ whole x.geometry → n ≡ whole x.geometry → n ≤ 327680 → Linked es (x ∷ es'') n
linked_one [] es'' x d n one none eg ll lw fl fw en small = absurd (omega arith)
linked_one (y ∷ z ∷ es) es'' x d n one none eg ll lw fl fw en small = absurd (omega arith)
linked_one (y ∷ []) (z ∷ es'') x d n one none eg ll lw fl fw en small = absurd (omega arith)
linked_one (y ∷ []) [] x d n one none eg ll lw fl fw en small = record {
  geometry = ap (λ g. g ∷ []) eg;
  spans = and_from (placed x []) true (all_four _ _ _ _ (eq-eqb _ _ ll) (eq-eqb _ _ lw) (eq-eqb _ _ fl) (eq-eqb _ _ fw)) refl;
  need = omega (arith, en, new_words x);
  small = omega arith;
}

-- a line before others
pub linked_more : (es es'' : List OpenLine) (x y d : OpenLine) (later n : ℕ) → 0 < length es → 0 < length es'' → y ≡ get_or es'' 0 y → x.geometry ≡ (get_or es 0 d).geometry
    → Linked (drop 1 es) es'' later → Joins x.geometry y x.level x.family n → n ≤ 327680 → Linked es (x ∷ es'') (later + n)
linked_more [] es'' x y d later n some next ey eg L J small = absurd (not-suc-le-zero some)
linked_more (z ∷ es) [] x y d later n some next ey eg L J small = absurd (not-suc-le-zero next)
linked_more (z ∷ es) (w ∷ es'') x y d later n some next ey eg L J small =
    let J' = subst (λ v. Joins x.geometry v x.level x.family n) ey J in
    let K = joined x w es'' (families (configs (w ∷ es''))) n (linked_spans (w ∷ es'') L.spans) J' in
    record {
      geometry = ap (λ g. g ∷ map (λ v. v.geometry) (w ∷ es'')) eg ∙ ap (λ gs. z.geometry ∷ gs) L.geometry;
      spans = and_from (placed x (w ∷ es'')) (linked (w ∷ es'')) (joins_placed x w es'' n J') L.spans;
      need = omega (arith, K.words, L.need);
      small = omega (arith, L.small);
    }

-- a first line has fewer than 64 lines in its spans, where there are fewer than 64 lines
pub spans_few : (es : List OpenLine) (x : OpenLine) → x ≡ get_or es 0 x → 0 < length es → length es < 64 → linked es ≡ true → (x.level.lines < 64) × (x.family.lines < 64)
spans_few [] x is some few S = absurd (not-suc-le-zero some)
spans_few (y ∷ ys) x is some few S =
    let F = first_family (families (configs (y ∷ ys))) (y ∷ ys) x is some (linked_spans (y ∷ ys) S) in
    let m = levels_lines F.family.levels - 1 in
    let nm : levels_lines F.family.levels ≡ suc m = omega (arith, F.span.some) in
    let T : SpansLevels F.family.block F.family.levels (y ∷ take m ys) = subst (λ k. SpansLevels F.family.block F.family.levels (take k (y ∷ ys))) nm F.levels in
    let G = first_level F.family.block F.family.levels (y ∷ take m ys) x is (omega arith) T in
    (omega (arith, G.span.lines, level_lines G, family_lines F, nm, length-take m ys), omega (arith, F.span.lines, family_lines F))

-- more than one line, so there are others
pub others_there : (n m : ℕ) → (n ≡ 1 → ⊥) → n ≡ suc m → 0 < m
others_there n zero h e = absurd (h e)
others_there n (suc m) h e = omega arith

-- the first line with its spans, the others as the recursion left them
pub entries_after : (es es'' : List OpenLine) (x : OpenLine) → 0 < length es → set (put_mid 1 (length es - 1) es es'') 0 x ≡ x ∷ es''
entries_after es es'' x l = ap (λ zs. set zs 0 x) (first_kept x es es'' l)
