-- A proper table: its policies take the ways of their lines, block sizes and sets are multiples of those before them, the sets of
-- one block size rise, and at one level the ways of a policy rise. A table that an open accepts is proper.
use Rattle.std.proofs.Common.{◌≡◌, ℕ, zero, suc, ◌+◌, ◌-◌, ◌*◌, ◌^◌, ◌<◌, ◌≤◌, Bool, true, false, ◌&&◌, ◌||◌, eqb, ltb, ◌⊎◌, List, [], ◌∷◌, ◌++◌, map, is_some, Some, None, Option, sym, refl, ap, ◌∙◌, inl, inr, arith}
use Rattle.std.specs.List.{AllByRecursion}
use Rattle.std.proofs.lemmas.Nat.{pow-add, pow_below, pow_pos}
use Rattle.std.proofs.ByRecursion.{All-map, All-weaker}
use Rattle.std.proofs.lemmas.Bool.{and_parts, cases_lt, cond_both, eqb-false, eqb-true, ltb-true, or_cases, true≢false}
use Rattle.policy.specs.Three.{Three, policy_of, which}
use Rattle.policy.specs.declared.three.Member.{Member}
use Rattle.geometry.specs.Refusal.{Question, ask, first_no}
use Rattle.geometry.proofs.Asked.{passes, stops}
use Rattle.geometry.specs.Line.{line_questions, power_to, ways_taken}
use Rattle.geometry.specs.declared.line.Line.{Line}
use Rattle.policy.specs.Suite.{Suite, meaning, same}
use Rattle.bench.specs.Words.{Kin}
use Rattle.bench.specs.Table.{Config, Family, Level, config_of, families, in_families, in_levels, kin, named, new_family, new_level}
use Rattle.bench.specs.Opened.{No, at_line, before, in_order, lines_refusal, or_else, table_refusal}
use Rattle.bench.proofs.Restrict.{same_is}

pub record Multiple (a b : ℕ) : Type 0 where
  pub factor : ℕ
  pub multiple : b ≡ a * factor

-- a multiple that is greater
abbrev pub Larger : ℕ → ℕ → Type 0
Larger a b = (a < b) × Multiple a b

-- the lines of one level: each policy takes its ways, and a later line of the same policy has no fewer
abbrev pub ProperLines : Suite → List Kin → Type 0
ProperLines s [] = Unit {0}
ProperLines s (k ∷ ks) = ((meaning s k.member).takes k.ways ≡ true) × (AllByRecursion (λ j. same k.member j.member ≡ true → k.ways ≤ j.ways) ks × ProperLines s ks)

-- the levels of one block size
abbrev pub ProperLevels : Suite → List Level → Type 0
ProperLevels s [] = Unit {0}
ProperLevels s (l ∷ ls) = (0 < l.sets) × (ProperLines s l.lines × (AllByRecursion (λ m. Larger l.sets m.sets) ls × ProperLevels s ls))

-- all levels
abbrev pub ProperFamilies : Suite → List Family → Type 0
ProperFamilies s [] = Unit {0}
ProperFamilies s (f ∷ fs) = (0 < f.block) × (ProperLevels s f.levels × (AllByRecursion (λ g. Multiple f.block g.block) fs × ProperFamilies s fs))

-- powers of two
record Power (n : ℕ) : Type 0 where
  exponent : ℕ
  is : n ≡ 2 ^ exponent

power_is : (most n : ℕ) → power_to most n ≡ true → Power n
unfolding power_to
power_is zero n h = record { exponent = 0; is = eqb-true n 1 h }
power_is (suc most) n h = go (or_cases (eqb n (2 ^ suc most)) (power_to most n) h) (power_is most n)
  where
    go : (eqb n (2 ^ suc most) ≡ true) ⊎ (power_to most n ≡ true) → (power_to most n ≡ true → Power n) → Power n
    go (inl e) ih = record { exponent = suc most; is = eqb-true n (2 ^ suc most) e }
    go (inr e) ih = ih e

power_some : (n : ℕ) → Power n → 0 < n
power_some n P = omega (arith, P.is, pow_pos P.exponent)

-- of two powers of two the larger is a multiple
power_multiple : (a b : ℕ) → Power a → Power b → a ≤ b → Multiple a b
power_multiple a b A B le = go (cases_lt B.exponent A.exponent)
  where
    go : (B.exponent < A.exponent) ⊎ (A.exponent ≤ B.exponent) → Multiple a b
    go (inl l) = absurd (omega (arith, pow_below B.exponent A.exponent l, A.is, B.is))
    go (inr l) =
        let more = B.exponent - A.exponent in
        let sum : B.exponent ≡ A.exponent + more = omega arith in
        record { factor = 2 ^ more; multiple = B.is ∙ ap (λ e. 2 ^ e) sum ∙ pow-add 2 A.exponent more ∙ ap (λ n. n * 2 ^ more) (sym A.is) }

-- What holds of a line that passed its questions: its letter names a policy that takes its ways, and its numbers are powers of two.
record Passed (p : Three) (l : Line) : Type 0 where
  member : Member
  letter : which p l.letter ≡ Some member
  takes : (policy_of p member).takes l.ways ≡ true
  sets : Power l.sets
  block : Power l.block

pub all_pass : (qs : List Question) → first_no qs ≡ None → AllByRecursion (λ q. q.passes ≡ true) qs
all_pass [] e = tt
all_pass (q ∷ qs) e = go q.passes refl (all_pass qs)
  where
    go : (b : Bool) → q.passes ≡ b → (first_no qs ≡ None → AllByRecursion (λ r. r.passes ≡ true) qs) → AllByRecursion (λ r. r.passes ≡ true) (q ∷ qs)
    go true p ih = (p, ih (sym (passes q.number q.passes qs p) ∙ e))
    go false p ih = let z : ◌≡◌ {A = ℕ} 0 1 = cc (stops q.number q.passes qs p) in absurd (omega arith)

pub none_both : (x y : Option No) → or_else x y ≡ None → (x ≡ None) × (y ≡ None)
none_both None y e = (refl, e)
none_both (Some x) y e = let z : ◌≡◌ {A = ℕ} 0 1 = cc in absurd (omega arith)

pub none_at : (i : ℕ) (x : Option ℕ) → at_line i x ≡ None → x ≡ None
none_at i None e = refl
none_at i (Some x) e = let z : ◌≡◌ {A = ℕ} 0 1 = cc in absurd (omega arith)

line_passed : (p : Three) (l : Line) → AllByRecursion (λ q. q.passes ≡ true) (line_questions p l) → Passed p l
line_passed p l a = go (which p l.letter) refl a.0 a.1.1.1.0
  where
    go : (o : Option Member) → which p l.letter ≡ o → is_some o ≡ true → ways_taken p o l.ways ≡ true → Passed p l
    go None e h w = absurd (true≢false (sym h))
    go (Some k) e h w = record { member = k; letter = e; takes = w; sets = power_is 14 l.sets a.1.0; block = power_is 10 l.block a.1.1.0 }

-- the order of lines, without its strictness
record Ordered (x y : Line) : Type 0 where
  block : x.block ≤ y.block
  sets : x.block ≡ y.block → x.sets ≤ y.sets
  letter : x.block ≡ y.block → x.sets ≡ y.sets → x.letter ≤ y.letter
  ways : x.block ≡ y.block → x.sets ≡ y.sets → x.letter ≡ y.letter → x.ways ≤ y.ways

ordered_trans : (x y z : Line) → Ordered x y → Ordered y z → Ordered x z
ordered_trans x y z P Q = record {
  block = omega (arith, P.block, Q.block);
  sets = sets;
  letter = letter;
  ways = λ b c d. omega (arith, P.ways (blocks b).0 (same_sets b c).0 (letters b c d).0, Q.ways (blocks b).1 (same_sets b c).1 (letters b c d).1);
}
  where
    blocks : x.block ≡ z.block → (x.block ≡ y.block) × (y.block ≡ z.block)
    blocks b = (omega (arith, P.block, Q.block), omega (arith, P.block, Q.block))

    sets : x.block ≡ z.block → x.sets ≤ z.sets
    sets b = omega (arith, P.sets (blocks b).0, Q.sets (blocks b).1)

    same_sets : x.block ≡ z.block → x.sets ≡ z.sets → (x.sets ≡ y.sets) × (y.sets ≡ z.sets)
    same_sets b c = (omega (arith, P.sets (blocks b).0, Q.sets (blocks b).1), omega (arith, P.sets (blocks b).0, Q.sets (blocks b).1))

    letter : x.block ≡ z.block → x.sets ≡ z.sets → x.letter ≤ z.letter
    letter b c = omega (arith, P.letter (blocks b).0 (same_sets b c).0, Q.letter (blocks b).1 (same_sets b c).1)

    letters : x.block ≡ z.block → x.sets ≡ z.sets → x.letter ≡ z.letter → (x.letter ≡ y.letter) × (y.letter ≡ z.letter)
    letters b c d =
        let p = P.letter (blocks b).0 (same_sets b c).0 in
        let q = Q.letter (blocks b).1 (same_sets b c).1 in
        (omega arith, omega arith)

before_ordered : (x y : Line) → before x y ≡ true → Ordered x y
before_ordered x y h = by_block (or_cases _ _ h)
  where
    by_letter : x.block ≡ y.block → x.sets ≡ y.sets → (ltb x.letter y.letter ≡ true) ⊎ ((eqb x.letter y.letter && ltb x.ways y.ways) ≡ true) → Ordered x y
    by_letter b c (inl e) = let l = ltb-true _ _ e in record { block = omega arith; sets = λ _. omega arith; letter = λ _ _. omega arith; ways = λ _ _ d. absurd (omega arith) }
    by_letter b c (inr e) =
        let (same, fewer) = and_parts (eqb x.letter y.letter) (ltb x.ways y.ways) e in
        let d : x.letter ≡ y.letter = eqb-true _ _ same in
        let l : x.ways < y.ways = ltb-true _ _ fewer in
        record { block = omega arith; sets = λ _. omega arith; letter = λ _ _. omega arith; ways = λ _ _ _. omega arith }

    by_sets : x.block ≡ y.block → (ltb x.sets y.sets ≡ true) ⊎ ((eqb x.sets y.sets && (ltb x.letter y.letter || (eqb x.letter y.letter && ltb x.ways y.ways))) ≡ true) → Ordered x y
    by_sets b (inl e) = let l = ltb-true _ _ e in record { block = omega arith; sets = λ _. omega arith; letter = λ _ c. absurd (omega arith); ways = λ _ c _. absurd (omega arith) }
    by_sets b (inr e) = by_letter b (eqb-true _ _ (and_parts _ _ e).0) (or_cases _ _ (and_parts _ _ e).1)

    by_block : (ltb x.block y.block ≡ true)
        ⊎ ((eqb x.block y.block && (ltb x.sets y.sets || (eqb x.sets y.sets && (ltb x.letter y.letter || (eqb x.letter y.letter && ltb x.ways y.ways))))) ≡ true) → Ordered x y
    by_block (inl e) = let l = ltb-true _ _ e in record { block = omega arith; sets = λ b. absurd (omega arith); letter = λ b _. absurd (omega arith); ways = λ b _ _. absurd (omega arith) }
    by_block (inr e) = by_sets (eqb-true _ _ (and_parts _ _ e).0) (or_cases _ _ (and_parts _ _ e).1)

-- a letter that names a policy is the policy's
letter_is : (p : Three) (letter : ℕ) (k : Member) → which p letter ≡ Some k → letter ≡ (policy_of p k).letter
letter_is p letter k e = go (eqb letter p.first.letter) refl (eqb letter p.second.letter) refl (eqb letter p.further.letter) refl
  where
    go : (a : Bool) → eqb letter p.first.letter ≡ a → (b : Bool) → eqb letter p.second.letter ≡ b → (c : Bool) → eqb letter p.further.letter ≡ c → letter ≡ (policy_of p k).letter
    go true i b j c h = cc (eqb-true letter p.first.letter i)
    go false i true j c h = cc (eqb-true letter p.second.letter j)
    go false i false j true h = cc (eqb-true letter p.further.letter h)
    go false i false j false h = cc

-- What holds of a line of an open table, and of one before another.
record Good (s : Suite) (c : Config) : Type 0 where
  takes : (meaning s c.member).takes c.ways ≡ true
  sets : Power c.sets
  block : Power c.block

record Earlier (c d : Config) : Type 0 where
  block : c.block ≤ d.block
  sets : c.block ≡ d.block → c.sets ≤ d.sets
  ways : c.block ≡ d.block → c.sets ≡ d.sets → same c.member d.member ≡ true → c.ways ≤ d.ways

passed_good : (s : Suite) (l : Line) → Passed s.three l → Good s (config_of s.three l)
passed_good s l P = record { takes = ap (λ o. (meaning s (named o)).takes l.ways) P.letter ∙ P.takes; sets = P.sets; block = P.block }

passed_earlier : (p : Three) (x y : Line) → Passed p x → Passed p y → Ordered x y → Earlier (config_of p x) (config_of p y)
passed_earlier p x y X Y O = record { block = O.block; sets = O.sets; ways = λ b c m. O.ways b c (letters m) }
  where
    letters : same (named (which p x.letter)) (named (which p y.letter)) ≡ true → x.letter ≡ y.letter
    letters m =
        let is : X.member ≡ Y.member = sym (ap named X.letter) ∙ same_is _ _ m ∙ ap named Y.letter in
        letter_is p x.letter X.member X.letter ∙ ap (λ k. (policy_of p k).letter) is ∙ sym (letter_is p y.letter Y.member Y.letter)

-- a line before the levels of its block size, and before all levels
record BeforeLevel (c : Config) (l : Level) : Type 0 where
  sets : c.sets ≤ l.sets
  power : Power l.sets
  lines : c.sets ≡ l.sets → AllByRecursion (λ j. same c.member j.member ≡ true → c.ways ≤ j.ways) l.lines

record BeforeFamily (c : Config) (f : Family) : Type 0 where
  block : c.block ≤ f.block
  power : Power f.block
  levels : c.block ≡ f.block → AllByRecursion (BeforeLevel c) f.levels

-- it is also before them with a line d that it is before
module _ (s : Suite) (c d : Config) (G : Good s d) (E : Earlier c d) where
  before-new_level : c.block ≡ d.block → BeforeLevel c (new_level d)
  before-new_level b = record { sets = E.sets b; power = G.sets; lines = λ e. (E.ways b e, tt) }

  before_levels : c.block ≡ d.block → (ls : List Level) → AllByRecursion (BeforeLevel c) ls → AllByRecursion (BeforeLevel c) (in_levels d ls)
  before_levels b [] B = (before-new_level b, tt)
  before_levels b (l ∷ ls) B = cond_both (eqb d.sets l.sets) _ _ (AllByRecursion (BeforeLevel c)) joins news
    where
      joins : eqb d.sets l.sets ≡ true → AllByRecursion (BeforeLevel c) (record { sets = l.sets; lines = kin d ∷ l.lines } ∷ ls)
      joins e =
          let is : d.sets ≡ l.sets = eqb-true d.sets l.sets e in
          (record { sets = B.0.sets; power = B.0.power; lines = λ h. (E.ways b (h ∙ sym is), B.0.lines h) }, B.1)

      news : eqb d.sets l.sets ≡ false → AllByRecursion (BeforeLevel c) (new_level d ∷ l ∷ ls)
      news e = (before-new_level b, B)

  before-new_family : BeforeFamily c (new_family d)
  before-new_family = record { block = E.block; power = G.block; levels = λ b. (before-new_level b, tt) }

  before-families : (fs : List Family) → AllByRecursion (BeforeFamily c) fs → AllByRecursion (BeforeFamily c) (in_families d fs)
  before-families [] B = (before-new_family, tt)
  before-families (f ∷ fs) B = cond_both (eqb d.block f.block) _ _ (AllByRecursion (BeforeFamily c)) joins news
    where
      joins : eqb d.block f.block ≡ true → AllByRecursion (BeforeFamily c) (record { block = f.block; levels = in_levels d f.levels } ∷ fs)
      joins e =
          let is : d.block ≡ f.block = eqb-true d.block f.block e in
          (record { block = B.0.block; power = B.0.power; levels = λ b. before_levels (b ∙ sym is) f.levels (B.0.levels b) }, B.1)

      news : eqb d.block f.block ≡ false → AllByRecursion (BeforeFamily c) (new_family d ∷ f ∷ fs)
      news e = (before-new_family, B)

-- and before all levels of lines that it is before
before_all : (s : Suite) (c : Config) (ds : List Config) → AllByRecursion (λ d. Good s d × Earlier c d) ds → AllByRecursion (BeforeFamily c) (families ds)
before_all s c [] a = tt
before_all s c (d ∷ ds) a = before-families s c d a.0.0 a.0.1 (families ds) (before_all s c ds a.1)

-- a table stays proper with a line before it
module _ (s : Suite) (c : Config) (G : Good s c) where
  proper_new_level : ProperLevels s (new_level c ∷ [])
  proper_new_level = (power_some c.sets G.sets, ((G.takes, (tt, tt)), (tt, tt)))

  -- the greater sets of later levels are multiples
  all_larger : (ls : List Level) → AllByRecursion (BeforeLevel c) ls → AllByRecursion (λ m. c.sets < m.sets) ls → AllByRecursion (λ m. Larger c.sets m.sets) ls
  all_larger [] B rise = tt
  all_larger (m ∷ ms) B rise = ((rise.0, power_multiple c.sets m.sets G.sets B.0.power B.0.sets), all_larger ms B.1 rise.1)

  proper_levels : (ls : List Level) → AllByRecursion (BeforeLevel c) ls → ProperLevels s ls → ProperLevels s (in_levels c ls)
  proper_levels [] B P = proper_new_level
  proper_levels (l ∷ ls) B P = cond_both (eqb c.sets l.sets) _ _ (ProperLevels s) joins news
    where
      joins : eqb c.sets l.sets ≡ true → ProperLevels s (record { sets = l.sets; lines = kin c ∷ l.lines } ∷ ls)
      joins e = (P.0, ((G.takes, (B.0.lines (eqb-true c.sets l.sets e), P.1.0)), P.1.1))

      news : eqb c.sets l.sets ≡ false → ProperLevels s (new_level c ∷ l ∷ ls)
      news e =
          let less : c.sets < l.sets = omega (arith, B.0.sets, eqb-false c.sets l.sets e) in
          let later = All-weaker (λ m. Larger l.sets m.sets) (λ m. c.sets < m.sets) (λ m q. omega (arith, less, q.0)) ls P.1.1.0 in
          (proper_new_level.0, (proper_new_level.1.0, (all_larger (l ∷ ls) B (less, later), P)))

  proper_new_family : (0 < c.block) × ProperLevels s (new_level c ∷ [])
  proper_new_family = (power_some c.block G.block, proper_new_level)

  proper_families : (fs : List Family) → AllByRecursion (BeforeFamily c) fs → ProperFamilies s fs → ProperFamilies s (in_families c fs)
  proper_families [] B P = (proper_new_family.0, (proper_new_family.1, (tt, tt)))
  proper_families (f ∷ fs) B P = cond_both (eqb c.block f.block) _ _ (ProperFamilies s) joins news
    where
      joins : eqb c.block f.block ≡ true → ProperFamilies s (record { block = f.block; levels = in_levels c f.levels } ∷ fs)
      joins e = (P.0, (proper_levels f.levels (B.0.levels (eqb-true c.block f.block e)) P.1.0, P.1.1))

      news : eqb c.block f.block ≡ false → ProperFamilies s (new_family c ∷ f ∷ fs)
      news e = (proper_new_family.0, (proper_new_family.1, (All-weaker (BeforeFamily c) _ (λ g b. power_multiple c.block g.block G.block b.power b.block) (f ∷ fs) B, P)))

-- the first line of lines that pass: it does, it is greater than the last, and the others pass after it
record FirstPasses (p : Three) (i : ℕ) (last : Option Line) (l : Line) (ls : List Line) : Type 0 where
  passed : Passed p l
  order : in_order last l ≡ true
  others : lines_refusal p (suc i) (Some l) ls ≡ None

first_passes : (p : Three) (i : ℕ) (last : Option Line) (l : Line) (ls : List Line) → lines_refusal p i last (l ∷ ls) ≡ None → FirstPasses p i last l ls
first_passes p i last l ls e =
    let (mine, others) = none_both _ _ e in
    let a = all_pass (line_questions p l ++ (ask 10 (in_order last l) ∷ [])) (none_at i _ mine) in
    record { passed = line_passed p l (a.0, (a.1.0, (a.1.1.0, (a.1.1.1.0, tt)))); order = a.1.1.1.1.0; others = others }

-- lines that pass after x are all greater
later_ordered : (p : Three) (i : ℕ) (x : Line) (ls : List Line) → lines_refusal p i (Some x) ls ≡ None → AllByRecursion (λ y. Passed p y × Ordered x y) ls
later_ordered p i x [] e = tt
later_ordered p i x (y ∷ ls) e =
    let F = first_passes p i (Some x) y ls e in
    let O = before_ordered x y F.order in
    ((F.passed, O), All-weaker (λ z. Passed p z × Ordered y z) _ (λ z a. (a.0, ordered_trans x y z O a.1)) ls (later_ordered p (suc i) y ls F.others))

lines_proper : (s : Suite) (i : ℕ) (last : Option Line) (ls : List Line) → lines_refusal s.three i last ls ≡ None → ProperFamilies s (families (map (config_of s.three) ls))
lines_proper s i last [] e = tt
lines_proper s i last (l ∷ ls) e =
    let p = s.three in
    let F = first_passes p i last l ls e in
    let later = All-weaker _ (λ y. Good s (config_of p y) × Earlier (config_of p l) (config_of p y)) (λ y a. (passed_good s y a.0, passed_earlier p l y F.passed a.0 a.1)) ls (later_ordered p (suc i) l ls F.others) in
    proper_families s (config_of p l) (passed_good s l F.passed) (families (map (config_of p) ls))
    (before_all s (config_of p l) (map (config_of p) ls) (All-map _ (config_of p) ls later))
    (lines_proper s (suc i) (Some l) ls F.others)

-- a table that is accepted is proper
pub accepted_proper : (s : Suite) (lines : List Line) → table_refusal s.three lines ≡ None → ProperFamilies s (families (map (config_of s.three) lines))
accepted_proper s lines e = lines_proper s 1 None lines (none_both _ _ e).1
