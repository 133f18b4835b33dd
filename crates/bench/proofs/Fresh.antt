-- Fresh caches, as an open and a flush make them: the reference model holds what it keeps between calls, and the started words
-- stand beside it.
use Rattle.std.proofs.Common.{◌≡◌, ℕ, zero, suc, ◌+◌, ◌*◌, ◌%◌, ◌<◌, ◌≤◌, Bool, true, false, not, eqb, List, [], ◌∷◌, ◌++◌, map, length, get_or, take, drop, replicate, Some, None, sym, refl, ap, ◌∙◌, subst, ap₂, subst₂, mod-lt, arith}
use Rattle.std.specs.List.{AllByRecursion}
use Rattle.std.proofs.ByRecursion.{All-weaker}
use Rattle.std.proofs.lemmas.List.{append_assoc, append-nil, drop_at, get_or-replicate, length-append, length-replicate, take_all, take_at}
use Rattle.std.proofs.lemmas.Bool.{and_left, and_parts, cond_both, cond-false, cond-true, not-false, not-true, true≢false}
use Rattle.policy.specs.declared.three.Member.{Member}
use Rattle.policy.specs.SearchLemmas.{all_replicate}
use Rattle.standalone.specs.Rows.{laid, row_at}
use Rattle.standalone.proofs.Laid.{length_laid, row_laid}
use Rattle.policy.specs.Suite.{Suite, Lawful, meaning, nesting, same}
use Rattle.bench.specs.Rows.{Slot, leads}
use Rattle.bench.specs.Mixed.{Owned, rows_of}
use Rattle.bench.specs.Words.{Kin, line_words, lines_words, one_way, rows_at, slot_of, wide}
use Rattle.bench.specs.Level.{level_words}
use Rattle.bench.specs.Table.{Family, Level, families_words, levels_words}
use Rattle.bench.specs.Model.{FamilyModel, LevelModel, LineModel, family_of, level_of, new_family, new_level, new_line}
use Rattle.bench.specs.Start.{any_of, follows, started, started_level, started_levels, started_lines, started_row}
use Rattle.bench.specs.Beside.{Follows, Leading, leader}
use Rattle.bench.specs.Abreast.{Abreast, AllAbreast}
use Rattle.bench.specs.Kept.{Coarser, FamiliesKept, Includes, LevelKept, LevelsKept, LineKept, Recent}
use Rattle.bench.specs.Tracks.{FamiliesTrack, LevelTracks, LevelsTrack, direct_layout, kins, set_rows}
use Rattle.bench.proofs.Restrict.{same_is}
use Rattle.bench.proofs.Proper.{Larger, ProperFamilies, ProperLevels, ProperLines}

-- a line whose cache of so many sets is new, and a level whose caches are
abbrev pub FreshLine : Suite → ℕ → LineModel → Type 0
FreshLine s sets z = z.cache.rows ≡ replicate sets ((meaning s z.kin.member).start (z.kin.ways + 1))

pub record FreshLevel (s : Suite) (l : LevelModel) : Type 0 where
  pub tags : l.direct.tags ≡ replicate l.sets None
  pub lines : AllByRecursion (FreshLine s l.sets) l.lines

-- all levels
abbrev pub FreshFamilies : Suite → List FamilyModel → Type 0
FreshFamilies s fs = AllByRecursion (λ f. AllByRecursion (FreshLevel s) f.levels) fs

-- what holds of all images holds of what they are images of
all_of_map : {X Y : Type 0} (P : Y → Type 0) (f : X → Y) (xs : List X) → AllByRecursion P (map f xs) → AllByRecursion (λ x. P (f x)) xs
all_of_map P f [] a = tt
all_of_map P f (x ∷ xs) a = (a.0, all_of_map P f xs a.1)

-- new caches are fresh
lines_fresh : (s : Suite) (sets : ℕ) (ks : List Kin) → AllByRecursion (FreshLine s sets) (map (new_line s sets) ks)
lines_fresh s sets [] = tt
lines_fresh s sets (k ∷ ks) = (refl, lines_fresh s sets ks)

levels_fresh : (s : Suite) (ls : List Level) → AllByRecursion (FreshLevel s) (map (new_level s) ls)
levels_fresh s [] = tt
levels_fresh s (l ∷ ls) = (record { tags = refl; lines = lines_fresh s l.sets l.lines }, levels_fresh s ls)

pub new_fresh : (s : Suite) (fs : List Family) → FreshFamilies s (map (new_family s) fs)
new_fresh s [] = tt
new_fresh s (f ∷ fs) = (levels_fresh s f.levels, new_fresh s fs)

-- and are of the table that they were made for
lines_shape : (s : Suite) (sets : ℕ) (ks : List Kin) → map (λ x. x.kin) (map (new_line s sets) ks) ≡ ks
lines_shape s sets [] = refl
lines_shape s sets (k ∷ ks) = ap (λ js. k ∷ js) (lines_shape s sets ks)

levels_shape : (s : Suite) (ls : List Level) → map level_of (map (new_level s) ls) ≡ ls
levels_shape s [] = refl
levels_shape s (l ∷ ls) = ap₂ (λ ks ms. record { sets = l.sets; lines = ks } ∷ ms) (lines_shape s l.sets l.lines) (levels_shape s ls)

pub new_shape : (s : Suite) (fs : List Family) → map family_of (map (new_family s) fs) ≡ fs
new_shape s [] = refl
new_shape s (f ∷ fs) = ap₂ (λ ls gs. record { block = f.block; levels = ls } ∷ gs) (levels_shape s f.levels) (new_shape s fs)

-- the model between calls
module _ (s : Suite) (l : LevelModel) (F : FreshLevel s l) where
  fresh_tag : (i : ℕ) → i < l.sets → get_or l.direct.tags i None ≡ None
  fresh_tag i low = ap (λ ts. get_or ts i None) F.tags ∙ get_or-replicate l.sets i None None low

  line_kept : (z : LineModel) → (meaning s z.kin.member).takes z.kin.ways ≡ true → FreshLine s l.sets z → LineKept s l.sets l.direct.tags z
  line_kept z takes e = record {
    takes = takes;
    rows = ap length e ∙ length-replicate l.sets _;
    recent = λ i low. subst (λ o. Recent (meaning s z.kin.member) z.kin.ways o (get_or z.cache.rows i [])) (sym (fresh_tag i low))
        (ap (λ rs. get_or rs i []) e ∙ get_or-replicate l.sets i _ [] low);
  }

  lines_kept : (zs : List LineModel) → ProperLines s (map (λ z. z.kin) zs) → AllByRecursion (FreshLine s l.sets) zs → AllByRecursion (LineKept s l.sets l.direct.tags) zs
  lines_kept [] P a = tt
  lines_kept (z ∷ zs) P a = (line_kept z P.0 a.0, lines_kept zs P.1.1 a.1)

  level_kept : 0 < l.sets → ProperLines s (map (λ z. z.kin) l.lines) → LevelKept s l
  level_kept some P = record { some = some; tags = ap length F.tags ∙ length-replicate l.sets None; lines = lines_kept l.lines P F.lines }

  -- a fresh level holds nothing, so that any larger one holds what it does
  fresh_includes : 0 < l.sets → (larger : LevelModel) → Larger l.sets larger.sets → Includes l larger
  fresh_includes some larger M = record { more = M.0; factor = M.1.factor; multiple = M.1.multiple; holds = λ k h. absurd (none_some (sym (fresh_tag (k % l.sets) (mod-lt k some)) ∙ h)) }
    where
      none_some : {t : ℕ} → None ≡ Some t → ⊥
      none_some e = let z : ◌≡◌ {A = ℕ} 0 1 = cc in omega arith

levels_kept : (s : Suite) (ls : List LevelModel) → ProperLevels s (map level_of ls) → AllByRecursion (FreshLevel s) ls → LevelsKept s ls
levels_kept s [] P a = tt
levels_kept s (l ∷ ls) P a =
    (level_kept s l a.0 P.0 P.1.0, (All-weaker _ (Includes l) (fresh_includes s l a.0 P.0) ls (all_of_map _ level_of ls P.1.1.0), levels_kept s ls P.1.1.1 a.1))

pub fresh_kept : (s : Suite) (fs : List FamilyModel) → ProperFamilies s (map family_of fs) → FreshFamilies s fs → FamiliesKept s fs
fresh_kept s [] P a = tt
fresh_kept s (f ∷ fs) P a =
    let coarser = All-weaker _ (Coarser f) (λ g M. record { factor = M.factor; multiple = M.multiple }) fs (all_of_map _ family_of fs P.1.1.0) in
    (P.0, (levels_kept s f.levels P.1.0 a.0, (coarser, fresh_kept s fs P.1.1.1 a.1)))

-- the row that a started line has in each set
abbrev started_slot : Suite → Kin → List Kin → Slot
started_slot s k ks = record { ways = k.ways; lead = get_or (started_row s k ks) 0 0; row = drop 1 (started_row s k ks) }

-- one a line
abbrev started_slots : Suite → List Kin → List Owned
started_slots s [] = []
started_slots s (k ∷ ks) = record { member = k.member; slot = started_slot s k ks } ∷ started_slots s ks

-- a row leads unless it follows, and a leader's is the started row
module _ (s : Suite) (k : Kin) (ks : List Kin) where
  slot_leads : leads (started_slot s k ks) ≡ not (follows k ks)
  slot_leads = go (follows k ks) refl
    where
      go : (b : Bool) → follows k ks ≡ b → leads (started_slot s k ks) ≡ not (follows k ks)
      go true e = ap (λ r. eqb (get_or r 0 0) 0) (cond-true (follows k ks) _ _ e) ∙ sym (ap not e)
      go false e = ap (λ r. eqb (get_or r 0 0) 0) (cond-false (follows k ks) _ _ e) ∙ sym (ap not e)

  slot_starts : follows k ks ≡ false → (started_slot s k ks).row ≡ (meaning s k.member).start (k.ways + 1)
  slot_starts e = ap (drop 1) (cond-false (follows k ks) _ _ e)

-- ways that rise among lines rise among their rows
rising : (s : Suite) (k : Member) (a : ℕ) (js : List Kin) → AllByRecursion (λ j. same k j.member ≡ true → a ≤ j.ways) js → AllByRecursion (λ y. a ≤ y.ways) (rows_of k (started_slots s js))
rising s k a [] h = tt
rising s k a (j ∷ js) h = cond_both (same k j.member) _ _ (AllByRecursion (λ (y : Slot). a ≤ y.ways)) (λ e. (h.0 e, rising s k a js h.1)) (λ _. rising s k a js h.1)

-- the wider lines of a proper level are proper
all_wide : (P : Kin → Type 0) (ks : List Kin) → AllByRecursion P ks → AllByRecursion P (wide ks)
all_wide P [] a = tt
all_wide P (k ∷ ks) a = cond_both (one_way k) _ _ (AllByRecursion P) (λ _. all_wide P ks a.1) (λ _. (a.0, all_wide P ks a.1))

proper_wide : (s : Suite) (ks : List Kin) → ProperLines s ks → ProperLines s (wide ks)
proper_wide s [] P = tt
proper_wide s (k ∷ ks) P = cond_both (one_way k) _ _ (ProperLines s) (λ _. proper_wide s ks P.1.1) (λ _. (P.0, (all_wide _ ks P.1.0, proper_wide s ks P.1.1)))

-- the standalone rows of a set: of these lines, and of the wider ones of a fresh level
abbrev start_rows : Suite → List Kin → List (List ℕ)
start_rows s ks = map (λ k. (meaning s k.member).start (k.ways + 1)) ks

fresh-rows : (s : Suite) (sets i : ℕ) → i < sets → (zs : List LineModel) → AllByRecursion (FreshLine s sets) zs → set_rows i zs ≡ start_rows s (wide (map (λ z. z.kin) zs))
fresh-rows s sets i low [] F = refl
fresh-rows s sets i low (z ∷ zs) F = go (one_way z.kin) refl (fresh-rows s sets i low zs F.1)
  where
    go : (b : Bool) → one_way z.kin ≡ b → set_rows i zs ≡ start_rows s (wide (map (λ z. z.kin) zs)) → set_rows i (z ∷ zs) ≡ start_rows s (wide (map (λ z. z.kin) (z ∷ zs)))
    go true e ih = rw e ih
    go false e ih = rw e (ap₂ (λ q qs. q ∷ qs) (ap (λ rs. get_or rs i []) F.0 ∙ get_or-replicate sets i _ [] low) ih)

-- the words of an empty direct-mapped cache
direct_empty : (n : ℕ) → direct_layout (replicate n None) ≡ replicate (2 * n) 0
direct_empty zero = refl
direct_empty (suc n) =
    let two : suc (suc (2 * n)) ≡ 2 * suc n = omega arith in
    ap (λ ws. 0 ∷ 0 ∷ ws) (direct_empty n) ∙ ap (λ m. replicate m 0) two

module _ (s : Suite) (L : Lawful s) where
  -- a started row has a lead word, a head word, and a word a way
  row_words : (k : Kin) (ks : List Kin) → (meaning s k.member).takes k.ways ≡ true → length (started_row s k ks) ≡ k.ways + 2
  row_words k ks takes =
      let laws = L.laws k.member in
      cond_both (follows k ks) _ _ (λ (r : List ℕ). length r ≡ k.ways + 2)
      (λ _. omega (arith, length-replicate {A = ℕ} (k.ways + 1) 0))
      (λ _. omega (arith, laws.words k.ways ((meaning s k.member).start (k.ways + 1)) takes (laws.started k.ways takes)))

  slot_started : (k : Kin) (ks : List Kin) → (meaning s k.member).takes k.ways ≡ true → slot_of (started_row s k ks) ≡ started_slot s k ks
  slot_started k ks takes = ap (λ n. record { ways = n; lead = get_or (started_row s k ks) 0 0; row = drop 1 (started_row s k ks) }) (omega (arith, row_words k ks takes))

  -- the rows of a line in all sets
  module _ (sets : ℕ) (k : Kin) (ks : List Kin) (takes : (meaning s k.member).takes k.ways ≡ true) where
    whole : AllByRecursion (λ r. length r ≡ k.ways + 2) (replicate sets (started_row s k ks))
    whole = all_replicate _ sets (started_row s k ks) (row_words k ks takes)

    laid_words : length (laid (replicate sets (started_row s k ks))) ≡ line_words sets k.ways
    laid_words = length_laid (k.ways + 2) (replicate sets (started_row s k ks)) whole ∙ ap (λ n. n * (k.ways + 2)) (length-replicate sets (started_row s k ks))

    laid_row : (i : ℕ) → i < sets → row_at (k.ways + 2) i (laid (replicate sets (started_row s k ks))) ≡ started_row s k ks
    laid_row i low =
        let r = started_row s k ks in
        ap (row_at (k.ways + 2) i) (sym (append-nil (laid (replicate sets r))))
        ∙ row_laid (k.ways + 2) i (replicate sets r) [] whole (omega (arith, length-replicate sets r))
        ∙ get_or-replicate sets i r [] low

  lines_started : (sets : ℕ) (ks : List Kin) → ProperLines s ks → length (started_lines s sets ks) ≡ lines_words sets ks
  lines_started sets [] P = refl
  lines_started sets (k ∷ ks) P = length-append (laid (replicate sets (started_row s k ks))) (started_lines s sets ks) ∙ ap₂ (λ m n. m + n) (laid_words sets k ks P.0) (lines_started sets ks P.1.1)

  -- the rows of set i
  rows-started : (sets i : ℕ) → i < sets → (ks : List Kin) → ProperLines s ks → rows_at sets i ks (started_lines s sets ks) ≡ started_slots s ks
  rows-started sets i low [] P = refl
  rows-started sets i low (k ∷ ks) P =
      let mine = laid (replicate sets (started_row s k ks)) in
      let others = started_lines s sets ks in
      let long = laid_words sets k ks P.0 in
      let slot : slot_of (row_at (k.ways + 2) i (take (line_words sets k.ways) (mine ++ others))) ≡ started_slot s k ks =
      ap (λ ws. slot_of (row_at (k.ways + 2) i ws)) (take_at mine others (line_words sets k.ways) long) ∙ ap slot_of (laid_row sets k ks P.0 i low) ∙ slot_started k ks P.0 in
      ap₂ (λ x xs. record { member = k.member; slot = x } ∷ xs) slot (ap (rows_at sets i ks) (drop_at mine others (line_words sets k.ways) long) ∙ rows-started sets i low ks P.1.1)

  -- the nearest leader of a policy that one of the lines has, which holds nothing
  record EmptyLeader (k : Member) (xs : List Slot) : Type 0 where
    of : Slot
    nearest : leader xs ≡ Some of
    empty : (meaning s k).residents of.row ≡ []

  empty_leader : (k : Member) (js : List Kin) → ProperLines s js → any_of k js ≡ true → EmptyLeader k (rows_of k (started_slots s js))
  empty_leader k [] P h = absurd (true≢false (sym h))
  empty_leader k (j ∷ js) P h = by_member (same k j.member) refl (empty_leader k js P.1.1)
    where
      mine : k ≡ j.member → (b : Bool) → follows j js ≡ b → (any_of k js ≡ true → EmptyLeader k (rows_of k (started_slots s js))) → EmptyLeader k (started_slot s j js ∷ rows_of k (started_slots s js))
      mine is true f ih =
          let E = ih (ap (λ m. any_of m js) is ∙ (and_parts _ _ f).1) in
          record { of = E.of; nearest = cond-false _ _ _ (slot_leads s j js ∙ ap not f) ∙ E.nearest; empty = E.empty }
      mine is false f ih = record {
        of = started_slot s j js;
        nearest = cond-true _ _ _ (slot_leads s j js ∙ ap not f);
        empty = ap₂ (λ m r. (meaning s m).residents r) is (slot_starts s j js f) ∙ (L.laws j.member).empty j.ways P.0;
      }

      by_member : (b : Bool) → same k j.member ≡ b → (any_of k js ≡ true → EmptyLeader k (rows_of k (started_slots s js))) → EmptyLeader k (rows_of k (started_slots s (j ∷ js)))
      by_member true e ih = rw e (mine (same_is k j.member e) (follows j js) refl ih)
      by_member false e ih = rw e (ih (sym (cond-false (same k j.member) true (any_of k js) e) ∙ h))

  -- a started row beside that of its standalone cache
  module _ (k : Kin) (ks : List Kin) (P : ProperLines s (k ∷ ks)) where
    start_made : (meaning s k.member).Row k.ways ((meaning s k.member).start (k.ways + 1))
    start_made = (L.laws k.member).started k.ways P.0

    start_leads : follows k ks ≡ false → Leading (meaning s k.member) (started_slot s k ks) ((meaning s k.member).start (k.ways + 1))
    start_leads f =
        let m = meaning s k.member in
        record { made = subst (m.Row k.ways) (sym (slot_starts s k ks f)) start_made; same = ap m.residents (slot_starts s k ks f) }

    start_follows : follows k ks ≡ true → Follows (meaning s k.member) (started_slot s k ks) (rows_of k.member (started_slots s ks)) ((meaning s k.member).start (k.ways + 1))
    start_follows f =
        let E = empty_leader k.member ks P.1.1 (and_parts (nesting k.member) (any_of k.member ks) f).1 in
        record {
          of = E.of;
          nearest = E.nearest;
          first = (L.laws k.member).empty k.ways P.0 ∙ sym (take_all k.ways [] (omega arith)) ∙ ap (take k.ways) (sym E.empty);
        }

    row_abreast : Abreast s (record { member = k.member; slot = started_slot s k ks }) (started_slots s ks) ((meaning s k.member).start (k.ways + 1))
    row_abreast = record {
      nested = λ n. record {
        takes = P.0;
        made = start_made;
        rising = rising s k.member k.ways ks P.1.0;
        leading = λ l. start_leads (not-true (follows k ks) (sym (slot_leads s k ks) ∙ l));
        follows = λ l. start_follows (not-false (follows k ks) (sym (slot_leads s k ks) ∙ l));
      };
      alone = λ n. record { takes = P.0; made = start_made; same = slot_starts s k ks (and_left _ _ n) };
    }

  all_abreast : (ks : List Kin) → ProperLines s ks → AllAbreast s (started_slots s ks) (start_rows s ks)
  all_abreast [] P = tt
  all_abreast (k ∷ ks) P = (row_abreast k ks P, all_abreast ks P.1.1)

  -- the words of a table
  started-level_words : (l : Level) → ProperLines s l.lines → length (started_level s l) ≡ level_words l.sets l.lines
  started-level_words l P = length-append (replicate (2 * l.sets) 0) (started_lines s l.sets (wide l.lines)) ∙ ap₂ (λ m n. m + n) (length-replicate (2 * l.sets) 0) (lines_started l.sets (wide l.lines) (proper_wide s l.lines P))

  started-levels_words : (ls : List Level) → ProperLevels s ls → length (started_levels s ls) ≡ levels_words ls
  started-levels_words [] P = refl
  started-levels_words (l ∷ ls) P = length-append (started_level s l) (started_levels s ls) ∙ ap₂ (λ m n. m + n) (started-level_words l P.1.0) (started-levels_words ls P.1.1.1)

  pub started_words : (fs : List Family) → ProperFamilies s fs → length (started s fs) ≡ families_words fs
  started_words [] P = refl
  started_words (f ∷ fs) P = length-append (started_levels s f.levels) (started s fs) ∙ ap₂ (λ m n. m + n) (started-levels_words f.levels P.1.0) (started_words fs P.1.1.1)

  -- the words of a level beside its fresh caches
  level_tracks : (l : LevelModel) → ProperLines s (kins l) → FreshLevel s l → LevelTracks s l (started_level s (level_of l))
  level_tracks l P F =
      let zeros = replicate (2 * l.sets) 0 in
      let rows = started_lines s l.sets (wide (kins l)) in
      let W = proper_wide s (kins l) P in
      record {
        whole = started-level_words (level_of l) P;
        direct = take_at zeros rows (2 * l.sets) (length-replicate (2 * l.sets) 0) ∙ sym (direct_empty l.sets) ∙ ap direct_layout (sym F.tags);
        rows = λ i low. subst₂ (AllAbreast s)
            (sym (ap (rows_at l.sets i (wide (kins l))) (drop_at zeros rows (2 * l.sets) (length-replicate (2 * l.sets) 0)) ∙ rows-started l.sets i low (wide (kins l)) W))
            (sym (fresh-rows s l.sets i low l.lines F.lines))
            (all_abreast (wide (kins l)) W);
      }

  levels_track : (ls : List LevelModel) → ProperLevels s (map level_of ls) → AllByRecursion (FreshLevel s) ls → LevelsTrack s ls (started_levels s (map level_of ls))
  levels_track [] P F = refl
  levels_track (l ∷ ls) P F =
      let mine = started_level s (level_of l) in
      let others = started_levels s (map level_of ls) in
      let long = started-level_words (level_of l) P.1.0 in (
        subst (LevelTracks s l) (sym (take_at mine others (level_words l.sets (kins l)) long)) (level_tracks l P.1.0 F.0),
        subst (LevelsTrack s ls) (sym (drop_at mine others (level_words l.sets (kins l)) long)) (levels_track ls P.1.1.1 F.1),
      )

  pub fresh_tracks : (fs : List FamilyModel) → ProperFamilies s (map family_of fs) → FreshFamilies s fs → (rest : List ℕ) → FamiliesTrack s fs (started s (map family_of fs) ++ rest)
  fresh_tracks [] P F rest = tt
  fresh_tracks (f ∷ fs) P F rest =
      let levels = map level_of f.levels in
      let mine = started_levels s levels in
      let others = started s (map family_of fs) in
      let long = started-levels_words levels P.1.0 in
      subst (FamiliesTrack s (f ∷ fs)) (sym (append_assoc mine others rest)) (
        subst (LevelsTrack s f.levels) (sym (take_at mine (others ++ rest) (levels_words levels) long)) (levels_track f.levels P.1.0 F.0),
        subst (FamiliesTrack s fs) (sym (drop_at mine (others ++ rest) (levels_words levels) long)) (fresh_tracks fs P.1.1.1 F.1 rest),
      )
