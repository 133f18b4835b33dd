-- An access at one level: the sweep's visit answers as the standalone caches of its lines, compares no more, and leaves words
-- that stand beside these caches after the access.
use Rattle.std.proofs.Common.{◌≡◌, ℕ, zero, suc, ◌+◌, ◌*◌, ◌/◌, ◌^◌, ◌<◌, ◌≤◌, Bool, true, false, cond, not, ◌&&◌, eqb, ◌⊎◌, List, [], ◌∷◌, ◌++◌, map, length, get_or, take, drop, set, Some, None, Option, sym, refl, ap, ◌∙◌, subst, ap₂, subst₂, inl, inr, arith}
use mathlib.Core.List.{map-map}
use lib.Seq.{take-set-lt}
use Rattle.std.specs.List.{AllByRecursion}
use Rattle.std.proofs.lemmas.List.{drop_at, get_or-set_other, get_or-set_same, get_or-take, length-append, length-drop, length-set, length-take-le, take_at}
use Rattle.std.proofs.lemmas.Bool.{cases_eq, cond_both, cond-false, cond-true, eqb-true, leb-true, true≢false}
use Rattle.geometry.specs.Address.{set_of, tag_of}
use Rattle.standalone.specs.Cache.{touch_of}
use Rattle.standalone.specs.declared.access.Access.{Access}
use Rattle.policy.specs.Suite.{Suite, Lawful, meaning}
use Rattle.bench.specs.Mixed.{Owned, SweptAll, own_step, sweep_all}
use Rattle.bench.specs.Words.{Kin, line_words, lines_words, one_way, rows_at, spread, wide, with_rows}
use Rattle.bench.specs.Direct.{direct_after, direct_compared, direct_hit}
use Rattle.bench.specs.Level.{Visited, all_hit, hit_level, level_words, miss_level}
use Rattle.bench.specs.Model.{LevelModel, LineModel, asked, level_of, lines_compared, single, touch_level, touch_line}
use Rattle.bench.specs.Answers.{line_hit}
use Rattle.bench.specs.Sweep.{skip, visit_of}
use Rattle.bench.specs.Kept.{Holds, LevelKept, LineKept}
use Rattle.bench.specs.Abreast.{AllAbreast, compared_of, hits_of, rows_after}
use Rattle.bench.specs.Tracks.{LevelTracks, direct_layout, kins, set_rows}
use Rattle.bench.proofs.LineKept.{direct_answer, one_compared, one_hit, set_low, tag_small}
use Rattle.bench.proofs.Inclusion.{Skipped, skipped_level}
use Rattle.bench.proofs.AllAbreast.{abreast_few, abreast_hits, abreast_kept}
use Rattle.bench.proofs.Placed.{Fit, rows_length, rows_put, rows_stay, swept_fit}

-- the second word of a set in a direct-mapped cache; the first is 1 exactly if the set would be asked
abbrev tag_word : Option ℕ → ℕ
tag_word None = 0
tag_word (Some t) = t

layout_cons : (o : Option ℕ) (tags : List (Option ℕ)) → direct_layout (o ∷ tags) ≡ asked o ∷ tag_word o ∷ direct_layout tags
layout_cons None tags = refl
layout_cons (Some t) tags = refl

-- the words of the next set
next_first : (i : ℕ) → 2 * suc i ≡ suc (suc (2 * i))
next_first i = omega arith

next_second : (i : ℕ) → 2 * suc i + 1 ≡ suc (suc (2 * i + 1))
next_second i = omega arith

layout-filled : (tags : List (Option ℕ)) (i : ℕ) → get_or (direct_layout tags) (2 * i) 0 ≡ asked (get_or tags i None)
layout-filled [] i = refl
layout-filled (o ∷ tags) zero = ap (λ ws. get_or ws 0 0) (layout_cons o tags)
layout-filled (o ∷ tags) (suc i) = ap₂ (λ ws n. get_or ws n 0) (layout_cons o tags) (next_first i) ∙ layout-filled tags i

layout_tag : (tags : List (Option ℕ)) (i : ℕ) → get_or (direct_layout tags) (2 * i + 1) 0 ≡ tag_word (get_or tags i None)
layout_tag [] i = refl
layout_tag (o ∷ tags) zero = ap (λ ws. get_or ws 1 0) (layout_cons o tags)
layout_tag (o ∷ tags) (suc i) = ap₂ (λ ws n. get_or ws n 0) (layout_cons o tags) (next_second i) ∙ layout_tag tags i

layout-set : (tags : List (Option ℕ)) (i t : ℕ) → set (set (direct_layout tags) (2 * i) 1) (2 * i + 1) t ≡ direct_layout (set tags i (Some t))
layout-set [] i t = refl
layout-set (o ∷ tags) zero t = ap (λ ws. set (set ws 0 1) 1 t) (layout_cons o tags)
layout-set (o ∷ tags) (suc i) t =
    ap₂ (λ ws n. set (set ws n 1) (2 * suc i + 1) t) (layout_cons o tags) (next_first i)
    ∙ ap (λ n. set (asked o ∷ tag_word o ∷ set (direct_layout tags) (2 * i) 1) n t) (next_second i)
    ∙ ap (λ ws. asked o ∷ tag_word o ∷ ws) (layout-set tags i t) ∙ sym (layout_cons o (set tags i (Some t)))

-- what is read from the two words of a set
answer_words : (o : Option ℕ) (t : ℕ) → (not (eqb (asked o) 0) && eqb (tag_word o) t) ≡ direct_answer o t
answer_words None t = refl
answer_words (Some u) t = refl

asked_words : (o : Option ℕ) → cond (not (eqb (asked o) 0)) 1 0 ≡ asked o
asked_words None = refl
asked_words (Some u) = refl

-- a direct-mapped cache that answers yes holds the tag
answer_held : (o : Option ℕ) (t : ℕ) → direct_answer o t ≡ true → o ≡ Some t
answer_held None t h = absurd (true≢false (sym h))
answer_held (Some u) t h = ap Some (eqb-true u t h)

-- the comparisons of a level's separate caches
abbrev pub own_compared : LevelModel → ℕ
own_compared l = cond (single l.lines) 0 l.direct.comparisons + lines_compared l.lines

-- the comparisons of the caches of lines at an access
abbrev added : Suite → ℕ → ℕ → Access → List LineModel → ℕ
added s b sets x [] = 0
added s b sets x (z ∷ zs) = (touch_of (meaning s z.kin.member) b sets z.cache.rows x).comparisons + added s b sets x zs

cond_more : (c : Bool) (n m : ℕ) → cond c 0 (n + m) ≡ cond c 0 n + cond c 0 m
cond_more true n m = refl
cond_more false n m = refl

cond_either : (c : Bool) (n : ℕ) → cond c 0 n + cond c n 0 ≡ n
cond_either true n = omega arith
cond_either false n = omega arith

-- what a line of one way and a wider line did
spread_one : (k : Kin) (ks : List Kin) (hs : List Bool) → one_way k ≡ true → spread (k ∷ ks) hs ≡ false ∷ spread ks hs
spread_one k ks [] e = cond-true (one_way k) (false ∷ spread ks []) [] e
spread_one k ks (h ∷ hs) e = cond-true (one_way k) (false ∷ spread ks (h ∷ hs)) (h ∷ spread ks hs) e

spread-wide : (k : Kin) (ks : List Kin) (h : Bool) (hs : List Bool) → one_way k ≡ false → spread (k ∷ ks) (h ∷ hs) ≡ h ∷ spread ks hs
spread-wide k ks h hs e = cond-false (one_way k) (false ∷ spread ks (h ∷ hs)) (h ∷ spread ks hs) e

-- the lines of a level
module _ (s : Suite) (b sets : ℕ) (x : Access) where
  -- the policies and ways stay
  touched-kins : (zs : List LineModel) → map (λ z. z.kin) (map (touch_line s b sets x) zs) ≡ map (λ z. z.kin) zs
  touched-kins zs = map-map (λ z. z.kin) (touch_line s b sets x) zs

  touched_single : (zs : List LineModel) → single (map (touch_line s b sets x) zs) ≡ single zs
  touched_single [] = refl
  touched_single (z ∷ zs) = ap (cond (one_way z.kin) true) (touched_single zs)

  touched_compared : (zs : List LineModel) → lines_compared (map (touch_line s b sets x) zs) ≡ lines_compared zs + added s b sets x zs
  touched_compared [] = refl
  touched_compared (z ∷ zs) = omega (arith, touched_compared zs)

  -- where all rows stay, so do those of one set
  same_rows : (j : ℕ) (zs : List LineModel) → map (λ z. z.cache.rows) (map (touch_line s b sets x) zs) ≡ map (λ z. z.cache.rows) zs → set_rows j (map (touch_line s b sets x) zs) ≡ set_rows j zs
  same_rows j [] e = refl
  same_rows j (z ∷ zs) e = ap₂ (λ r rs. cond (one_way z.kin) rs (get_or r j [] ∷ rs)) (ap (λ qs. get_or qs 0 []) e) (same_rows j zs (ap (drop 1) e))

  -- the rows of the other sets stay
  other_rows : (j : ℕ) → (j ≡ set_of x.address b sets → ⊥) → (zs : List LineModel) → set_rows j (map (touch_line s b sets x) zs) ≡ set_rows j zs
  other_rows j other [] = refl
  other_rows j other (z ∷ zs) = ap₂ (λ r rs. cond (one_way z.kin) rs (r ∷ rs)) (get_or-set_other z.cache.rows (set_of x.address b sets) j _ [] other) (other_rows j other zs)

  -- the rows of the set that is touched, in the words and in the caches
  abbrev swept-rows : List LineModel → List ℕ → List Owned
  swept-rows zs ws = rows_at sets (set_of x.address b sets) (wide (map (λ z. z.kin) zs)) ws

  abbrev own-rows : List LineModel → List (List ℕ)
  own-rows zs = set_rows (set_of x.address b sets) zs

  module _ (tags : List (Option ℕ)) (some : 0 < sets) where
    abbrev RowsTouched : List LineModel → List ℕ → Type 0
    RowsTouched zs ws = own-rows (map (touch_line s b sets x) zs) ≡ rows_after s (tag_of x.address b sets) (swept-rows zs ws) (own-rows zs)

    touched-rows : (zs : List LineModel) (ws : List ℕ) → AllByRecursion (LineKept s sets tags) zs → RowsTouched zs ws
    touched-rows [] ws K = refl
    touched-rows (z ∷ zs) ws K = go (one_way z.kin) refl (λ ws. touched-rows zs ws K.1)
      where
        low : set_of x.address b sets < length z.cache.rows
        low = omega (arith, K.0.rows, set_low x.address b sets some)

        go : (c : Bool) → one_way z.kin ≡ c → ((ws : List ℕ) → RowsTouched zs ws) → RowsTouched (z ∷ zs) ws
        go true e rest = rw e (rest ws)
        go false e rest = rw e (ap₂ (λ r rs. r ∷ rs) (get_or-set_same z.cache.rows (set_of x.address b sets) _ [] low) (rest (drop (line_words sets z.kin.ways) ws)))

    module _ (L : Lawful s) (small : x.address < 2 ^ 32) where
      -- the rows of the wider lines compare, and so does the first line of one way
      abbrev RowsFew : List LineModel → List ℕ → Type 0
      RowsFew zs ws = compared_of s (tag_of x.address b sets) (swept-rows zs ws) (own-rows zs) + cond (single zs) (asked (get_or tags (set_of x.address b sets) None)) 0 ≤ added s b sets x zs

      rows_few : (zs : List LineModel) (ws : List ℕ) → AllByRecursion (LineKept s sets tags) zs → RowsFew zs ws
      rows_few [] ws K = omega arith
      rows_few (z ∷ zs) ws K = go (one_way z.kin) refl (λ ws. rows_few zs ws K.1)
        where
          go : (c : Bool) → one_way z.kin ≡ c → ((ws : List ℕ) → RowsFew zs ws) → RowsFew (z ∷ zs) ws
          go true e rest = rw e (omega (arith, rest ws, one_compared s L b sets x small some tags z K.0 (leb-true z.kin.ways 1 e)))
          go false e rest = rw e (omega (arith, rest (drop (line_words sets z.kin.ways) ws)))

      -- where the direct-mapped cache misses
      abbrev RowsHit : List LineModel → List ℕ → Type 0
      RowsHit zs ws = spread (map (λ z. z.kin) zs) (hits_of s (tag_of x.address b sets) (swept-rows zs ws) (own-rows zs)) ≡ map (line_hit s b sets x) zs

      rows_hit : direct_answer (get_or tags (set_of x.address b sets) None) (tag_of x.address b sets) ≡ false → (zs : List LineModel) (ws : List ℕ) → AllByRecursion (LineKept s sets tags) zs → RowsHit zs ws
      rows_hit miss [] ws K = refl
      rows_hit miss (z ∷ zs) ws K = go (one_way z.kin) refl (λ ws. rows_hit miss zs ws K.1)
        where
          go : (c : Bool) → one_way z.kin ≡ c → ((ws : List ℕ) → RowsHit zs ws) → RowsHit (z ∷ zs) ws
          go true e rest = rw e (spread_one z.kin (map (λ z. z.kin) zs) _ e ∙ ap₂ (λ h hs. h ∷ hs) (sym (one_hit s L b sets x small some tags z K.0 (leb-true z.kin.ways 1 e) ∙ miss)) (rest ws))
          go false e rest = rw e (spread-wide z.kin (map (λ z. z.kin) zs) _ _ e ∙ ap (λ hs. line_hit s b sets x z ∷ hs) (rest (drop (line_words sets z.kin.ways) ws)))

-- where an access falls at a level
abbrev its_set : ℕ → Access → LevelModel → ℕ
its_set b x l = set_of x.address b l.sets

abbrev its_tag : ℕ → Access → LevelModel → ℕ
its_tag b x l = tag_of x.address b l.sets

-- a visit of a level that answers as the caches of its lines, compares no more than the separate caches, and leaves words that
-- stand beside them
pub record LevelSwept (s : Suite) (b : ℕ) (x : Access) (l : LevelModel) (v : Visited) : Type 0 where
  pub hits : v.hits ≡ map (line_hit s b l.sets x) l.lines
  pub tracks : LevelTracks s (touch_level s b x l) v.words
  pub few : v.comparisons + own_compared l ≤ own_compared (touch_level s b x l)

-- one level
module _ (s : Suite) (b : ℕ) (x : Access) (l : LevelModel) where
  pub level_shape : level_of (touch_level s b x l) ≡ level_of l
  level_shape = ap (λ ks. record { sets = l.sets; lines = ks }) (touched-kins s b l.sets x l.lines)

  -- what it takes for words to stand beside the level after the access
  tracks_from : (ws : List ℕ) → length ws ≡ level_words l.sets (kins l) → take (2 * l.sets) ws ≡ direct_layout (touch_level s b x l).direct.tags
      → ((i : ℕ) → i < l.sets → AllAbreast s (rows_at l.sets i (wide (kins l)) (drop (2 * l.sets) ws)) (set_rows i (touch_level s b x l).lines)) → LevelTracks s (touch_level s b x l) ws
  tracks_from ws whole direct rows =
      let same : kins l ≡ kins (touch_level s b x l) = sym (touched-kins s b l.sets x l.lines) in
      record {
        whole = whole ∙ ap (level_words l.sets) same;
        direct = direct;
        rows = λ i low. subst (λ ks. AllAbreast s (rows_at l.sets i (wide ks) (drop (2 * l.sets) ws)) (set_rows i (touch_level s b x l).lines)) same (rows i low);
      }

  -- the lines' caches compare, and the direct-mapped cache where there is no line of one way
  level_compared : own_compared (touch_level s b x l) ≡ own_compared l + (cond (single l.lines) 0 (asked (get_or l.direct.tags (its_set b x l) None)) + added s b l.sets x l.lines)
  level_compared = rw (touched_single s b l.sets x l.lines)
      (omega (arith, touched_compared s b l.sets x l.lines, cond_more (single l.lines) l.direct.comparisons (asked (get_or l.direct.tags (its_set b x l) None))))

  -- a level that holds the block of the access already
  module _ (S : Skipped s b x l) (ws : List ℕ) (T : LevelTracks s l ws) where
    skipped_hits : all_hit (kins l) ≡ map (line_hit s b l.sets x) l.lines
    skipped_hits = map-map (λ _. true) (λ z. z.kin) l.lines ∙ sym S.hits

    skipped_tracks : LevelTracks s (touch_level s b x l) ws
    skipped_tracks = tracks_from ws T.whole (T.direct ∙ ap direct_layout (sym S.tags))
        (λ i low. subst (AllAbreast s (rows_at l.sets i (wide (kins l)) (drop (2 * l.sets) ws))) (sym (same_rows s b l.sets x i l.lines S.rows)) (T.rows i low))

    pub skipped_swept : LevelSwept s b x l (skip (all_hit (kins l)) ws)
    skipped_swept = record { hits = skipped_hits; tracks = skipped_tracks; few = omega (arith, level_compared) }

-- an access at a level
module _ (s : Suite) (L : Lawful s) (x : Access) (small : x.address < 2 ^ 32) (b : ℕ) (l : LevelModel) (K : LevelKept s l) (ws : List ℕ) (T : LevelTracks s l ws) where
  low : its_set b x l < l.sets
  low = set_low x.address b l.sets K.some

  -- the two words of its set
  first_word : get_or ws (2 * its_set b x l) 0 ≡ asked (get_or l.direct.tags (its_set b x l) None)
  first_word =
      let i = its_set b x l in
      sym (get_or-take (2 * l.sets) ws (2 * i) 0 (omega (arith, low))) ∙ ap (λ ds. get_or ds (2 * i) 0) T.direct ∙ layout-filled l.direct.tags i

  second_word : get_or ws (2 * its_set b x l + 1) 0 ≡ tag_word (get_or l.direct.tags (its_set b x l) None)
  second_word =
      let i = its_set b x l in
      sym (get_or-take (2 * l.sets) ws (2 * i + 1) 0 (omega (arith, low))) ∙ ap (λ ds. get_or ds (2 * i + 1) 0) T.direct ∙ layout_tag l.direct.tags i

  pub direct_agrees : direct_hit ws (set_of x.address b l.sets) (tag_of x.address b l.sets) ≡ direct_answer (get_or l.direct.tags (set_of x.address b l.sets) None) (tag_of x.address b l.sets)
  direct_agrees = ap₂ (λ f t. not (eqb f 0) && eqb t (its_tag b x l)) first_word second_word ∙ answer_words _ (its_tag b x l)

  pub direct_asks : direct_compared ws (set_of x.address b l.sets) ≡ asked (get_or l.direct.tags (set_of x.address b l.sets) None)
  direct_asks = ap (λ f. cond (not (eqb f 0)) 1 0) first_word ∙ asked_words (get_or l.direct.tags (its_set b x l) None)

  -- a direct-mapped cache that hits holds the block
  pub direct_holds : direct_hit ws (set_of x.address b l.sets) (tag_of x.address b l.sets) ≡ true → Holds l (x.address / b)
  direct_holds h = answer_held _ _ (sym direct_agrees ∙ h)

  -- the comparisons of the direct-mapped cache and of the rows are few
  all_few : direct_compared ws (its_set b x l) + compared_of s (its_tag b x l) (swept-rows s b l.sets x l.lines (drop (2 * l.sets) ws)) (own-rows s b l.sets x l.lines) + own_compared l ≤ own_compared (touch_level s b x l)
  all_few = omega (arith, direct_asks, level_compared s b x l, rows_few s b l.sets x l.direct.tags K.some L small l.lines (drop (2 * l.sets) ws) K.lines, cond_either (single l.lines) (asked (get_or l.direct.tags (its_set b x l) None)))

  hit_swept : direct_hit ws (its_set b x l) (its_tag b x l) ≡ true → LevelSwept s b x l (hit_level (its_set b x l) (kins l) ws)
  hit_swept h =
      let S = skipped_level s L x small b l K (direct_holds h) in
      record { hits = skipped_hits s b x l S ws T; tracks = skipped_tracks s b x l S ws T; few = omega (arith, all_few) }

  -- the rows of the set are swept
  module _ (h : direct_hit ws (its_set b x l) (its_tag b x l) ≡ false) where
    -- the words of the rows, the rows of the set in them, and what the sweep makes of these
    abbrev lower : List ℕ
    lower = drop (2 * l.sets) ws

    abbrev before : List Owned
    before = rows_at l.sets (its_set b x l) (wide (kins l)) lower

    abbrev swept : SweptAll
    swept = sweep_all (own_step s) before (its_tag b x l)

    -- the words afterwards: of the direct-mapped cache, and of the rows
    abbrev front : List ℕ
    front = take (2 * l.sets) (direct_after ws (its_set b x l) (its_tag b x l))

    abbrev rest : List ℕ
    rest = with_rows l.sets (its_set b x l) (wide (kins l)) swept.rows lower

    small_tag : its_tag b x l < 2 ^ 32
    small_tag = tag_small x.address b l.sets small

    room : lines_words l.sets (wide (kins l)) ≤ length lower
    room = omega (arith, T.whole, length-drop (2 * l.sets) ws)

    beside : AllAbreast s before (own-rows s b l.sets x l.lines)
    beside = T.rows (its_set b x l) low

    fit : Fit (wide (kins l)) swept.rows
    fit = swept_fit s L (its_tag b x l) small_tag l.sets (its_set b x l) low (wide (kins l)) lower _ room beside

    taken : direct_after ws (its_set b x l) (its_tag b x l) ≡ set (set ws (2 * its_set b x l) 1) (2 * its_set b x l + 1) (its_tag b x l)
    taken = cond-false (direct_hit ws (its_set b x l) (its_tag b x l)) ws _ h

    front_is : front ≡ direct_layout (touch_level s b x l).direct.tags
    front_is =
        let i = its_set b x l in
        let t = its_tag b x l in
        ap (take (2 * l.sets)) taken ∙ take-set-lt (2 * l.sets) (set ws (2 * i) 1) (2 * i + 1) t (omega (arith, low))
        ∙ ap (λ ds. set ds (2 * i + 1) t) (take-set-lt (2 * l.sets) ws (2 * i) 1 (omega (arith, low)))
        ∙ ap (λ ds. set (set ds (2 * i) 1) (2 * i + 1) t) T.direct ∙ layout-set l.direct.tags i t

    front_length : length front ≡ 2 * l.sets
    front_length =
        let i = its_set b x l in
        let t = its_tag b x l in
        length-take-le (2 * l.sets) (direct_after ws i t) (omega (arith, T.whole, ap length taken, length-set (set ws (2 * i) 1) (2 * i + 1) t, length-set ws (2 * i) 1))

    rest_length : length rest ≡ length lower
    rest_length = rows_length l.sets (its_set b x l) low (wide (kins l)) swept.rows lower room fit

    rest_rows : (j : ℕ) → j < l.sets → AllAbreast s (rows_at l.sets j (wide (kins l)) rest) (set_rows j (touch_level s b x l).lines)
    rest_rows j within = go (cases_eq j (its_set b x l))
      where
        i : ℕ
        i = its_set b x l

        go : (j ≡ i) ⊎ (j ≡ i → ⊥) → AllAbreast s (rows_at l.sets j (wide (kins l)) rest) (set_rows j (touch_level s b x l).lines)
        go (inl e) = subst (λ j. AllAbreast s (rows_at l.sets j (wide (kins l)) rest) (set_rows j (touch_level s b x l).lines)) (sym e)
            (subst₂ (AllAbreast s) (sym (rows_put l.sets i low (wide (kins l)) swept.rows lower room fit)) (sym (touched-rows s b l.sets x l.direct.tags K.some l.lines lower K.lines))
            (abreast_kept s L (its_tag b x l) small_tag before (own-rows s b l.sets x l.lines) beside))
        go (inr n) = subst₂ (AllAbreast s) (sym (rows_stay l.sets i low j (λ e. n (sym e)) (wide (kins l)) swept.rows lower room fit)) (sym (other_rows s b l.sets x j n l.lines)) (T.rows j within)

    miss_swept : LevelSwept s b x l (miss_level (own_step s) l.sets (its_set b x l) (its_tag b x l) (kins l) ws)
    miss_swept = record {
      hits = ap (spread (kins l)) (abreast_hits s L (its_tag b x l) small_tag before _ beside) ∙ rows_hit s b l.sets x l.direct.tags K.some L small (sym direct_agrees ∙ h) l.lines lower K.lines;
      tracks = tracks_from s b x l (front ++ rest)
          (length-append front rest ∙ omega (arith, T.whole, front_length, rest_length, length-drop (2 * l.sets) ws))
          (take_at front rest (2 * l.sets) front_length ∙ front_is)
          (λ j within. subst (λ ds. AllAbreast s (rows_at l.sets j (wide (kins l)) ds) (set_rows j (touch_level s b x l).lines)) (sym (drop_at front rest (2 * l.sets) front_length)) (rest_rows j within));
      few = omega (arith, all_few, abreast_few s L (its_tag b x l) small_tag before (own-rows s b l.sets x l.lines) beside);
    }

  pub level_swept : LevelSwept s b x l (visit_of (own_step s) b x.address (level_of l) ws)
  level_swept = cond_both (direct_hit ws (its_set b x l) (its_tag b x l)) (hit_level (its_set b x l) (kins l) ws)
      (miss_level (own_step s) l.sets (its_set b x l) (its_tag b x l) (kins l) ws) (LevelSwept s b x l) hit_swept miss_swept
