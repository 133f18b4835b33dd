-- The cache of a line beside the direct-mapped cache of its level: an access keeps them in step. Where the direct-mapped cache
-- hits, the line's cache hits and its rows stay; a cache of one way answers as the direct-mapped one.
use Rattle.std.proofs.Common.{◌≡◌, ℕ, ◌/◌, ◌^◌, ◌<◌, ◌≤◌, Bool, true, false, eqb, ◌⊎◌, List, [], ◌∷◌, length, get_or, set, Some, None, Option, sym, refl, ap, ◌∙◌, subst, subst₂, inl, inr, mod-lt, div-le_self, arith}
use Rattle.std.proofs.lemmas.List.{get_or-set_other, get_or-set_same, length-set, set-get_or}
use Rattle.std.proofs.lemmas.Bool.{cases_eq, cond_both, eq-eqb, eqb-true, ne_eqb, or_from, or_left, true≢false}
use Rattle.policy.specs.Search.{member, place}
use Rattle.policy.specs.Policy.{Meaning, Laws}
use Rattle.policy.specs.SearchLemmas.{place_pos}
use Rattle.geometry.specs.Address.{set_of, tag_of}
use Rattle.standalone.specs.Cache.{touch_of}
use Rattle.standalone.specs.declared.access.Access.{Access}
use Rattle.policy.specs.Suite.{Suite, Lawful, meaning}
use Rattle.bench.specs.Model.{LineModel, asked, touch_line}
use Rattle.bench.specs.Kept.{LineKept, Recent, TouchedWith}

pub tag_small : (address b sets : ℕ) → address < 2 ^ 32 → tag_of address b sets < 2 ^ 32
tag_small address b sets small = omega (arith, div-le_self (address / b) sets, div-le_self address b)

pub set_low : (address b sets : ℕ) → 0 < sets → set_of address b sets < sets
set_low address b sets some = mod-lt (address / b) some

-- a direct-mapped cache that hits stays as it is
pub direct_stays : (tags : List (Option ℕ)) (i t : ℕ) → get_or tags i None ≡ Some t → set tags i (Some t) ≡ tags
direct_stays tags i t held = ap (set tags i) (sym held) ∙ set-get_or tags i None

-- what a direct-mapped cache answers to tag t, from the tag in its set
abbrev pub direct_answer : Option ℕ → ℕ → Bool
direct_answer None t = false
direct_answer (Some u) t = eqb u t

-- a search among one resident
member_only : (t u : ℕ) → member t (u ∷ []) ≡ eqb u t
member_only t u = go (cases_eq t u)
  where
    go : (t ≡ u) ⊎ (t ≡ u → ⊥) → member t (u ∷ []) ≡ eqb u t
    go (inl e) = or_left (eqb t u) false (eq-eqb t u e) ∙ sym (eq-eqb u t (sym e))
    go (inr n) = or_from (eqb t u) false (ne_eqb t u n) refl ∙ sym (ne_eqb u t (λ e. n (sym e)))

place_only : (t u : ℕ) → place t (u ∷ []) ≡ 1
place_only t u = cond_both (eqb t u) 1 1 (λ n. n ≡ 1) (λ _. refl) (λ _. refl)

-- the residents of a row of one way
only : (u : ℕ) (xs : List ℕ) → length xs ≤ 1 → member u xs ≡ true → xs ≡ u ∷ []
only u [] few m = absurd (true≢false (sym m))
only u (v ∷ []) few m = ap (λ z. z ∷ []) (eqb-true v u (sym (member_only u v) ∙ m))
only u (v ∷ w ∷ xs) few m = absurd (omega arith)

-- one row
module _ (m : Meaning) (L : Laws m) (a : ℕ) (takes : m.takes a ≡ true) where
  pub row_made : (o : Option ℕ) (r : List ℕ) → Recent m a o r → m.Row a r
  row_made None r h = subst (m.Row a) (sym h) (L.started a takes)
  row_made (Some t) r h = subst (m.Row a) (sym h.is) (L.touched a h.before t takes h.made h.tag)

  -- the tag that was touched last
  last_resident : (t : ℕ) (r : List ℕ) → TouchedWith m a t r → member t (m.residents r) ≡ true
  last_resident t r h = ap (λ q. member t (m.residents q)) h.is ∙ L.kept a h.before t takes h.made h.tag

  last_hits : (t : ℕ) (r : List ℕ) → TouchedWith m a t r → (m.touch r t).hit ≡ true
  last_hits t r h = L.hits a r t takes (row_made (Some t) r h) h.tag ∙ last_resident t r h

  last_row : (t : ℕ) (r : List ℕ) → TouchedWith m a t r → (m.touch r t).row ≡ r
  last_row t r h = ap (λ q. (m.touch q t).row) h.is ∙ L.again a h.before t takes h.made h.tag ∙ sym h.is

  last_compared : (t : ℕ) (r : List ℕ) → TouchedWith m a t r → 1 ≤ (m.touch r t).comparisons
  last_compared t r h = omega (arith, L.compares a r t takes (row_made (Some t) r h) h.tag, place_pos t (m.residents r) (last_resident t r h))

  never_resident : (r : List ℕ) → Recent m a None r → m.residents r ≡ []
  never_resident r h = ap m.residents h ∙ L.empty a takes

  -- one way: the tag that was touched last is the only resident
  one_resident : (u : ℕ) (r : List ℕ) → a ≤ 1 → TouchedWith m a u r → m.residents r ≡ u ∷ []
  one_resident u r one h = only u (m.residents r) (omega (arith, L.few a r takes (row_made (Some u) r h))) (last_resident u r h)

  one_answers : (o : Option ℕ) (r : List ℕ) (t : ℕ) → a ≤ 1 → Recent m a o r → t < 2 ^ 32 → (m.touch r t).hit ≡ direct_answer o t
  one_answers None r t one h small = L.hits a r t takes (row_made None r h) small ∙ ap (member t) (never_resident r h)
  one_answers (Some u) r t one h small = L.hits a r t takes (row_made (Some u) r h) small ∙ ap (member t) (one_resident u r one h) ∙ member_only t u

  one_asked : (o : Option ℕ) (r : List ℕ) (t : ℕ) → a ≤ 1 → Recent m a o r → t < 2 ^ 32 → (m.touch r t).comparisons ≡ asked o
  one_asked None r t one h small = L.compares a r t takes (row_made None r h) small ∙ ap (place t) (never_resident r h)
  one_asked (Some u) r t one h small = L.compares a r t takes (row_made (Some u) r h) small ∙ ap (place t) (one_resident u r one h) ∙ place_only t u

  -- the rows after a touch of tag t in set i
  recent_touched : (tags : List (Option ℕ)) (rows : List (List ℕ)) (i t : ℕ) → i < length tags → i < length rows → t < 2 ^ 32 → Recent m a (get_or tags i None) (get_or rows i [])
      → (j : ℕ) → Recent m a (get_or tags j None) (get_or rows j []) → Recent m a (get_or (set tags i (Some t)) j None) (get_or (set rows i (m.touch (get_or rows i []) t).row) j [])
  recent_touched tags rows i t it ir small h j k = at (cases_eq j i)
    where
      r : List ℕ
      r = (m.touch (get_or rows i []) t).row

      now : TouchedWith m a t r
      now = record { before = get_or rows i []; made = row_made (get_or tags i None) (get_or rows i []) h; tag = small; is = refl }

      at : (j ≡ i) ⊎ (j ≡ i → ⊥) → Recent m a (get_or (set tags i (Some t)) j None) (get_or (set rows i r) j [])
      at (inl e) = subst (λ j. Recent m a (get_or (set tags i (Some t)) j None) (get_or (set rows i r) j [])) (sym e) (subst₂ (Recent m a) (sym (get_or-set_same tags i (Some t) None it)) (sym (get_or-set_same rows i r [] ir)) now)
      at (inr n) = subst₂ (Recent m a) (sym (get_or-set_other tags i j (Some t) None n)) (sym (get_or-set_other rows i j r [] n)) k

-- one line
module _ (s : Suite) (L : Lawful s) (b sets : ℕ) (x : Access) (small : x.address < 2 ^ 32) (some : 0 < sets) (tags : List (Option ℕ)) (l : LineModel) (K : LineKept s sets tags l) where
  pub line_touched : length tags ≡ sets → LineKept s sets (set tags (set_of x.address b sets) (Some (tag_of x.address b sets))) (touch_line s b sets x l)
  line_touched long =
      let m = meaning s l.kin.member in
      let i = set_of x.address b sets in
      let t = tag_of x.address b sets in
      let low : i < sets = set_low x.address b sets some in
      record {
        takes = K.takes;
        rows = length-set l.cache.rows i (touch_of m b sets l.cache.rows x).row ∙ K.rows;
        recent = λ j h. recent_touched m (L.laws l.kin.member) l.kin.ways K.takes tags l.cache.rows i t (omega arith) (omega (arith, K.rows)) (tag_small x.address b sets small) (K.recent i low) j (K.recent j h);
      }

  -- the direct-mapped cache hits
  module _ (held : get_or tags (set_of x.address b sets) None ≡ Some (tag_of x.address b sets)) where
    last : TouchedWith (meaning s l.kin.member) l.kin.ways (tag_of x.address b sets) (get_or l.cache.rows (set_of x.address b sets) [])
    last = subst (λ o. Recent (meaning s l.kin.member) l.kin.ways o (get_or l.cache.rows (set_of x.address b sets) [])) held (K.recent (set_of x.address b sets) (set_low x.address b sets some))

    pub hit_hits : (touch_of (meaning s l.kin.member) b sets l.cache.rows x).hit ≡ true
    hit_hits = last_hits (meaning s l.kin.member) (L.laws l.kin.member) l.kin.ways K.takes _ _ last

    pub hit_rows : (touch_line s b sets x l).cache.rows ≡ l.cache.rows
    hit_rows =
        ap (set l.cache.rows (set_of x.address b sets)) (last_row (meaning s l.kin.member) (L.laws l.kin.member) l.kin.ways K.takes _ _ last)
        ∙ set-get_or l.cache.rows (set_of x.address b sets) []

    pub hit_compared : 1 ≤ (touch_of (meaning s l.kin.member) b sets l.cache.rows x).comparisons
    hit_compared = last_compared (meaning s l.kin.member) (L.laws l.kin.member) l.kin.ways K.takes _ _ last

  -- a line of one way
  pub one_hit : l.kin.ways ≤ 1 → (touch_of (meaning s l.kin.member) b sets l.cache.rows x).hit ≡ direct_answer (get_or tags (set_of x.address b sets) None) (tag_of x.address b sets)
  one_hit one = one_answers (meaning s l.kin.member) (L.laws l.kin.member) l.kin.ways K.takes _ _ _ one (K.recent (set_of x.address b sets) (set_low x.address b sets some)) (tag_small x.address b sets small)

  pub one_compared : l.kin.ways ≤ 1 → (touch_of (meaning s l.kin.member) b sets l.cache.rows x).comparisons ≡ asked (get_or tags (set_of x.address b sets) None)
  one_compared one = one_asked (meaning s l.kin.member) (L.laws l.kin.member) l.kin.ways K.takes _ _ _ one (K.recent (set_of x.address b sets) (set_low x.address b sets some)) (tag_small x.address b sets small)
