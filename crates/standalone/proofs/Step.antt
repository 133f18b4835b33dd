-- One access more of a run.
use Rattle.std.proofs.Common.{◌≡◌, ℕ, ◌+◌, ◌^◌, ◌<◌, ◌≤◌, Bool, true, cond, List, [], ◌++◌, length, get_or, take, sym, ap, ◌∙◌, subst, arith}
use Rattle.std.specs.List.{AllByRecursion}
use Rattle.std.proofs.ByRecursion.{All-weaker}
use Rattle.policy.specs.Policy.{Meaning, Laws}
use Rattle.geometry.specs.Address.{set_of, tag_of}
use Rattle.geometry.specs.Kind.{kind_number}
use Rattle.standalone.specs.Allowed.{Allowed}
use Rattle.standalone.specs.Checked.{Checked}
use Rattle.standalone.specs.Counting.{one_more}
use Rattle.standalone.specs.Cache.{new_cache, accessed, touch_of, run}
use Rattle.standalone.specs.Rows.{laid, row_at, with_row}
use Rattle.standalone.specs.Run.{Tracks}
use Rattle.standalone.specs.declared.access.Access.{Access}
use Rattle.standalone.specs.declared.access.CheckedAccess.{CheckedAccess}
use Rattle.standalone.specs.declared.access.Counts.{Counts}
use Rattle.standalone.proofs.Laid.{row_laid, with_row_laid}
use Rattle.standalone.proofs.Sound.{Sound, sound_at, set_below, comparisons_few, run_more}

-- a run that has come to access i
pub record Going (m : Meaning) (b s a : ℕ) (xs : List Access) (i : ℕ) (rest memory : List ℕ) (counts : Counts) (comparisons : ℕ) : Type 0 where
  pub laws : Laws m
  pub takes : m.takes a ≡ true
  pub sets : 0 < s
  pub allowed : AllByRecursion Allowed xs
  pub few : length xs ≤ 4294967295
  pub within : i < length xs
  pub tracks : Tracks m b s a (take i xs) rest memory counts comparisons

pub going : {m : Meaning} {b s a : ℕ} {xs : List Access} {i : ℕ} {rest memory : List ℕ} {counts : Counts} {comparisons : ℕ}
    → Laws m → m.takes a ≡ true → 0 < s → AllByRecursion Allowed xs → length xs ≤ 4294967295 → i < length xs
    → Tracks m b s a (take i xs) rest memory counts comparisons → Going m b s a xs i rest memory counts comparisons
going laws takes sets allowed few within tracks = record { laws = laws; takes = takes; sets = sets; allowed = allowed; few = few; within = within; tracks = tracks }

module _ {m : Meaning} {b s a : ℕ} {xs : List Access} {i : ℕ} {rest memory : List ℕ} {counts : Counts} {comparisons : ℕ}
    (G : Going m b s a xs i rest memory counts comparisons) (d : Access) {y : CheckedAccess} (Y : Checked (get_or xs i d) y) where
  sound : Sound m s a i (run m b s (new_cache m s a) (take i xs))
  sound = sound_at m G.laws s a G.takes G.sets b i xs G.allowed (omega (arith, G.within))

  pub misses_fit : (k : ℕ) → get_or counts.misses k 0 + 1 < 2 ^ 32
  misses_fit k = subst (λ l. get_or l k 0 + 1 < 2 ^ 32) (sym G.tracks.misses) (omega (arith, sound.misses k, G.within, G.few))

  pub hits_fit : (k : ℕ) → get_or counts.hits k 0 + 1 < 2 ^ 32
  hits_fit k = subst (λ l. get_or l k 0 + 1 < 2 ^ 32) (sym G.tracks.hits) (omega (arith, sound.hits k, G.within, G.few))

  in_rows : set_of (get_or xs i d).address b s < length (run m b s (new_cache m s a) (take i xs)).rows
  in_rows = subst (λ n. set_of (get_or xs i d).address b s < n) (sym sound.sets) (set_below m G.laws s a G.takes G.sets b i (run m b s (new_cache m s a) (take i xs)) sound (get_or xs i d) Y.allowed)

  rows-wide : AllByRecursion (λ r. length r ≡ a + 1) (run m b s (new_cache m s a) (take i xs)).rows
  rows-wide = All-weaker (m.Row a) (λ r. length r ≡ a + 1) (λ r. G.laws.words a r G.takes) (run m b s (new_cache m s a) (take i xs)).rows sound.made

  row_is : row_at (a + 1) (set_of (get_or xs i d).address b s) memory ≡ get_or (run m b s (new_cache m s a) (take i xs)).rows (set_of (get_or xs i d).address b s) []
  row_is = ap (row_at (a + 1) (set_of (get_or xs i d).address b s)) G.tracks.rows ∙ row_laid (a + 1) (set_of (get_or xs i d).address b s) (run m b s (new_cache m s a) (take i xs)).rows rest rows-wide in_rows

  touch_is : m.touch (row_at (a + 1) (set_of y.address b s) memory) (tag_of y.address b s) ≡ touch_of m b s (run m b s (new_cache m s a) (take i xs)).rows (get_or xs i d)
  touch_is = ap (λ z. m.touch (row_at (a + 1) (set_of z b s) memory) (tag_of z b s)) (sym Y.address) ∙ ap (λ r. m.touch r (tag_of (get_or xs i d).address b s)) row_is

  pub compared_fit : (n : ℕ) → n ≡ (m.touch (row_at (a + 1) (set_of y.address b s) memory) (tag_of y.address b s)).comparisons → comparisons + n < 2 ^ 64
  compared_fit n e =
      let e' : n ≡ (touch_of m b s (run m b s (new_cache m s a) (take i xs)).rows (get_or xs i d)).comparisons = e ∙ ap (λ t. t.comparisons) touch_is in
      omega (arith, G.tracks.compared, G.within, G.few, sound.comparisons, comparisons_few m G.laws s a G.takes G.sets b i (run m b s (new_cache m s a) (take i xs)) sound (get_or xs i d) Y.allowed)

  pub tracks_more : (hit : Bool) (n : ℕ) (memory' : List ℕ) (counts' : Counts)
      → hit ≡ (m.touch (row_at (a + 1) (set_of y.address b s) memory) (tag_of y.address b s)).hit
      → n ≡ (m.touch (row_at (a + 1) (set_of y.address b s) memory) (tag_of y.address b s)).comparisons
      → memory' ≡ with_row (a + 1) (set_of y.address b s) memory (m.touch (row_at (a + 1) (set_of y.address b s) memory) (tag_of y.address b s)).row
      → counts'.misses ≡ cond hit counts.misses (one_more (kind_number y.kind) counts.misses)
      → counts'.hits ≡ cond hit (one_more (kind_number y.kind) counts.hits) counts.hits
      → Tracks m b s a (take (i + 1) xs) rest memory' counts' (comparisons + n)
  tracks_more hit n memory' counts' eh en em emiss ehit =
      let c = run m b s (new_cache m s a) (take i xs) in
      let x = get_or xs i d in
      let next : accessed m b s c x ≡ run m b s (new_cache m s a) (take (i + 1) xs) = sym (run_more m b s (new_cache m s a) xs i d G.within) in
      let hit_is : hit ≡ (touch_of m b s c.rows x).hit = eh ∙ ap (λ t. t.hit) touch_is in
      record {
        rows =
            em ∙ ap (λ z. with_row (a + 1) (set_of z b s) memory (m.touch (row_at (a + 1) (set_of y.address b s) memory) (tag_of y.address b s)).row) (sym Y.address)
            ∙ ap (λ t. with_row (a + 1) (set_of x.address b s) memory t.row) touch_is
            ∙ ap (λ ws. with_row (a + 1) (set_of x.address b s) ws (touch_of m b s c.rows x).row) G.tracks.rows
            ∙ with_row_laid (a + 1) (set_of x.address b s) c.rows rest (touch_of m b s c.rows x).row rows-wide in_rows
            ∙ ap (λ c. laid c.rows ++ rest) next;
        misses = emiss ∙ ap (λ k. cond hit counts.misses (one_more k counts.misses)) (sym Y.kind) ∙ ap (λ l. cond hit l (one_more x.kind l)) G.tracks.misses ∙ ap (λ h. cond h c.misses (one_more x.kind c.misses)) hit_is ∙ ap (λ c. c.misses) next;
        hits = ehit ∙ ap (λ k. cond hit (one_more k counts.hits) counts.hits) (sym Y.kind) ∙ ap (λ l. cond hit (one_more x.kind l) l) G.tracks.hits ∙ ap (λ h. cond h (one_more x.kind c.hits) c.hits) hit_is ∙ ap (λ c. c.hits) next;
        compared = ap (λ k. k + n) G.tracks.compared ∙ ap (λ k. c.comparisons + k) (en ∙ ap (λ t. t.comparisons) touch_is) ∙ ap (λ c. c.comparisons) next;
      }
