-- A set-associative cache: a row for each set, all started; each access touches its tag in the row of its set.
use Rattle.std.specs.Prelude.{ℕ, ◌+◌, cond, List, [], ◌∷◌, replicate, slice_index_or, slice_set}
use Rattle.policy.specs.Policy.{Meaning, Touched}
use Rattle.geometry.specs.Address.{set_of, tag_of}
use Rattle.standalone.specs.Counting.{one_more}
use Rattle.standalone.specs.declared.access.Access.{Access}

pub record Cache : Type 0 where
  -- the row of each set
  pub rows : List (List ℕ)
  -- misses and hits of each kind: fetches, reads, stores
  pub misses : List ℕ
  pub hits : List ℕ
  pub comparisons : ℕ

-- a new cache of s sets of a ways
abbrev pub new_cache : Meaning → ℕ → ℕ → Cache
new_cache m s a = record {
  rows = replicate s (m.start (a + 1));
  misses = 0 ∷ 0 ∷ 0 ∷ [];
  hits = 0 ∷ 0 ∷ 0 ∷ [];
  comparisons = 0;
}

-- the touch of an access: its tag, in the row of its set, in a cache of s sets of blocks of b bytes
abbrev pub touch_of : Meaning → ℕ → ℕ → List (List ℕ) → Access → Touched
touch_of m b s rows x = m.touch (slice_index_or rows (set_of x.address b s) []) (tag_of x.address b s)

-- the cache after an access
abbrev pub accessed : Meaning → ℕ → ℕ → Cache → Access → Cache
accessed m b s c x = record {
  rows = slice_set c.rows (set_of x.address b s) (touch_of m b s c.rows x).row;
  misses = cond (touch_of m b s c.rows x).hit c.misses (one_more x.kind c.misses);
  hits = cond (touch_of m b s c.rows x).hit (one_more x.kind c.hits) c.hits;
  comparisons = c.comparisons + (touch_of m b s c.rows x).comparisons;
}

-- the cache after all accesses
abbrev pub run : Meaning → ℕ → ℕ → Cache → List Access → Cache
run m b s c [] = c
run m b s c (x ∷ xs) = run m b s (accessed m b s c x) xs
