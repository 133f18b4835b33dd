-- Known counts: small runs whose outcome is worked out by hand.
use Rattle.std.specs.Prelude.{◌≡◌, ℕ, suc, cond, List, [], ◌∷◌, ◌++◌, map, slice_index_or}
use Rattle.std.specs.List.{AllByRecursion}
use Rattle.policy.specs.Policy.{Meaning}
use Rattle.policy.specs.Standard.{standard}
use Rattle.policy.specs.Three.{policy_of}
use Rattle.policy.specs.declared.three.Member.{Member}
use Rattle.policy.specs.declared.three.Member.TheVariants.{First, Second, Further}
use Rattle.geometry.specs.declared.line.Line.{Line}
use Rattle.standalone.specs.Cache.{Cache, new_cache, accessed, touch_of, run}
use Rattle.standalone.specs.declared.access.Access.{Access}

-- a read of an address
abbrev pub read : ℕ → Access
read address = record { kind = 1; address = address }

-- in hexadecimal 1d0, 210, 250, 1d0, 190, 1d0
abbrev pub six_reads : List Access
six_reads = map read (0x1d0 ∷ 0x210 ∷ 0x250 ∷ 0x1d0 ∷ 0x190 ∷ 0x1d0 ∷ [])

-- a cache of 4 sets of 16-byte blocks
abbrev pub four_sets : ℕ → ℕ → Line
four_sets letter ways = record { block = 16; sets = 4; letter = letter; ways = ways }

-- FIFO (70), LRU (76) and tree PLRU (80), each with two numbers of ways
abbrev pub six_lines : List Line
six_lines = four_sets 70 2 ∷ four_sets 70 3 ∷ four_sets 76 2 ∷ four_sets 76 3 ∷ four_sets 80 2 ∷ four_sets 80 4 ∷ []

-- blocks 1, 2, 1, 3, 1, 4 of 16 bytes
abbrev pub six_blocks : List Access
six_blocks = map read (0x10 ∷ 0x20 ∷ 0x10 ∷ 0x30 ∷ 0x10 ∷ 0x40 ∷ [])

-- the places of the accesses that hit, where the first has the place i
abbrev pub hits_from : Meaning → ℕ → ℕ → ℕ → Cache → List Access → List ℕ
hits_from m b s i c [] = []
hits_from m b s i c (x ∷ xs) = cond (touch_of m b s c.rows x).hit (i ∷ hits_from m b s (suc i) (accessed m b s c x) xs) (hits_from m b s (suc i) (accessed m b s c x) xs)

-- A run: the cache, its accesses, and what must come of them.
pub record Known : Type 0 where
  pub policy : Member
  pub sets : ℕ
  pub block : ℕ
  pub ways : ℕ
  pub accesses : List Access
  -- the places, from 1, of the accesses that hit
  pub hits : List ℕ
  -- misses of each kind
  pub misses : List ℕ
  -- one set, and its row in the end
  pub set : ℕ
  pub row : List ℕ

-- the cache of a known run before and after its accesses
abbrev pub known_start : Known → Cache
known_start k = new_cache (policy_of standard k.policy) k.sets k.ways

abbrev pub known_end : Known → Cache
known_end k = run (policy_of standard k.policy) k.block k.sets (known_start k) k.accesses

-- what must come of a run does
pub record Stands (k : Known) : Type 0 where
  pub hits : hits_from (policy_of standard k.policy) k.block k.sets 1 (known_start k) k.accesses ≡ k.hits
  pub misses : (known_end k).misses ≡ k.misses
  pub row : slice_index_or (known_end k).rows k.set [] ≡ k.row

abbrev pub known_run : Member → ℕ → ℕ → ℕ → List Access → List ℕ → List ℕ → ℕ → List ℕ → Known
known_run policy sets block ways accesses hits misses set row = record {
  policy = policy;
  sets = sets;
  block = block;
  ways = ways;
  accesses = accesses;
  hits = hits;
  misses = misses;
  set = set;
  row = row;
}

-- on the six reads FIFO of 2 ways hits only the sixth and of 3 ways only the fourth; LRU misses 5 and 4;
-- tree PLRU of 4 ways misses 4 of the six blocks, and block 2 then misses and fills leaf 1
abbrev pub known : List Known
known =
    known_run First 4 16 2 six_reads (6 ∷ []) (0 ∷ 5 ∷ 0 ∷ []) 1 (2 ∷ 6 ∷ 7 ∷ [])
    ∷ known_run First 4 16 3 six_reads (4 ∷ []) (0 ∷ 5 ∷ 0 ∷ []) 1 (3 ∷ 7 ∷ 6 ∷ 9 ∷ [])
    ∷ known_run Second 4 16 2 six_reads (6 ∷ []) (0 ∷ 5 ∷ 0 ∷ []) 1 (2 ∷ 7 ∷ 6 ∷ [])
    ∷ known_run Second 4 16 3 six_reads (4 ∷ 6 ∷ []) (0 ∷ 4 ∷ 0 ∷ []) 1 (3 ∷ 7 ∷ 6 ∷ 9 ∷ [])
    ∷ known_run Further 1 16 4 six_blocks (3 ∷ 5 ∷ []) (0 ∷ 4 ∷ 0 ∷ []) 0 (851974 ∷ 1 ∷ 0 ∷ 4 ∷ 3 ∷ [])
    ∷ known_run Further 1 16 4 (six_blocks ++ (read 0x20 ∷ [])) (3 ∷ 5 ∷ []) (0 ∷ 5 ∷ 0 ∷ []) 0 (983045 ∷ 1 ∷ 2 ∷ 4 ∷ 3 ∷ [])
    ∷ []

-- every known run comes out as it must
abbrev pub KnownCounts : Type 0
KnownCounts = AllByRecursion Stands known
