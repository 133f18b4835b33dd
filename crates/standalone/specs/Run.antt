-- One cache run alone over its own memory: what it asks, what it answers and what it leaves.
use Rattle.std.specs.Prelude.{◌≡◌, ℕ, ◌+◌, ◌*◌, ◌≤◌, List, [], ◌∷◌, ◌++◌, length, drop, Some, None, nat_le}
use Rattle.std.specs.List.{AllByRecursion}
use Rattle.policy.specs.Policy.{Meaning}
use Rattle.policy.specs.Three.{Three, policy_of, which}
use Rattle.policy.specs.declared.three.Member.{Member}
use Rattle.geometry.specs.Refusal.{Question, ask, first_no}
use Rattle.geometry.specs.Address.{block_in, sets_in}
use Rattle.geometry.specs.Line.{line_questions, GeometryOf}
use Rattle.geometry.specs.declared.geometry.Geometry.{Geometry}
use Rattle.geometry.specs.declared.line.Line.{Line}
use Rattle.standalone.specs.Allowed.{Allowed}
use Rattle.standalone.specs.Cache.{Cache, new_cache, run}
use Rattle.standalone.specs.Rows.{laid}
use Rattle.standalone.specs.declared.access.Access.{Access}
use Rattle.standalone.specs.declared.access.Counts.{Counts}

-- the kind is 0 to 2, the address below 2 ^ 32
abbrev pub access_questions : List Access → List Question
access_questions [] = []
access_questions (x ∷ xs) = ask 12 (nat_le x.kind 2) ∷ ask 13 (nat_le x.address 4294967295) ∷ access_questions xs

-- the words that a line's rows take
abbrev pub need : Line → ℕ
need line = line.sets * (line.ways + 1)

-- what a run asks: of the line, of the memory's length, of the number of accesses, then of each access
abbrev pub run_questions : Three → Line → List Access → ℕ → List Question
run_questions p line xs words = line_questions p line ++ (ask 11 (nat_le (need line) words) ∷ ask 14 (nat_le (length xs) 4294967295) ∷ access_questions xs)

-- the line's cache after the accesses, by the policy k
abbrev pub ran : Three → Line → Member → List Access → Cache
ran p line k xs = run (policy_of p k) line.block line.sets (new_cache (policy_of p k) line.sets line.ways) xs

-- what a run answers and leaves in the memory, for the policy that the letter names
pub record Ran (p : Three) (line : Line) (xs : List Access) (entry exit : List ℕ) (misses hits : List ℕ) (comparisons : ℕ) : Type 0 where
  pub missed : (k : Member) → which p line.letter ≡ Some k → misses ≡ (ran p line k xs).misses
  pub hit : (k : Member) → which p line.letter ≡ Some k → hits ≡ (ran p line k xs).hits
  pub compared : (k : Member) → which p line.letter ≡ Some k → comparisons ≡ (ran p line k xs).comparisons
  pub memory : (k : Member) → which p line.letter ≡ Some k → exit ≡ laid (ran p line k xs).rows ++ drop (need line) entry

-- memory and counts are those of the cache after the accesses
pub record Tracks (m : Meaning) (b s a : ℕ) (xs : List Access) (rest memory : List ℕ) (counts : Counts) (comparisons : ℕ) : Type 0 where
  pub rows : memory ≡ laid (run m b s (new_cache m s a) xs).rows ++ rest
  pub misses : counts.misses ≡ (run m b s (new_cache m s a) xs).misses
  pub hits : counts.hits ≡ (run m b s (new_cache m s a) xs).hits
  pub compared : comparisons ≡ (run m b s (new_cache m s a) xs).comparisons

-- every question is passed, and the line has this geometry
pub record Prepared (p : Three) (line : Line) (xs : List Access) (words : ℕ) (g : Geometry) : Type 0 where
  pub asked : first_no (run_questions p line xs words) ≡ None
  pub geometry : GeometryOf p line g
  pub room : need line ≤ words
  pub few : length xs ≤ 4294967295
  pub allowed : AllByRecursion Allowed xs

-- in a cache of this geometry
abbrev pub TracksIn : Three → Geometry → List Access → List ℕ → List ℕ → Counts → ℕ → Type 0
TracksIn p g xs rest memory counts comparisons = Tracks (policy_of p g.member) (block_in g) (sets_in g) g.ways xs rest memory counts comparisons
