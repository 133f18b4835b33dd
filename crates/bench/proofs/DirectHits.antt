-- Where a level's direct-mapped cache hits, an access adds a hit and no miss to every line of its block size with at least as many sets.
use Rattle.std.proofs.Common.{ℕ, ◌/◌, ◌^◌, ◌<◌, ◌≤◌, List, [], ◌∷◌, arith}
use Rattle.std.specs.List.{AllByRecursion}
use Rattle.std.proofs.ByRecursion.{All-weaker}
use Rattle.std.proofs.lemmas.Bool.{cond-true}
use Rattle.standalone.specs.declared.access.Access.{Access}
use Rattle.policy.specs.Suite.{Suite, Lawful}
use Rattle.bench.specs.Kept.{FamiliesKept, Holds, Includes, LevelKept, LevelsKept, LineKept}
use Rattle.bench.specs.Model.{FamilyModel, LevelModel}
use Rattle.bench.specs.Theorem.{AddsHit, DirectHits}
use Rattle.bench.proofs.Inclusion.{later_hold}
use Rattle.bench.proofs.LineKept.{hit_hits}

module _ (s : Suite) (L : Lawful s) (x : Access) (small : x.address < 2 ^ 32) where
  -- an access adds hits to a level
  abbrev Adds : ℕ → LevelModel → Type 0
  Adds b k = AllByRecursion (AddsHit s b k.sets x) k.lines

  -- to a level that holds its block
  held_adds : (b : ℕ) (l : LevelModel) → LevelKept s l → Holds l (x.address / b) → Adds b l
  held_adds b l K held = All-weaker (LineKept s l.sets l.direct.tags) (AddsHit s b l.sets x) (λ z k.
      let hit = hit_hits s L b l.sets x small K.some l.direct.tags z k held in
      record { hit = cond-true _ _ _ hit; miss = cond-true _ _ _ hit }) l.lines K.lines

  all_add : (b : ℕ) (ls : List LevelModel) → LevelsKept s ls → AllByRecursion (λ l. Holds l (x.address / b)) ls → AllByRecursion (Adds b) ls
  all_add b [] K H = tt
  all_add b (l ∷ ls) K H = (held_adds b l K.0 H.0, all_add b ls K.1.1 H.1)

  -- a level that holds it, among levels: it adds to those with at least as many sets
  abbrev AddsAmong : ℕ → List LevelModel → LevelModel → Type 0
  AddsAmong b ls l = Holds l (x.address / b) → AllByRecursion (λ k. l.sets ≤ k.sets → Adds b k) ls

  -- a level before them has fewer sets
  with_earlier : (b : ℕ) (l : LevelModel) (ls ms : List LevelModel) → AllByRecursion (Includes l) ms → AllByRecursion (AddsAmong b ls) ms → AllByRecursion (AddsAmong b (l ∷ ls)) ms
  with_earlier b l ls [] I A = tt
  with_earlier b l ls (m ∷ ms) I A = ((λ h. ((λ le. absurd (omega (arith, I.0.more))), A.0 h)), with_earlier b l ls ms I.1 A.1)

  levels_add : (b : ℕ) (ls : List LevelModel) → LevelsKept s ls → AllByRecursion (AddsAmong b ls) ls
  levels_add b [] K = tt
  levels_add b (l ∷ ls) K = (
    λ h. ((λ _. held_adds b l K.0 h), All-weaker (Adds b) (λ k. l.sets ≤ k.sets → Adds b k) (λ k a _. a) ls (all_add b ls K.1.1 (later_hold l ls (x.address / b) K.1.0 h))),
    with_earlier b l ls ls K.1.0 (levels_add b ls K.1.1),
  )

  pub direct_hits : (fs : List FamilyModel) → FamiliesKept s fs → AllByRecursion (DirectHits s x) fs
  direct_hits [] K = tt
  direct_hits (f ∷ fs) K = (levels_add f.block f.levels K.1.0, direct_hits fs K.1.1.1)
