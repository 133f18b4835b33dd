-- An access touches every direct-mapped cache, which then holds its block; a cache of more sets still holds what one of fewer does.
-- A level that holds the block of an access already stays as it is but for its counts, and all its lines hit.
use Rattle.std.proofs.Common.{◌≡◌, ℕ, ◌+◌, ◌*◌, ◌/◌, ◌%◌, ◌^◌, ◌<◌, true, ◌⊎◌, List, [], ◌∷◌, map, length, get_or, set, Some, None, sym, refl, ap, ◌∙◌, subst, ap₂, inl, inr, arith}
use native.Mathlib.Nat.{div-add-mod, div-div-eq-div-mul, dvd-mul_right, mod-mod_of_dvd}
use Rattle.std.specs.List.{AllByRecursion}
use Rattle.std.proofs.ByRecursion.{All-map, All-weaker}
use Rattle.std.proofs.lemmas.List.{get_or-set_other, get_or-set_same, length-set}
use Rattle.std.proofs.lemmas.Bool.{cases_eq}
use Rattle.geometry.specs.Address.{set_of, tag_of}
use Rattle.standalone.specs.Cache.{touch_of}
use Rattle.standalone.specs.declared.access.Access.{Access}
use Rattle.policy.specs.Suite.{Suite, Lawful, meaning}
use Rattle.bench.specs.Model.{FamilyModel, LevelModel, LineModel, touch_family, touch_level, touch_line}
use Rattle.bench.specs.Kept.{Coarser, FamiliesKept, HeldBy, Holds, Includes, LevelKept, LevelsKept, LineKept}
use Rattle.bench.proofs.LineKept.{direct_stays, hit_hits, hit_rows, line_touched, set_low}

-- addresses in one block lie in one block of every larger size
pub same_coarser : (a c b larger factor : ℕ) → larger ≡ b * factor → a / b ≡ c / b → a / larger ≡ c / larger
same_coarser a c b larger factor e same =
    ap (λ n. a / n) e ∙ sym (div-div-eq-div-mul a b factor) ∙ ap (λ n. n / factor) same ∙ div-div-eq-div-mul c b factor ∙ ap (λ n. c / n) (sym e)

-- blocks of one set of the larger cache are of one set of the smaller
same_set : (j k sets larger factor : ℕ) → larger ≡ sets * factor → k % larger ≡ j % larger → k % sets ≡ j % sets
same_set j k sets larger factor e same = sym (within k) ∙ ap (λ n. n % sets) same ∙ within j
  where
    within : (n : ℕ) → n % larger % sets ≡ n % sets
    within n = ap (λ w. n % w % sets) e ∙ mod-mod_of_dvd sets n (dvd-mul_right sets factor)

-- a block is known by its set and its tag
set_and_tag : (j k sets : ℕ) → k % sets ≡ j % sets → k / sets ≡ j / sets → k ≡ j
set_and_tag j k sets e d = sym (div-add-mod k sets) ∙ ap₂ (λ q r. sets * q + r) d e ∙ div-add-mod j sets

-- the direct-mapped cache of a level holds the block of an access to it
pub holds-touched : (s : Suite) (b : ℕ) (x : Access) (l : LevelModel) → 0 < l.sets → length l.direct.tags ≡ l.sets → Holds (touch_level s b x l) (x.address / b)
holds-touched s b x l some long = get_or-set_same l.direct.tags (set_of x.address b l.sets) (Some (tag_of x.address b l.sets)) None (omega (arith, set_low x.address b l.sets some))

-- any other block that it holds lies in another set, and was held before
held_before : (s : Suite) (b : ℕ) (x : Access) (l : LevelModel) (k : ℕ) → 0 < l.sets → length l.direct.tags ≡ l.sets → Holds (touch_level s b x l) k
    → (k ≡ x.address / b) ⊎ ((k % l.sets ≡ set_of x.address b l.sets → ⊥) × Holds l k)
held_before s b x l k some long h = at (cases_eq (k % l.sets) i)
  where
    i : ℕ
    i = set_of x.address b l.sets

    t : ℕ
    t = tag_of x.address b l.sets

    at : (k % l.sets ≡ i) ⊎ (k % l.sets ≡ i → ⊥) → (k ≡ x.address / b) ⊎ ((k % l.sets ≡ i → ⊥) × Holds l k)
    at (inl e) =
        let both : Some (k / l.sets) ≡ Some t = sym h ∙ ap (λ n. get_or (set l.direct.tags i (Some t)) n None) e ∙ holds-touched s b x l some long in
        inl (set_and_tag (x.address / b) k l.sets e (cc both))
    at (inr n) = inr (n, sym (get_or-set_other l.direct.tags i (k % l.sets) (Some t) None n) ∙ h)

pub includes_touched : (s : Suite) (b : ℕ) (x : Access) (l larger : LevelModel) → 0 < l.sets → 0 < larger.sets → length l.direct.tags ≡ l.sets → length larger.direct.tags ≡ larger.sets
    → Includes l larger → Includes (touch_level s b x l) (touch_level s b x larger)
includes_touched s b x l larger some more long wide I = record { more = I.more; factor = I.factor; multiple = I.multiple; holds = λ k h. at k (held_before s b x l k some long h) }
  where
    i : ℕ
    i = set_of x.address b larger.sets

    t : ℕ
    t = tag_of x.address b larger.sets

    at : (k : ℕ) → (k ≡ x.address / b) ⊎ ((k % l.sets ≡ set_of x.address b l.sets → ⊥) × Holds l k) → Holds (touch_level s b x larger) k
    at k (inl e) = subst (Holds (touch_level s b x larger)) (sym e) (holds-touched s b x larger more wide)
    at k (inr h) = get_or-set_other larger.direct.tags i (k % larger.sets) (Some t) None (λ e. h.0 (same_set (x.address / b) k l.sets larger.sets I.factor I.multiple e)) ∙ I.holds k h.1

-- what a smaller level holds, all later ones of its block size hold
pub later_hold : (l : LevelModel) (ls : List LevelModel) (k : ℕ) → AllByRecursion (Includes l) ls → Holds l k → AllByRecursion (λ z. Holds z k) ls
later_hold l ls k I h = All-weaker (Includes l) (λ z. Holds z k) (λ z i. i.holds k h) ls I

-- the access just touched is held by every direct-mapped cache
levels_hold : (s : Suite) (b : ℕ) (x : Access) (ls : List LevelModel) → LevelsKept s ls → AllByRecursion (λ l. Holds l (x.address / b)) (map (touch_level s b x) ls)
levels_hold s b x [] K = tt
levels_hold s b x (l ∷ ls) K = (holds-touched s b x l K.0.some K.0.tags, levels_hold s b x ls K.1.1)

pub held_touched : (s : Suite) (x : Access) (fs : List FamilyModel) → FamiliesKept s fs → AllByRecursion (HeldBy x.address) (map (touch_family s x) fs)
held_touched s x [] K = tt
held_touched s x (f ∷ fs) K = (levels_hold s f.block x f.levels K.1.0, held_touched s x fs K.1.1.1)

-- a level after an access of a block that it holds: its direct-mapped cache and the rows of its lines stay, and all lines hit
pub record Skipped (s : Suite) (b : ℕ) (x : Access) (l : LevelModel) : Type 0 where
  pub tags : (touch_level s b x l).direct.tags ≡ l.direct.tags
  pub rows : map (λ z. z.cache.rows) (touch_level s b x l).lines ≡ map (λ z. z.cache.rows) l.lines
  pub hits : map (λ z. (touch_of (meaning s z.kin.member) b l.sets z.cache.rows x).hit) l.lines ≡ map (λ z. true) l.lines

module _ (s : Suite) (L : Lawful s) (x : Access) (small : x.address < 2 ^ 32) where
  pub level_touched : (b : ℕ) (l : LevelModel) → LevelKept s l → LevelKept s (touch_level s b x l)
  level_touched b l K = record {
    some = K.some;
    tags = length-set l.direct.tags (set_of x.address b l.sets) (Some (tag_of x.address b l.sets)) ∙ K.tags;
    lines = All-map _ (touch_line s b l.sets x) l.lines (All-weaker _ _ (λ z k. line_touched s L b l.sets x small K.some l.direct.tags z k K.tags) l.lines K.lines);
  }

  includes_all : (b : ℕ) (l : LevelModel) (ls : List LevelModel) → LevelKept s l → AllByRecursion (Includes l) ls → LevelsKept s ls → AllByRecursion (Includes (touch_level s b x l)) (map (touch_level s b x) ls)
  includes_all b l [] K I Ks = tt
  includes_all b l (z ∷ ls) K I Ks = (includes_touched s b x l z K.some Ks.0.some K.tags Ks.0.tags I.0, includes_all b l ls K I.1 Ks.1.1)

  pub levels_touched : (b : ℕ) (ls : List LevelModel) → LevelsKept s ls → LevelsKept s (map (touch_level s b x) ls)
  levels_touched b [] K = tt
  levels_touched b (l ∷ ls) K = (level_touched b l K.0, (includes_all b l ls K.0 K.1.0 K.1.1, levels_touched b ls K.1.1))

  -- the block sizes stay
  coarser_all : (f : FamilyModel) (fs : List FamilyModel) → AllByRecursion (Coarser f) fs → AllByRecursion (Coarser (touch_family s x f)) (map (touch_family s x) fs)
  coarser_all f fs C = All-map _ (touch_family s x) fs (All-weaker (Coarser f) _ (λ g c. record { factor = c.factor; multiple = c.multiple }) fs C)

  pub families_touched : (fs : List FamilyModel) → FamiliesKept s fs → FamiliesKept s (map (touch_family s x) fs)
  families_touched [] K = tt
  families_touched (f ∷ fs) K = (K.0, (levels_touched f.block f.levels K.1.0, (coarser_all f fs K.1.1.0, families_touched fs K.1.1.1)))

  module _ (b : ℕ) (l : LevelModel) (K : LevelKept s l) (held : Holds l (x.address / b)) where
    rows_stay : (zs : List LineModel) → AllByRecursion (LineKept s l.sets l.direct.tags) zs → map (λ z. z.cache.rows) (map (touch_line s b l.sets x) zs) ≡ map (λ z. z.cache.rows) zs
    rows_stay [] k = refl
    rows_stay (z ∷ zs) k = ap₂ (λ r rs. r ∷ rs) (hit_rows s L b l.sets x small K.some l.direct.tags z k.0 held) (rows_stay zs k.1)

    lines_hit : (zs : List LineModel) → AllByRecursion (LineKept s l.sets l.direct.tags) zs → map (λ z. (touch_of (meaning s z.kin.member) b l.sets z.cache.rows x).hit) zs ≡ map (λ z. true) zs
    lines_hit [] k = refl
    lines_hit (z ∷ zs) k = ap₂ (λ h hs. h ∷ hs) (hit_hits s L b l.sets x small K.some l.direct.tags z k.0 held) (lines_hit zs k.1)

    pub skipped_level : Skipped s b x l
    skipped_level = record {
      tags = direct_stays l.direct.tags (set_of x.address b l.sets) (tag_of x.address b l.sets) held;
      rows = rows_stay l.lines K.lines;
      hits = lines_hit l.lines K.lines;
    }
