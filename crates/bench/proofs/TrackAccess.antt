-- A bench tracks the reference model over an access that passes, cached or not.
use Rattle.std.proofs.Common.{◌≡◌, ℕ, zero, suc, ◌+◌, ◌^◌, ◌<◌, ◌≤◌, Bool, true, false, ltb, leb, ◌⊎◌, List, [], ◌∷◌, map, length, get_or, set, None, sym, refl, ap, ◌∙◌, subst, ap₂, subst₂, inl, inr, arith}
use Rattle.std.specs.List.{AllByRecursion}
use Rattle.std.proofs.ByRecursion.{All-weaker}
use Rattle.std.proofs.lemmas.List.{get_or-set_other, get_or-set_same, length-set}
use Rattle.std.proofs.lemmas.Bool.{cases_eq, cond-false, cond-true, leb-true, ltb-true}
use Rattle.geometry.specs.Refusal.{ask}
use Rattle.standalone.specs.Cache.{Cache}
use Rattle.standalone.specs.Counting.{one_more}
use Rattle.standalone.specs.declared.access.Access.{Access}
use Rattle.policy.specs.Suite.{Suite, Lawful}
use Rattle.bench.specs.Asked.{access_refusal}
use Rattle.bench.specs.BenchTracks.{BenchTracks}
use Rattle.bench.specs.Calls.{Model, accessed, passed_by, touched}
use Rattle.bench.specs.Entries.{all_counted, counted}
use Rattle.bench.specs.Kept.{HeldBy}
use Rattle.bench.specs.Mixed.{own_step}
use Rattle.bench.specs.Model.{family_of, line_caches, touch_family}
use Rattle.bench.specs.State.{Bench, access_state, pass_state, swept, touch_state}
use Rattle.bench.specs.Sums.{Summed, sums}
use Rattle.bench.specs.Sweep.{sweep_families}
use Rattle.bench.specs.Tracks.{FamiliesTrack}
use Rattle.bench.specs.Window.{cached}
use Rattle.bench.proofs.Inclusion.{families_touched, held_touched}
use Rattle.bench.proofs.Proper.{all_pass, none_at}
use Rattle.bench.proofs.TrackSweep.{families_few, families_hits, families_length, families_shape, families_track}
use Rattle.bench.proofs.TrackCounts.{misses_counted, sums_counted}
use Rattle.bench.proofs.TrackCalls.{Tracked}

-- what an access asked that passes
pub record Passes (accesses : ℕ) (x : Access) : Type 0 where
  pub kind : x.kind ≤ 2
  pub address : x.address < 2 ^ 32
  pub room : accesses < 4294967295

pub access_passes : (need words accesses : ℕ) (x : Access) → access_refusal need words accesses x ≡ None → Passes accesses x
access_passes need words accesses x e =
    let a = all_pass (ask 11 (leb need words) ∷ ask 12 (leb x.kind 2) ∷ ask 13 (leb x.address 4294967295) ∷ ask 14 (ltb accesses 4294967295) ∷ []) (none_at 0 _ e) in
    record { kind = leb-true _ _ a.1.0; address = omega (arith, leb-true x.address 4294967295 a.1.1.0); room = ltb-true _ _ a.1.1.1.0 }

-- the misses of a cache are at most the cached accesses
sums_at_least : (ms ns : List ℕ) (k : ℕ) → length ms ≡ length ns → get_or ms k 0 ≤ get_or (sums ms ns) k 0
sums_at_least [] ns k e = omega arith
sums_at_least (m ∷ ms) [] k e = absurd (omega arith)
sums_at_least (m ∷ ms) (n ∷ ns) zero e = omega arith
sums_at_least (m ∷ ms) (n ∷ ns) (suc k) e = sums_at_least ms ns k (omega arith)

misses_at_most : (cached : List ℕ) (k : ℕ) (c : Cache) → Summed cached c → get_or c.misses k 0 ≤ get_or cached k 0
misses_at_most cached k c S = subst (λ ns. get_or c.misses k 0 ≤ get_or ns k 0) S.2 (sums_at_least c.misses c.hits k (S.0 ∙ sym S.1))

-- one more of a kind
one_more_few : (cached : List ℕ) (kind n : ℕ) → kind < length cached → ((k : ℕ) → get_or cached k 0 ≤ n) → (k : ℕ) → get_or (one_more kind cached) k 0 ≤ n + 1
one_more_few cached kind n low few k = at (cases_eq k kind)
  where
    at : (k ≡ kind) ⊎ (k ≡ kind → ⊥) → get_or (one_more kind cached) k 0 ≤ n + 1
    at (inl e) = subst (λ j. get_or (one_more kind cached) j 0 ≤ n + 1) (sym e) (omega (arith, get_or-set_same cached kind (get_or cached kind 0 + 1) 0 low, few kind))
    at (inr d) = omega (arith, get_or-set_other cached kind k (get_or cached kind 0 + 1) 0 d, few k)

module _ (s : Suite) (L : Lawful s) (m : Model) (b : Bench) (T : BenchTracks s m b) (x : Access) (P : Passes b.state.accesses x) where
  -- the sweep of the model's table
  swept_is : swept s x b ≡ sweep_families (own_step s) b.state.last x.address (map family_of m.families) b.words
  swept_is = ap (λ gs. sweep_families (own_step s) b.state.last x.address gs b.words) (sym T.shape)

  -- no count is at its end
  counted_is : counted x.kind false b.state.cached ≡ one_more x.kind b.state.cached
  counted_is = ap (set b.state.cached x.kind) (omega (arith, T.cached_few x.kind, P.room))

  misses_low : AllByRecursion (λ c. get_or c.misses x.kind 0 < 4294967295) (line_caches m.families)
  misses_low = All-weaker (Summed b.state.cached) _ (λ c S. omega (arith, misses_at_most b.state.cached x.kind c S, T.cached_few x.kind, P.room)) (line_caches m.families) T.hits

  touched_tracks : Tracked s (length b.words) (touched s x m) (touch_state s x b)
  touched_tracks =
      let fs = m.families in
      let last = b.state.last in
      let kinds = b.state.cached in (
        record {
          configs = T.configs;
          accepted = T.accepted;
          shape = families_shape s x fs ∙ T.shape;
          kept = families_touched s L x P.address fs T.kept;
          words = subst (λ v. FamiliesTrack s (map (touch_family s x) fs) v.words) (sym swept_is) (families_track s L x P.address last fs T.kept T.last b.words T.words);
          last = λ a e. subst (λ c. AllByRecursion (HeldBy c) (map (touch_family s x) fs)) (cc) (held_touched s x fs T.kept);
          misses = ap₂ (all_counted x.kind) (ap (λ v. v.hits) swept_is ∙ families_hits s L x P.address last fs T.kept T.last b.words T.words) T.misses ∙ sym (misses_counted s x fs misses_low);
          hits = subst (λ ns. AllByRecursion (Summed ns) (line_caches (map (touch_family s x) fs))) (sym counted_is) (sums_counted s x fs kinds T.hits);
          windows = T.windows;
          accesses = ap (λ n. n + 1) T.accesses;
          uncached = T.uncached;
          frames = T.frames;
          kinds = length-set kinds x.kind _ ∙ T.kinds;
          cached_few = subst (λ ns. (k : ℕ) → get_or ns k 0 ≤ b.state.accesses + 1) (sym counted_is) (one_more_few kinds x.kind b.state.accesses (omega (arith, T.kinds, P.kind)) T.cached_few);
          uncached_few = omega (arith, T.uncached_few);
          accesses_few = omega (arith, P.room);
          few = omega (arith, T.few, ap (λ v. v.comparisons) swept_is, families_few s L x P.address last fs T.kept T.last b.words T.words);
        },
        ap (λ v. length v.words) swept_is ∙ families_length s L x P.address last fs T.kept T.last b.words T.words,
      )

  passed_tracks : Tracked s (length b.words) (passed_by m) (record { state = pass_state b.state; words = b.words })
  passed_tracks = (
    record {
      configs = T.configs;
      accepted = T.accepted;
      shape = T.shape;
      kept = T.kept;
      words = T.words;
      last = T.last;
      misses = T.misses;
      hits = T.hits;
      windows = T.windows;
      accesses = ap (λ n. n + 1) T.accesses;
      uncached = omega (arith, T.uncached, T.uncached_few, P.room);
      frames = T.frames;
      kinds = T.kinds;
      cached_few = λ k. omega (arith, T.cached_few k);
      uncached_few = omega (arith, T.uncached_few);
      accesses_few = omega (arith, P.room);
      few = T.few;
    },
    refl,
  )

  -- an access is cached by the bench's windows where it is by the model's
  pub accessed_tracks : Tracked s (length b.words) (accessed s x m) (access_state s x b)
  accessed_tracks = go (cached m.windows x.address) refl
    where
      go : (c : Bool) → cached m.windows x.address ≡ c → Tracked s (length b.words) (accessed s x m) (access_state s x b)
      go true e = subst₂ (Tracked s (length b.words)) (sym (cond-true _ _ _ e)) (sym (cond-true _ _ _ (ap (λ ws. cached ws x.address) T.windows ∙ e))) touched_tracks
      go false e = subst₂ (Tracked s (length b.words)) (sym (cond-false _ _ _ e)) (sym (cond-false _ _ _ (ap (λ ws. cached ws x.address) T.windows ∙ e))) passed_tracks
