-- What holds of a cache at every access, under the laws of its policy.
use Rattle.std.proofs.Common.{◌≡◌, ℕ, zero, suc, ◌+◌, ◌*◌, ◌^◌, ◌<◌, ◌≤◌, true, List, [], ◌∷◌, ◌++◌, length, get_or, take, sym, refl, ap, ◌∙◌, subst, ⊎_elim, div-le_self, arith}
use Rattle.std.specs.List.{AllByRecursion}
use Rattle.std.proofs.lemmas.Nat.{mod_below}
use Rattle.std.proofs.ByRecursion.{All-get_or, All-set, All-take}
use Rattle.std.proofs.lemmas.List.{length-set, length-replicate, length-take-le, get_or-set_same, get_or-set_other, set_past, take_more}
use Rattle.std.proofs.lemmas.Bool.{cond_both, cases_eq, cases_lt}
use Rattle.policy.specs.Policy.{Meaning, Laws}
use Rattle.policy.specs.SearchLemmas.{place_le, all_replicate}
use Rattle.geometry.specs.Address.{set_of, tag_of, block_of}
use Rattle.standalone.specs.Allowed.{Allowed}
use Rattle.standalone.specs.Counting.{one_more}
use Rattle.standalone.specs.Cache.{Cache, new_cache, accessed, touch_of, run}
use Rattle.standalone.specs.declared.access.Access.{Access}

-- s rows that the policy made; after n accesses no count is above n, and the comparisons are at most 16 for each
pub record Sound (m : Meaning) (s a n : ℕ) (c : Cache) : Type 0 where
  pub made : AllByRecursion (m.Row a) c.rows
  pub sets : length c.rows ≡ s
  pub miss_kinds : length c.misses ≡ 3
  pub hit_kinds : length c.hits ≡ 3
  pub misses : (k : ℕ) → get_or c.misses k 0 ≤ n
  pub hits : (k : ℕ) → get_or c.hits k 0 ≤ n
  pub comparisons : c.comparisons ≤ 16 * n

none_yet : (k : ℕ) → get_or (0 ∷ 0 ∷ 0 ∷ []) k 0 ≤ 0
none_yet zero = omega arith
none_yet (suc zero) = omega arith
none_yet (suc (suc zero)) = omega arith
none_yet (suc (suc (suc k))) = omega arith

one_more_le : (kind n : ℕ) (counts : List ℕ) → ((k : ℕ) → get_or counts k 0 ≤ n) → (k : ℕ) → get_or (one_more kind counts) k 0 ≤ suc n
one_more_le kind n counts h k =
    ⊎_elim
    (λ e. ⊎_elim
    (λ l. subst (λ x. x ≤ suc n) (sym (ap (λ j. get_or (one_more kind counts) j 0) e ∙ get_or-set_same counts kind (get_or counts kind 0 + 1) 0 l)) (omega (arith, h kind)))
    (λ g. subst (λ xs. get_or xs k 0 ≤ suc n) (sym (set_past counts kind (get_or counts kind 0 + 1) g)) (omega (arith, h k)))
    (cases_lt kind (length counts)))
    (λ d. subst (λ x. x ≤ suc n) (sym (get_or-set_other counts kind k (get_or counts kind 0 + 1) 0 d)) (omega (arith, h k)))
    (cases_eq k kind)

module _ (m : Meaning) (L : Laws m) (s a : ℕ) (takes : m.takes a ≡ true) (pos : 0 < s) where
  pub sound_new : Sound m s a 0 (new_cache m s a)
  sound_new = record {
    made = all_replicate (m.Row a) s (m.start (a + 1)) (L.started a takes);
    sets = length-replicate s (m.start (a + 1));
    miss_kinds = refl;
    hit_kinds = refl;
    misses = none_yet;
    hits = none_yet;
    comparisons = omega arith;
  }

  module _ (b n : ℕ) (c : Cache) (S : Sound m s a n c) (x : Access) (ok : Allowed x) where
    pub set_below : set_of x.address b s < s
    set_below = mod_below (block_of x.address b) s pos

    row_made : m.Row a (get_or c.rows (set_of x.address b s) [])
    row_made = All-get_or (m.Row a) c.rows (set_of x.address b s) [] (subst (λ k. set_of x.address b s < k) (sym S.sets) set_below) S.made

    pub tag_fits : tag_of x.address b s < 2 ^ 32
    tag_fits = omega (arith, div-le_self (block_of x.address b) s, div-le_self x.address b, ok.address)

    pub comparisons_few : (touch_of m b s c.rows x).comparisons ≤ 16
    comparisons_few =
        let r = get_or c.rows (set_of x.address b s) [] in
        let t = tag_of x.address b s in
        omega (arith, L.compares a r t takes row_made tag_fits, place_le t (m.residents r), L.few a r takes row_made, (L.ways a takes).1)

    pub sound_next : Sound m s a (suc n) (accessed m b s c x)
    sound_next = record {
      made = All-set (m.Row a) c.rows (set_of x.address b s) (touch_of m b s c.rows x).row (L.touched a (get_or c.rows (set_of x.address b s) []) (tag_of x.address b s) takes row_made tag_fits) S.made;
      sets = length-set c.rows (set_of x.address b s) (touch_of m b s c.rows x).row ∙ S.sets;
      miss_kinds = cond_both (touch_of m b s c.rows x).hit c.misses (one_more x.kind c.misses) (λ l. length l ≡ 3) (λ e. S.miss_kinds) (λ e. length-set c.misses x.kind (get_or c.misses x.kind 0 + 1) ∙ S.miss_kinds);
      hit_kinds = cond_both (touch_of m b s c.rows x).hit (one_more x.kind c.hits) c.hits (λ l. length l ≡ 3) (λ e. length-set c.hits x.kind (get_or c.hits x.kind 0 + 1) ∙ S.hit_kinds) (λ e. S.hit_kinds);
      misses = λ k. cond_both (touch_of m b s c.rows x).hit c.misses (one_more x.kind c.misses) (λ l. get_or l k 0 ≤ suc n) (λ e. omega (arith, S.misses k)) (λ e. one_more_le x.kind n c.misses S.misses k);
      hits = λ k. cond_both (touch_of m b s c.rows x).hit (one_more x.kind c.hits) c.hits (λ l. get_or l k 0 ≤ suc n) (λ e. one_more_le x.kind n c.hits S.hits k) (λ e. omega (arith, S.hits k));
      comparisons = omega (arith, S.comparisons, comparisons_few);
    }

  pub sound_run : (b n : ℕ) (c : Cache) (xs : List Access) → Sound m s a n c → AllByRecursion Allowed xs → Sound m s a (n + length xs) (run m b s c xs)
  sound_run b n c [] S h = subst (λ k. Sound m s a k c) (omega arith) S
  sound_run b n c (x ∷ xs) S h = subst (λ k. Sound m s a k (run m b s (accessed m b s c x) xs)) (omega arith) (sound_run b (suc n) (accessed m b s c x) xs (sound_next b n c S x h.0) h.1)

  -- the cache after the first n accesses
  pub sound_at : (b n : ℕ) (xs : List Access) → AllByRecursion Allowed xs → n ≤ length xs → Sound m s a n (run m b s (new_cache m s a) (take n xs))
  sound_at b n xs h l =
      let long : length (take n xs) ≡ n = length-take-le n xs l in
      subst (λ k. Sound m s a k (run m b s (new_cache m s a) (take n xs))) (omega arith)
      (sound_run b 0 (new_cache m s a) (take n xs) sound_new (All-take Allowed n xs h))

pub run_push : (m : Meaning) (b s : ℕ) (c : Cache) (xs : List Access) (x : Access) → run m b s c (xs ++ (x ∷ [])) ≡ accessed m b s (run m b s c xs) x
run_push m b s c [] x = refl
run_push m b s c (y ∷ xs) x = run_push m b s (accessed m b s c y) xs x

pub run_more : (m : Meaning) (b s : ℕ) (c : Cache) (xs : List Access) (i : ℕ) (d : Access) → i < length xs → run m b s c (take (i + 1) xs) ≡ accessed m b s (run m b s c (take i xs)) (get_or xs i d)
run_more m b s c xs i d h = ap (run m b s c) (take_more xs i d h) ∙ run_push m b s c (take i xs) (get_or xs i d)
