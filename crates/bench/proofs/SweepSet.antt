-- The sweep at one set keeps its rows beside the standalone rows, hits as they do, and compares no more.
use Rattle.std.proofs.Common.{◌≡◌, ℕ, ◌+◌, ◌^◌, ◌<◌, ◌≤◌, Bool, true, false, ◌&&◌, leb, List, [], ◌∷◌, take, Some, None, Option, sym, refl, ap, ◌∙◌, subst, arith}
use Rattle.std.specs.List.{AllByRecursion}
use Rattle.std.proofs.lemmas.List.{take-take}
use Rattle.std.proofs.lemmas.Bool.{true≢false, and_left, and_right, and_from, le-leb, lt-leb, leb-true, leb-false, cond-true, cond-false}
use Rattle.policy.specs.Search.{place}
use Rattle.policy.specs.Policy.{Meaning, Laws}
use Rattle.policy.specs.Nesting.{Nest, Nests, Nested, First}
use Rattle.bench.specs.Rows.{Slot, Lead, Stepped, stay, leave, step, step_follower, touch_leader, sweep, leads}
use Rattle.bench.specs.Beside.{leader, Beside, AllBeside, rows_touched, rows_hit, rows_compared}
use Rattle.bench.proofs.Alike.{alike_hit, alike_comparisons, alike_residents}
use Rattle.bench.proofs.Steps.{Goes, misses, hits, nests, leaves, goes, step-leads, step_follows, rising_kept}

some_is : {A : Type 0} (x y : A) → Some x ≡ Some y → x ≡ y
some_is x y e = cc

none_some : {A : Type 0} (x : A) → None ≡ Some x → ⊥
none_some {A} x e = let z : ◌≡◌ {A = ℕ} 0 1 = cc in omega arith

-- the nearest leader of a list whose first row leads, and of one whose first row follows
leader_first : (x : Slot) (xs : List Slot) → leads x ≡ true → leader (x ∷ xs) ≡ Some x
leader_first x xs h = cond-true (leads x) (Some x) (leader xs) h

leader_later : (x : Slot) (xs : List Slot) → leads x ≡ false → leader (x ∷ xs) ≡ leader xs
leader_later x xs h = cond-false (leads x) (Some x) (leader xs) h

module _ (m : Meaning) (L : Laws m) (e : Nest) (V : Nests m e) (t : ℕ) (small : t < 2 ^ 32) where
  -- what is known of a nearest leader
  record Known (y : Slot) : Type 0 where
    takes : m.takes y.ways ≡ true
    made : m.Row y.ways y.row

  leader-known : (xs : List Slot) (qs : List (List ℕ)) → AllBeside m xs qs → (y : Slot) → leader xs ≡ Some y → Known y
  leader-known [] [] b y n = absurd (none_some y n)
  leader-known [] (q ∷ qs) b y n = absurd b
  leader-known (x ∷ xs) [] b y n = absurd b
  leader-known (x ∷ xs) (q ∷ qs) b y n = go (leads x) refl (leader-known xs qs b.1 y)
    where
      go : (c : Bool) → leads x ≡ c → (leader xs ≡ Some y → Known y) → Known y
      go true h ih =
          let is : x ≡ y = some_is x y (sym (leader_first x xs h) ∙ n) in
          subst Known is (record { takes = b.0.takes; made = (b.0.leading h).made })
      go false h ih = ih (sym (leader_later x xs h) ∙ n)

  leader_wider : (k : ℕ) (xs : List Slot) (y : Slot) → AllByRecursion (λ z. k ≤ z.ways) xs → leader xs ≡ Some y → k ≤ y.ways
  leader_wider k [] y h n = absurd (none_some y n)
  leader_wider k (x ∷ xs) y h n = go (leads x) refl (leader_wider k xs y h.1)
    where
      go : (c : Bool) → leads x ≡ c → (leader xs ≡ Some y → k ≤ y.ways) → k ≤ y.ways
      go true l ih = subst (λ z. k ≤ z.ways) (some_is x y (sym (leader_first x xs l) ∙ n)) h.0
      go false l ih = ih (sym (leader_later x xs l) ∙ n)

  -- What a sweep hands down to a row q of n ways that is the first n of its nearest leader y.
  record Handed (after : List Slot) (lead : Option Lead) (n : ℕ) (q : List ℕ) (y : Slot) : Type 0 where
    told : Lead
    is : lead ≡ Some told
    hit : (m.touch q t).hit ≡ (told.hit && leb told.place n)
    before : told.hit ≡ true → n < told.place → told.before ≡ y.row
    near : Slot
    nearest : leader after ≡ Some near
    stays : (told.hit ≡ true → n < told.place → e.keeps ≡ true) → m.residents (m.touch q t).row ≡ take n (m.residents near.row)

  -- a row q that is the first n of a leader x, both touched
  module _ (n : ℕ) (q : List ℕ) (takes : m.takes n ≡ true) (Q : m.Row n q) (x : Slot) (X : Known x) (narrow : n ≤ x.ways) (first : First m n q x.row) where
    nested : Nested m n x.ways q x.row t
    nested = record { narrow_takes = takes; wide_takes = X.takes; narrower = narrow; narrow = Q; wide = X.made; first = first; tag = small }

    compared : (m.touch x.row t).comparisons ≡ place t (m.residents x.row)
    compared = L.compares x.ways x.row t X.takes X.made small

    hit_by : (m.touch q t).hit ≡ ((m.touch x.row t).hit && leb (m.touch x.row t).comparisons n)
    hit_by = go (m.touch x.row t).hit refl (leb (m.touch x.row t).comparisons n) refl
      where
        go : (b : Bool) → (m.touch x.row t).hit ≡ b → (c : Bool) → leb (m.touch x.row t).comparisons n ≡ c → (m.touch q t).hit ≡ ((m.touch x.row t).hit && leb (m.touch x.row t).comparisons n)
        go false h c l = (V.miss n x.ways q x.row t nested h).0 ∙ sym (and_left _ _ h)
        go true h true l = (V.shallow n x.ways q x.row t nested h (subst (λ p. p ≤ n) compared (leb-true _ _ l))).0 ∙ sym (and_from _ _ h l)
        go true h false l = V.deep n x.ways q x.row t nested h (subst (λ p. n < p) compared (leb-false _ _ l)) ∙ sym (and_right _ _ l)

    first_after : ((m.touch x.row t).hit ≡ true → n < (m.touch x.row t).comparisons → e.keeps ≡ true) → m.residents (m.touch q t).row ≡ take n (m.residents (m.touch x.row t).row)
    first_after k = go (m.touch x.row t).hit refl (leb (m.touch x.row t).comparisons n) refl
      where
        go : (b : Bool) → (m.touch x.row t).hit ≡ b → (c : Bool) → leb (m.touch x.row t).comparisons n ≡ c → m.residents (m.touch q t).row ≡ take n (m.residents (m.touch x.row t).row)
        go false h c l = (V.miss n x.ways q x.row t nested h).1
        go true h true l = (V.shallow n x.ways q x.row t nested h (subst (λ p. p ≤ n) compared (leb-true _ _ l))).1
        go true h false l = V.deep_kept n x.ways q x.row t nested h (subst (λ p. n < p) compared (leb-false _ _ l)) (k h (leb-false _ _ l))

  -- a follower that leaves the leader y, with its standalone row
  module _ (x : Slot) (q : List ℕ) (takes : m.takes x.ways ≡ true) (Q : m.Row x.ways q) (y : Slot) (Y : Known y) (narrow : x.ways ≤ y.ways)
      (first : First m x.ways q y.row) (l : Lead) (before : l.before ≡ y.row) where
    cut : List ℕ
    cut = e.truncate (x.ways + 1) l.before

    cut_made : m.Row x.ways (e.truncate (x.ways + 1) l.before)
    cut_made = subst (λ r. m.Row x.ways (e.truncate (x.ways + 1) r)) (sym before) (V.truncated x.ways y.ways y.row takes Y.takes narrow Y.made).0

    cut_residents : m.residents (e.truncate (x.ways + 1) l.before) ≡ take x.ways (m.residents y.row)
    cut_residents = ap (λ r. m.residents (e.truncate (x.ways + 1) r)) before ∙ (V.truncated x.ways y.ways y.row takes Y.takes narrow Y.made).1

    cut_same : m.residents (e.truncate (x.ways + 1) l.before) ≡ m.residents q
    cut_same = cut_residents ∙ sym first

    cut_hit : (m.touch (e.truncate (x.ways + 1) l.before) t).hit ≡ (m.touch q t).hit
    cut_hit = alike_hit m L e V t small x.ways takes (e.truncate (x.ways + 1) l.before) q cut_made Q cut_same

    cut_after : m.residents (m.touch (e.truncate (x.ways + 1) l.before) t).row ≡ m.residents (m.touch q t).row
    cut_after = alike_residents m L e V t small x.ways takes (e.truncate (x.ways + 1) l.before) q cut_made Q cut_same

    cut_touched : m.Row x.ways (m.touch (e.truncate (x.ways + 1) l.before) t).row
    cut_touched = L.touched x.ways (e.truncate (x.ways + 1) l.before) t takes cut_made small

    -- a still narrower row that was the first of y is now the first of the row that left
    cut_first : (n : ℕ) (p : List ℕ) → m.takes n ≡ true → m.Row n p → n ≤ x.ways → First m n p y.row → (m.touch q t).hit ≡ false
        → m.residents (m.touch p t).row ≡ take n (m.residents (m.touch (e.truncate (x.ways + 1) l.before) t).row)
    cut_first n p tn P le f miss =
        let W = e.truncate (x.ways + 1) l.before in
        let fits : First m n p W = f ∙ sym (take-take n x.ways (m.residents y.row) le) ∙ sym (ap (take n) cut_residents) in
        (V.miss n x.ways p W t (record { narrow_takes = tn; wide_takes = takes; narrower = le; narrow = P; wide = cut_made; first = fits; tag = small }) (cut_hit ∙ miss)).1

  -- what one more step hands down
  abbrev Tells : List Slot → ℕ → List ℕ → Slot → Stepped → Type 0
  Tells xs n q y r = Handed (r.slot ∷ (sweep (step m e) xs t).slots) r.lead n q y

  -- what the sweep of xs hands down to any narrower row
  handed : (xs : List Slot) (qs : List (List ℕ)) → AllBeside m xs qs → (n : ℕ) (q : List ℕ) (y : Slot)
      → m.takes n ≡ true → m.Row n q → AllByRecursion (λ z. n ≤ z.ways) xs → leader xs ≡ Some y → First m n q y.row
      → Handed (sweep (step m e) xs t).slots (sweep (step m e) xs t).lead n q y
  handed [] [] b n q y tn Q low near first = absurd (none_some y near)
  handed [] (p ∷ ps) b n q y tn Q low near first = absurd b
  handed (x ∷ xs) [] b n q y tn Q low near first = absurd b
  handed (x ∷ xs) (p ∷ ps) b n q y tn Q low near first = go (leads x) refl (handed xs ps b.1)
    where
      -- a leader tells what it did itself
      from_leader : leads x ≡ true → Tells xs n q y (touch_leader m x t)
      from_leader h =
          let is : x ≡ y = some_is x y (sym (leader_first x xs h) ∙ near) in
          let X : Known x = record { takes = b.0.takes; made = (b.0.leading h).made } in
          let first' : First m n q x.row = subst (λ z. First m n q z.row) (sym is) first in
          record {
            told = record { hit = (m.touch x.row t).hit; place = (m.touch x.row t).comparisons; before = x.row };
            is = refl;
            hit = hit_by n q tn Q x X low.0 first';
            before = λ _ _. ap (λ z. z.row) is;
            near = record { ways = x.ways; lead = x.lead; row = (m.touch x.row t).row };
            nearest = leader_first (touch_leader m x t).slot (sweep (step m e) xs t).slots h;
            stays = first_after n q tn Q x X low.0 first';
          }

      -- a follower that stays hands on what it was told
      passes : leads x ≡ false → (hit : Bool) → Handed (sweep (step m e) xs t).slots (sweep (step m e) xs t).lead n q y → (l : Lead) → (sweep (step m e) xs t).lead ≡ Some l → Tells xs n q y (stay x hit (Some l))
      passes f hit H l is = record {
        told = H.told;
        is = sym is ∙ H.is;
        hit = H.hit;
        before = H.before;
        near = H.near;
        nearest = leader_later x (sweep (step m e) xs t).slots f ∙ H.nearest;
        stays = H.stays;
      }

      -- one that leaves is a leader that missed
      parts : leads x ≡ false → Handed (sweep (step m e) xs t).slots (sweep (step m e) xs t).lead n q y → Handed (sweep (step m e) xs t).slots (sweep (step m e) xs t).lead x.ways p y → (l : Lead) → (sweep (step m e) xs t).lead ≡ Some l
          → l.hit ≡ true → x.ways < l.place → leader xs ≡ Some y → First m x.ways p y.row → Tells xs n q y (leave m e x t l)
      parts f H H₀ l is h deep near' first₀ =
          let told : l ≡ H.told = some_is l H.told (sym is ∙ H.is) in
          let told₀ : l ≡ H₀.told = some_is l H₀.told (sym is ∙ H₀.is) in
          let Y = leader-known xs ps b.1 y near' in
          let narrow : x.ways ≤ y.ways = leader_wider x.ways xs y b.0.rising near' in
          let before : l.before ≡ y.row = ap (λ l. l.before) told₀ ∙ H₀.before (sym (ap (λ l. l.hit) told₀) ∙ h) (subst (λ l. x.ways < l.place) told₀ deep) in
          let missed : (m.touch p t).hit ≡ false = H₀.hit ∙ and_right H₀.told.hit (leb H₀.told.place x.ways) (lt-leb _ _ (subst (λ l. x.ways < l.place) told₀ deep)) in
          let missed_too : (m.touch q t).hit ≡ false = H.hit ∙ and_right H.told.hit (leb H.told.place n) (lt-leb _ _ (subst (λ l. n < l.place) told (omega (arith, low.0)))) in
          record {
            told = record { hit = false; place = 0; before = [] };
            is = refl;
            hit = missed_too;
            before = λ c _. absurd (true≢false (sym c));
            near = record { ways = x.ways; lead = 0; row = (m.touch (e.truncate (x.ways + 1) l.before) t).row };
            nearest = refl;
            stays = λ _. cut_first x p b.0.takes b.0.made y Y narrow first₀ l before n q tn Q low.0 first missed;
          }

      follows : leads x ≡ false → ((n : ℕ) (q : List ℕ) (y : Slot) → m.takes n ≡ true → m.Row n q → AllByRecursion (λ z. n ≤ z.ways) xs → leader xs ≡ Some y → First m n q y.row → Handed (sweep (step m e) xs t).slots (sweep (step m e) xs t).lead n q y) → Tells xs n q y (step_follower m e x t (sweep (step m e) xs t).lead)
      follows f ih =
          let near' : leader xs ≡ Some y = sym (leader_later x xs f) ∙ near in
          let H = ih n q y tn Q low.1 near' first in
          let F = b.0.follows f in
          let of_y : F.of ≡ y = some_is F.of y (sym F.nearest ∙ near') in
          let first₀ : First m x.ways p y.row = F.first ∙ ap (λ z. take x.ways (m.residents z.row)) of_y in
          let H₀ = ih x.ways p y b.0.takes b.0.made b.0.rising near' first₀ in
          subst (λ o. Tells xs n q y (step_follower m e x t o)) (sym H.is) (by_way H.told H.is H H₀ near' first₀ (goes m e x t H.told))
        where
          by_way : (l : Lead) → (sweep (step m e) xs t).lead ≡ Some l → Handed (sweep (step m e) xs t).slots (sweep (step m e) xs t).lead n q y → Handed (sweep (step m e) xs t).slots (sweep (step m e) xs t).lead x.ways p y
              → leader xs ≡ Some y → First m x.ways p y.row → Goes m e x t l → Tells xs n q y (step_follower m e x t (Some l))
          by_way l is H H₀ near' first₀ (misses h s) = subst (Tells xs n q y) (sym s) (passes f false H l is)
          by_way l is H H₀ near' first₀ (hits h d s) = subst (Tells xs n q y) (sym s) (passes f true H l is)
          by_way l is H H₀ near' first₀ (nests h d k s) = subst (Tells xs n q y) (sym s) (passes f false H l is)
          by_way l is H H₀ near' first₀ (leaves h d k s) = subst (Tells xs n q y) (sym s) (parts f H H₀ l is h d near' first₀)

      go : (c : Bool) → leads x ≡ c → ((n : ℕ) (q : List ℕ) (y : Slot) → m.takes n ≡ true → m.Row n q → AllByRecursion (λ z. n ≤ z.ways) xs → leader xs ≡ Some y → First m n q y.row → Handed (sweep (step m e) xs t).slots (sweep (step m e) xs t).lead n q y)
          → Handed (sweep (step m e) (x ∷ xs) t).slots (sweep (step m e) (x ∷ xs) t).lead n q y
      go true h ih = subst (Tells xs n q y) (sym (step-leads m e x t (sweep (step m e) xs t).lead h)) (from_leader h)
      go false h ih = subst (Tells xs n q y) (sym (step_follows m e x t (sweep (step m e) xs t).lead h)) (follows h ih)

  -- a row after its step, beside its touched standalone row
  pub record Kept (x : Slot) (xs : List Slot) (q : List ℕ) (r : Stepped) : Type 0 where
    pub hit : r.hit ≡ (m.touch q t).hit
    pub beside : Beside m r.slot (sweep (step m e) xs t).slots (m.touch q t).row
    pub few : r.comparisons ≤ (m.touch q t).comparisons

  module _ (x : Slot) (xs : List Slot) (q : List ℕ) (qs : List (List ℕ)) (b : Beside m x xs q) (bs : AllBeside m xs qs) where
    touched : m.Row x.ways (m.touch q t).row
    touched = L.touched x.ways q t b.takes b.made small

    rises : AllByRecursion (λ y. x.ways ≤ y.ways) (sweep (step m e) xs t).slots
    rises = rising_kept m e t x.ways xs b.rising

    leader_kept : leads x ≡ true → Kept x xs q (touch_leader m x t)
    leader_kept h =
        let own = b.leading h in
        record {
          hit = alike_hit m L e V t small x.ways b.takes x.row q own.made b.made own.same;
          beside = record {
            takes = b.takes;
            made = touched;
            rising = rises;
            leading = λ _. record {
              made = L.touched x.ways x.row t b.takes own.made small;
              same = alike_residents m L e V t small x.ways b.takes x.row q own.made b.made own.same;
            };
            follows = λ f. absurd (true≢false (sym h ∙ f));
          };
          few = omega (arith, alike_comparisons m L e V t small x.ways b.takes x.row q own.made b.made own.same);
        }

    -- a follower's leader, and what the sweep of the wider rows hands down
    module _ (f : leads x ≡ false) where
      of_leader : Slot
      of_leader = (b.follows f).of

      down : Handed (sweep (step m e) xs t).slots (sweep (step m e) xs t).lead x.ways q (b.follows f).of
      down = handed xs qs bs x.ways q (b.follows f).of b.takes b.made b.rising (b.follows f).nearest (b.follows f).first

      stays_kept : (hit : Bool) → hit ≡ (m.touch q t).hit → (down.told.hit ≡ true → x.ways < down.told.place → e.keeps ≡ true) → Kept x xs q (stay x hit (Some down.told))
      stays_kept hit h k = record {
        hit = h;
        beside = record {
          takes = b.takes;
          made = touched;
          rising = rises;
          leading = λ l. absurd (true≢false (sym l ∙ f));
          follows = λ _. record { of = down.near; nearest = down.nearest; first = down.stays k };
        };
        few = omega arith;
      }

      leaves_kept : down.told.hit ≡ true → x.ways < down.told.place → Kept x xs q (leave m e x t down.told)
      leaves_kept h d =
          let y = (b.follows f).of in
          let Y = leader-known xs qs bs y (b.follows f).nearest in
          let narrow : x.ways ≤ y.ways = leader_wider x.ways xs y b.rising (b.follows f).nearest in
          let before = down.before h d in
          record {
            hit = sym (down.hit ∙ and_right down.told.hit (leb down.told.place x.ways) (lt-leb _ _ d));
            beside = record {
              takes = b.takes;
              made = touched;
              rising = rises;
              leading = λ _. record {
                made = cut_touched x q b.takes b.made y Y narrow (b.follows f).first down.told before;
                same = cut_after x q b.takes b.made y Y narrow (b.follows f).first down.told before;
              };
              follows = λ g. absurd (true≢false g);
            };
            few = omega arith;
          }

      by_way : Goes m e x t down.told → Kept x xs q (step_follower m e x t (Some down.told))
      by_way (misses h s) = subst (Kept x xs q) (sym s) (stays_kept false (sym (down.hit ∙ and_left _ _ h)) (λ c _. absurd (true≢false (sym c ∙ h))))
      by_way (hits h d s) = subst (Kept x xs q) (sym s) (stays_kept true (sym (down.hit ∙ and_from _ _ h (le-leb _ _ d))) (λ _ c. absurd (omega arith)))
      by_way (nests h d k s) = subst (Kept x xs q) (sym s) (stays_kept false (sym (down.hit ∙ and_right down.told.hit _ (lt-leb _ _ d))) (λ _ _. k))
      by_way (leaves h d k s) = subst (Kept x xs q) (sym s) (leaves_kept h d)

      follower_kept : Kept x xs q (step_follower m e x t (sweep (step m e) xs t).lead)
      follower_kept = subst (λ o. Kept x xs q (step_follower m e x t o)) (sym down.is) (by_way (goes m e x t down.told))

    pub step_kept : Kept x xs q (step m e x t (sweep (step m e) xs t).lead)
    step_kept = go (leads x) refl
      where
        go : (c : Bool) → leads x ≡ c → Kept x xs q (step m e x t (sweep (step m e) xs t).lead)
        go true h = subst (Kept x xs q) (sym (step-leads m e x t (sweep (step m e) xs t).lead h)) (leader_kept h)
        go false h = subst (Kept x xs q) (sym (step_follows m e x t (sweep (step m e) xs t).lead h)) (follower_kept h)

  pub sweep_beside : (xs : List Slot) (qs : List (List ℕ)) → AllBeside m xs qs → AllBeside m (sweep (step m e) xs t).slots (rows_touched m t qs)
  sweep_beside [] [] b = tt
  sweep_beside [] (q ∷ qs) b = b
  sweep_beside (x ∷ xs) [] b = b
  sweep_beside (x ∷ xs) (q ∷ qs) b = ((step_kept x xs q qs b.0 b.1).beside, sweep_beside xs qs b.1)

  pub sweep_hits : (xs : List Slot) (qs : List (List ℕ)) → AllBeside m xs qs → (sweep (step m e) xs t).hits ≡ rows_hit m t qs
  sweep_hits [] [] b = refl
  sweep_hits [] (q ∷ qs) b = absurd b
  sweep_hits (x ∷ xs) [] b = absurd b
  sweep_hits (x ∷ xs) (q ∷ qs) b = ap (λ h. h ∷ (sweep (step m e) xs t).hits) (step_kept x xs q qs b.0 b.1).hit ∙ ap (λ hs. (m.touch q t).hit ∷ hs) (sweep_hits xs qs b.1)

  pub sweep_few : (xs : List Slot) (qs : List (List ℕ)) → AllBeside m xs qs → (sweep (step m e) xs t).comparisons ≤ rows_compared m t qs
  sweep_few [] [] b = omega arith
  sweep_few [] (q ∷ qs) b = absurd b
  sweep_few (x ∷ xs) [] b = absurd b
  sweep_few (x ∷ xs) (q ∷ qs) b = omega (arith, (step_kept x xs q qs b.0 b.1).few, sweep_few xs qs b.1)
