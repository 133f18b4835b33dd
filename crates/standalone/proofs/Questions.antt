-- The questions about accesses, one access after the other.
use Rattle.std.proofs.Common.{◌≡◌, ℕ, ◌+◌, ◌<◌, ◌≤◌, Bool, true, false, leb, List, [], ◌∷◌, length, get_or, drop, Some, None, Option, sym, refl, ap, ◌∙◌, arith}
use Rattle.std.specs.List.{AllByRecursion}
use Rattle.std.proofs.lemmas.List.{drop_more, drop_all}
use Rattle.std.proofs.lemmas.Bool.{le-leb, lt-leb, leb-true, leb-false}
use Rattle.geometry.specs.Refusal.{ask, first_no}
use Rattle.geometry.proofs.Asked.{passes, stops}
use Rattle.standalone.specs.Allowed.{Allowed}
use Rattle.standalone.specs.Run.{access_questions}
use Rattle.standalone.specs.declared.access.Access.{Access}

abbrev pub refused_at : List Access → Option ℕ
refused_at xs = first_no (access_questions xs)

module _ (x : Access) (xs : List Access) where
  kind_stops : 2 < x.kind → refused_at (x ∷ xs) ≡ Some 12
  kind_stops h = stops 12 (leb x.kind 2) (ask 13 (leb x.address 4294967295) ∷ access_questions xs) (lt-leb _ _ h)

  kind_passes : x.kind ≤ 2 → refused_at (x ∷ xs) ≡ first_no (ask 13 (leb x.address 4294967295) ∷ access_questions xs)
  kind_passes h = passes 12 (leb x.kind 2) (ask 13 (leb x.address 4294967295) ∷ access_questions xs) (le-leb _ _ h)

  address_stops : x.kind ≤ 2 → 4294967295 < x.address → refused_at (x ∷ xs) ≡ Some 13
  address_stops k h = kind_passes k ∙ stops 13 (leb x.address 4294967295) (access_questions xs) (lt-leb _ _ h)

  both_pass : x.kind ≤ 2 → x.address ≤ 4294967295 → refused_at (x ∷ xs) ≡ refused_at xs
  both_pass k h = kind_passes k ∙ passes 13 (leb x.address 4294967295) (access_questions xs) (le-leb _ _ h)

-- the same at a place in the list
module _ (xs : List Access) (i : ℕ) (d : Access) (h : i < length xs) where
  here : refused_at (drop i xs) ≡ refused_at (get_or xs i d ∷ drop (i + 1) xs)
  here = ap refused_at (drop_more xs i d h)

  pub kind_refused : 2 < (get_or xs i d).kind → refused_at (drop i xs) ≡ Some 12
  kind_refused k = here ∙ kind_stops (get_or xs i d) (drop (i + 1) xs) k

  pub address_refused : (get_or xs i d).kind ≤ 2 → 4294967295 < (get_or xs i d).address → refused_at (drop i xs) ≡ Some 13
  address_refused k a = here ∙ address_stops (get_or xs i d) (drop (i + 1) xs) k a

  pub one_allowed : (get_or xs i d).kind ≤ 2 → (get_or xs i d).address ≤ 4294967295 → refused_at (drop i xs) ≡ refused_at (drop (i + 1) xs)
  one_allowed k a = here ∙ both_pass (get_or xs i d) (drop (i + 1) xs) k a

pub none_left : (xs : List Access) (i : ℕ) → length xs ≤ i → refused_at (drop i xs) ≡ None
none_left xs i h = ap refused_at (drop_all i xs h)

-- accesses that pass are allowed
pub all_allowed : (xs : List Access) → refused_at xs ≡ None → AllByRecursion Allowed xs
all_allowed [] e = tt
all_allowed (x ∷ xs) e = by_kind (leb x.kind 2) refl (leb x.address 4294967295) refl (all_allowed xs)
  where
    by_kind : (b : Bool) → leb x.kind 2 ≡ b → (c : Bool) → leb x.address 4294967295 ≡ c → (refused_at xs ≡ None → AllByRecursion Allowed xs) → AllByRecursion Allowed (x ∷ xs)
    by_kind false k c a ih = let z : ◌≡◌ {A = ℕ} 0 1 = cc (stops 12 (leb x.kind 2) (ask 13 (leb x.address 4294967295) ∷ access_questions xs) k) in absurd (omega arith)
    by_kind true k false a ih =
        let z : ◌≡◌ {A = ℕ} 0 1 = cc (address_stops x xs (leb-true _ _ k) (leb-false _ _ a)) in absurd (omega arith)
    by_kind true k true a ih =
        let low = leb-true x.kind 2 k in
        let small = leb-true x.address 4294967295 a in
        (record { kind = low; address = small }, ih (sym (both_pass x xs low small) ∙ e))
