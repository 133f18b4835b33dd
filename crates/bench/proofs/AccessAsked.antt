-- What an access asks, one question after the other.
use Rattle.std.proofs.Common.{◌≡◌, ℕ, ◌<◌, ◌≤◌, ltb, leb, List, [], ◌∷◌, Some, None, ap, ◌∙◌}
use Rattle.std.proofs.lemmas.Bool.{le-leb, lt-leb, lt-ltb}
use Rattle.geometry.specs.Refusal.{Question, ask}
use Rattle.geometry.proofs.Asked.{passes, stops}
use Rattle.standalone.specs.declared.access.Access.{Access}
use Rattle.bench.specs.Asked.{access_refusal}
use Rattle.bench.specs.Opened.{at_line}

module _ (need words accesses : ℕ) (x : Access) where
  abbrev fourth : List Question
  fourth = ask 14 (ltb accesses 4294967295) ∷ []

  abbrev third : List Question
  third = ask 13 (leb x.address 4294967295) ∷ fourth

  abbrev second : List Question
  second = ask 12 (leb x.kind 2) ∷ third

  pub room_refused : words < need → access_refusal need words accesses x ≡ Some (record { number = 11; line = 0 })
  room_refused h = ap (at_line 0) (stops 11 (leb need words) second (lt-leb need words h))

  module _ (room : need ≤ words) where
    pub kind_refused : 2 < x.kind → access_refusal need words accesses x ≡ Some (record { number = 12; line = 0 })
    kind_refused h = ap (at_line 0) (passes 11 (leb need words) second (le-leb need words room) ∙ stops 12 (leb x.kind 2) third (lt-leb x.kind 2 h))

    module _ (kind : x.kind ≤ 2) where
      pub address_refused : 4294967295 < x.address → access_refusal need words accesses x ≡ Some (record { number = 13; line = 0 })
      address_refused h =
          ap (at_line 0) (passes 11 (leb need words) second (le-leb need words room) ∙ passes 12 (leb x.kind 2) third (le-leb x.kind 2 kind) ∙ stops 13 (leb x.address 4294967295) fourth (lt-leb x.address 4294967295 h))

      pub all_pass : x.address ≤ 4294967295 → accesses < 4294967295 → access_refusal need words accesses x ≡ None
      all_pass small few =
          ap (at_line 0)
          (passes 11 (leb need words) second (le-leb need words room) ∙ passes 12 (leb x.kind 2) third (le-leb x.kind 2 kind)
          ∙ passes 13 (leb x.address 4294967295) fourth (le-leb x.address 4294967295 small) ∙ passes 14 (ltb accesses 4294967295) [] (lt-ltb accesses 4294967295 few))
