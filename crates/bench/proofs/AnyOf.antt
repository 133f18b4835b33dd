-- The steps of a search for a line of a policy.
use Rattle.std.proofs.Common.{ltb, [], ◌≡◌, ℕ, ◌+◌, ◌<◌, ◌≤◌, Bool, true, false, List, ◌∷◌, length, get_or, drop, sym, refl, ap, ◌∙◌}
use Rattle.std.specs.List.{list_any}
use Rattle.std.proofs.lemmas.List.{drop_more}
use Rattle.std.proofs.lemmas.Bool.{ltb-true, ltb-false}
use Rattle.policy.specs.declared.three.Member.{Member}
use Rattle.policy.specs.declared.three.Member.TheVariants.{First, Second, Further}
use Rattle.bench.specs.OpenLines.{line_kin, kins_of, wide_of}
use Rattle.bench.specs.Start.{any_of}
use Rattle.policy.specs.Suite.{same}
use Rattle.bench.specs.Words.{Kin, wide}
use Rattle.bench.specs.declared.open_line.OpenLine.{OpenLine}
use Rattle.bench.proofs.SetRows.{wide_more, wide_single}

is_same : (j k : Member) → j ≡ k → same j k ≡ true
is_same j k e = ap (same j) (sym e) ∙ with_itself j
  where
    with_itself : (j : Member) → same j j ≡ true
    with_itself First = refl
    with_itself Second = refl
    with_itself Further = refl

not_same : (j k : Member) → (j ≡ k → ⊥) → same j k ≡ false
not_same First First n = absurd (n refl)
not_same First Second n = refl
not_same First Further n = refl
not_same Second First n = refl
not_same Second Second n = absurd (n refl)
not_same Second Further n = refl
not_same Further First n = refl
not_same Further Second n = refl
not_same Further Further n = absurd (n refl)

-- line i, and the lines after it
module _ (es : List OpenLine) (i : ℕ) (x : OpenLine) (low : i < length es) (is : x ≡ get_or es i x) where
  abbrev others : List Kin
  others = kins_of (drop (i + 1) es)

  next : kins_of (drop i es) ≡ line_kin x ∷ others
  next = ap kins_of (drop_more es i x low) ∙ ap (λ y. line_kin y ∷ others) (sym is)

  pub wide_next : 1 < x.geometry.ways → wide (kins_of (drop i es)) ≡ line_kin x ∷ wide others
  wide_next two = ap wide next ∙ wide_more (line_kin x) others two

  pub wide_past : x.geometry.ways ≤ 1 → wide (kins_of (drop i es)) ≡ wide others
  wide_past one = ap wide next ∙ wide_single (line_kin x) others one

-- a search through the lines
pub any_listed : (k : Member) (es : List OpenLine) → any_of k (wide (kins_of es)) ≡ list_any (wide_of k) es
any_listed k [] = refl
any_listed k (x ∷ es) = go (ltb 1 x.geometry.ways) refl (same k x.geometry.member) refl (any_listed k es)
  where
    go : (b : Bool) → ltb 1 x.geometry.ways ≡ b → (e : Bool) → same k x.geometry.member ≡ e → any_of k (wide (kins_of es)) ≡ list_any (wide_of k) es → any_of k (wide (kins_of (x ∷ es))) ≡ list_any (wide_of k) (x ∷ es)
    go false one e _ rest = ap (any_of k) (wide_single (line_kin x) (kins_of es) (ltb-false 1 x.geometry.ways one)) ∙ rest ∙ rw one refl
    go true two true s rest = ap (any_of k) (wide_more (line_kin x) (kins_of es) (ltb-true 1 x.geometry.ways two)) ∙ rw (two, s) refl
    go true two false s rest = ap (any_of k) (wide_more (line_kin x) (kins_of es) (ltb-true 1 x.geometry.ways two)) ∙ rw (two, s) rest
