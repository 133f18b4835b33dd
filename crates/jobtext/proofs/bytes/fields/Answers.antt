use Rattle.std.proofs.Common.{◌≡◌, ◌<◌, ◌==◌, map, length, List, true, false, Result, is_ok, Ok, Err, rules, tests, arith, sym, ◌∙◌, ap, ◌++◌, Option, Some, refl, subst}
use Rattle.std.specs.Result.{OnOk, OnErr, MatchResult}
use Rattle.std.proofs.lemmas.Iterator.{YieldsList}
use Rattle.std.specs.Iterator.{Yields, Drains}
use Rattle.std.proofs.lemmas.Iterator.Adapters.{fact_from_extend}
use Rattle.std.proofs.lemmas.Iterator.Consumers.{YieldsList-turn}
use Rattle.std.proofs.lemmas.Iterator.Splits.{YieldsList-from_slice_split}
use Rattle.std.proofs.lemmas.Result.{err_from_is_err_and}
use Rattle.jobtext.proofs.bytes.fields.Goals as goal

-- what a clause says of the variant that is there
at_ok : {T E P : Type 0} (r : Result T E) → is_ok r ≡ true → OnOk r P → P
at_ok (Ok x) e p = p
at_ok (Err x) e p = absurd cc

at_err : {T E P : Type 0} (r : Result T E) → is_ok r ≡ false → OnErr r P → P
at_err (Ok x) e p = absurd cc
at_err (Err x) e p = p

module _ {S A B : Type 0} {steps : S → Option A → S → Type 0} {s : S} {all : List B} (v : A → B) where
  -- an item that came after others is one of the list
  one_more : {i : S} (xs : List A) (x : A) (t u : S) → i ≡ s → Yields steps i xs t → steps t (Some x) u → YieldsList steps v s all → length xs < length all
  one_more xs x t u e y step list = (YieldsList-turn (subst (λ i. YieldsList steps v i all) (sym e) list) xs t y (Some x) u x refl step).0

  -- a collection that took each item took the list
  all_in : {E Q : Type 0} {P : List A → Type 0} (r : Result (Unit {0}) E) → ((it : S) × (xs : List A) × (it ≡ s) × P xs × MatchResult r (λ _. Drains steps it xs) (λ _. (t : S) × Yields steps it xs t)) → YieldsList steps v s all → ((xs : List A) → map v xs ≡ all → P xs → Q) → OnOk r Q
  all_in r ran y = fact_from_extend v r ran (λ it b. subst (λ i. YieldsList steps v i all) (sym b) y)

pub returns-in_err-map_err-clause-count : goal.returns-in_err-map_err-clause-count
returns-in_err-map_err-clause-count c =
    let p = err_from_is_err_and c.from_residual.result c.from_residual.ensures.1 in
    let h = at_err c.extend.result (search rules) c.extend.ensures.one_more in
    let full = at_err c.extend.result (search rules) c.extend.ensures.full in
    let more = one_more (λ f. f.now) h.1 h.2 h.5.0 h.3 h.4 h.5.1 h.5.2 (YieldsList-from_slice_split _ (λ b. b == 44) c.args.bytes.now c.split.ensures.rest c.split.ensures.done c.split.ensures.closure (λ x b q k. search (rules, tests))) in
    let same = ap (λ xs. length xs) (h.6 ∙ ap (λ xs. xs ++ h.1) c.new-all.ensures) in
    rw p.1 (omega (arith, more, full, same))

pub returns-clause-found : goal.returns-clause-found
returns-clause-found c =
    at_ok c.extend.result (search rules)
    (all_in (λ f. f.now) c.extend.result c.extend.ensures.ran (YieldsList-from_slice_split _ (λ b. b == 44) c.args.bytes.now c.split.ensures.rest c.split.ensures.done c.split.ensures.closure (λ x b q k. search (rules, tests))) (λ xs e h. ap (map (λ f. f.now)) (h ∙ ap (λ l. l ++ xs) c.new-all.ensures) ∙ e))
