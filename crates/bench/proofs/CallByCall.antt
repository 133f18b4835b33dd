-- One call more of a list.
use Rattle.std.proofs.Common.{◌≡◌, ℕ, suc, ◌+◌, ◌<◌, min, Bool, true, false, leb, List, [], ◌∷◌, ◌++◌, map, length, get_or, take, drop, set, Result, sym, refl, ap, ◌∙◌, arith}
use Rattle.std.proofs.lemmas.List.{append_assoc, drop-drop, drop-set-lt, drop_all, drop_more, length-map, length-take-le, map_push, map-set, set_at, take_all, take_more}
use Rattle.std.proofs.lemmas.Bool.{leb-true, leb-false}
use Rattle.policy.specs.Suite.{Suite}
use Rattle.bench.specs.Calls.{Do}
use Rattle.bench.specs.Spoken.{answer_of, do_of, spoken}
use Rattle.bench.specs.State.{Bench, bench_after, bench_answers, bench_refusal, bench_run}
use Rattle.bench.specs.declared.call.Call.{Call}
use Rattle.bench.specs.declared.refused.Refused.{Refused}

run_more : (s : Suite) (cs : List Do) (c : Do) (b : Bench) → bench_run s (cs ++ (c ∷ [])) b ≡ bench_after s c (bench_run s cs b)
run_more s [] c b = refl
run_more s (d ∷ cs) c b = run_more s cs c (bench_after s d b)

answers_more : (s : Suite) (cs : List Do) (c : Do) (b : Bench) → bench_answers s (cs ++ (c ∷ [])) b ≡ bench_answers s cs b ++ (bench_refusal s (bench_run s cs b) c ∷ [])
answers_more s [] c b = refl
answers_more s (d ∷ cs) c b = ap (λ xs. bench_refusal s b d ∷ xs) (answers_more s cs c (bench_after s d b))

answers-length : (s : Suite) (cs : List Do) (b : Bench) → length (bench_answers s cs b) ≡ length cs
answers-length s [] b = refl
answers-length s (c ∷ cs) b = ap suc (answers-length s cs (bench_after s c b))

module _ (s : Suite) (calls : List Call) (k : ℕ) (d : Call) (low : k < length calls) (start : Bench) where
  spoken_more : spoken (k + 1) calls ≡ spoken k calls ++ (do_of (get_or calls k d) ∷ [])
  spoken_more = ap (map do_of) (take_more calls k d low) ∙ map_push do_of (take k calls) (get_or calls k d)

  pub run_step : (b b' : Bench) → b ≡ bench_run s (spoken k calls) start → b' ≡ bench_after s (do_of (get_or calls k d)) b → b' ≡ bench_run s (spoken (k + 1) calls) start
  run_step b b' e a = a ∙ ap (bench_after s (do_of (get_or calls k d))) e ∙ sym (run_more s (spoken k calls) (do_of (get_or calls k d)) start) ∙ sym (ap (λ cs. bench_run s cs start) spoken_more)

  pub answers_step : (xs xs₀ : List (Result Unit Refused)) (a : Result Unit Refused) (b : Bench) → k < length xs₀ → b ≡ bench_run s (spoken k calls) start → answer_of a ≡ bench_refusal s b (do_of (get_or calls k d))
      → map answer_of xs ≡ bench_answers s (spoken k calls) start ++ map answer_of (drop k xs₀)
      → map answer_of (set xs k a) ≡ bench_answers s (spoken (k + 1) calls) start ++ map answer_of (drop (k + 1) xs₀)
  answers_step xs xs₀ a b room e answered so_far =
      let ys = bench_answers s (spoken k calls) start in
      let long : length ys ≡ k = answers-length s (spoken k calls) start ∙ length-map (take k calls) do_of ∙ length-take-le k calls (omega arith) in
      map-set answer_of xs k a
      ∙ ap (λ zs. set zs k (answer_of a)) so_far
      ∙ ap (λ zs. set (ys ++ map answer_of zs) k (answer_of a)) (drop_more xs₀ k a room)
      ∙ set_at ys (answer_of (get_or xs₀ k a)) (map answer_of (drop (k + 1) xs₀)) (answer_of a) k long
      ∙ sym (append_assoc ys (answer_of a ∷ []) (map answer_of (drop (k + 1) xs₀)))
      ∙ ap (λ n. (ys ++ (n ∷ [])) ++ map answer_of (drop (k + 1) xs₀)) (answered ∙ ap (λ z. bench_refusal s z (do_of (get_or calls k d))) e)
      ∙ ap (λ zs. zs ++ map answer_of (drop (k + 1) xs₀)) (sym (answers_more s (spoken k calls) (do_of (get_or calls k d)) start) ∙ sym (ap (λ cs. bench_answers s cs start) spoken_more))

-- the answers beyond stay
pub beyond_step : (xs xs₀ : List (Result Unit Refused)) (k : ℕ) (a : Result Unit Refused) → drop k xs ≡ drop k xs₀ → drop (k + 1) (set xs k a) ≡ drop (k + 1) xs₀
beyond_step xs xs₀ k a e = drop-set-lt (k + 1) xs k a (omega arith) ∙ sym (drop-drop 1 k xs) ∙ ap (drop 1) e ∙ drop-drop 1 k xs₀

-- as many calls as both lists have
pub both_lists : (calls : List Call) (xs : List (Result Unit Refused)) (k : ℕ) → k ≡ min (length calls) (length xs) → take k calls ≡ take (length xs) calls
both_lists calls xs k e = go (leb (length xs) (length calls)) refl
  where
    go : (b : Bool) → leb (length xs) (length calls) ≡ b → take k calls ≡ take (length xs) calls
    go true h = ap (λ n. take n calls) (omega (arith, e, leb-true (length xs) (length calls) h))
    go false h =
        let fewer = leb-false (length xs) (length calls) h in
        take_all k calls (omega (arith, e)) ∙ sym (take_all (length xs) calls (omega arith))

pub rest_stays : (calls : List Call) (xs : List (Result Unit Refused)) (k : ℕ) → k ≡ min (length calls) (length xs) → drop k xs ≡ drop (length calls) xs
rest_stays calls xs k e = go (leb (length calls) (length xs)) refl
  where
    go : (b : Bool) → leb (length calls) (length xs) ≡ b → drop k xs ≡ drop (length calls) xs
    go true h = ap (λ n. drop n xs) (omega (arith, e, leb-true (length calls) (length xs) h))
    go false h =
        let fewer = leb-false (length calls) (length xs) h in
        drop_all k xs (omega (arith, e)) ∙ sym (drop_all (length calls) xs (omega arith))
