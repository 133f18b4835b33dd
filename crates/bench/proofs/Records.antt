-- The records of lines.
use Rattle.std.proofs.Common.{◌≡◌, ℕ, ◌+◌, ◌-◌, ◌<◌, List, [], ◌∷◌, ◌++◌, map, length, get_or, take, drop, set, sym, refl, ap, ◌∙◌, arith}
use Rattle.std.specs.List.{AllByRecursion}
use Rattle.std.proofs.lemmas.List.{append_assoc, drop_more, length-map, length-take-le, map_push, set_at, take_more}
use Rattle.standalone.specs.Cache.{Cache}
use Rattle.standalone.specs.declared.access.Counts.{Counts}
use Rattle.policy.specs.Suite.{Suite}
use Rattle.bench.specs.BenchTracks.{BenchTracks}
use Rattle.bench.specs.Calls.{Model}
use Rattle.bench.specs.Counted.{cache_record, hits_of, record_of, records_of}
use Rattle.bench.specs.Model.{line_caches}
use Rattle.bench.specs.State.{Bench}
use Rattle.bench.specs.Sums.{Summed, sums}

-- one record more
pub record_more : (cached : List ℕ) (ms : List (List ℕ)) (rs : List Counts) (k : ℕ) (d : List ℕ) (e : Counts) → k < length ms → k < length rs
    → set (map (record_of cached) (take k ms) ++ drop k rs) k (record_of cached (get_or ms k d)) ≡ map (record_of cached) (take (k + 1) ms) ++ drop (k + 1) rs
record_more cached ms rs k d e low room =
    let p = map (record_of cached) (take k ms) in
    let long : length p ≡ k = length-map (take k ms) (record_of cached) ∙ length-take-le k ms (omega arith) in
    ap (λ zs. set (p ++ zs) k (record_of cached (get_or ms k d))) (drop_more rs k e room)
    ∙ set_at p (get_or rs k e) (drop (k + 1) rs) (record_of cached (get_or ms k d)) k long
    ∙ sym (append_assoc p (record_of cached (get_or ms k d) ∷ []) (drop (k + 1) rs))
    ∙ ap (λ zs. zs ++ drop (k + 1) rs) (sym (map_push (record_of cached) (take k ms) (get_or ms k d)) ∙ ap (map (record_of cached)) (sym (take_more ms k d low)))

-- hits and misses make the cached accesses, so the hits are what the misses leave
three_left : (a b c x y z : ℕ) → hits_of (sums (a ∷ b ∷ c ∷ []) (x ∷ y ∷ z ∷ [])) (a ∷ b ∷ c ∷ []) ≡ x ∷ y ∷ z ∷ []
three_left a b c x y z =
    ap (λ n. n ∷ (b + y - b) ∷ (c + z - c) ∷ []) (let e : a + x - a ≡ x = omega arith in e)
    ∙ ap (λ n. x ∷ n ∷ (c + z - c) ∷ []) (let e : b + y - b ≡ y = omega arith in e)
    ∙ ap (λ n. x ∷ y ∷ n ∷ []) (let e : c + z - c ≡ z = omega arith in e)

-- a list of three
record Three (xs : List ℕ) : Type 0 where
  first : ℕ
  second : ℕ
  third : ℕ
  is : xs ≡ first ∷ second ∷ third ∷ []

three : (xs : List ℕ) → length xs ≡ 3 → Three xs
three [] e = absurd (omega arith)
three (a ∷ []) e = absurd (omega arith)
three (a ∷ b ∷ []) e = absurd (omega arith)
three (a ∷ b ∷ c ∷ []) e = record { first = a; second = b; third = c; is = refl }
three (a ∷ b ∷ c ∷ d ∷ xs) e = absurd (omega arith)

three_hits : (cached ms hs : List ℕ) → length ms ≡ 3 → length hs ≡ 3 → sums ms hs ≡ cached → hits_of cached ms ≡ hs
three_hits cached ms hs a b e =
    let M = three ms a in
    let H = three hs b in
    let m = M.first ∷ M.second ∷ M.third ∷ [] in
    let h = H.first ∷ H.second ∷ H.third ∷ [] in
    ap (λ cs. hits_of cs ms) (sym e) ∙ ap (λ xs. hits_of (sums xs hs) xs) M.is ∙ ap (λ ys. hits_of (sums m ys) m) H.is
    ∙ three_left M.first M.second M.third H.first H.second H.third ∙ sym H.is

same_records : (cached : List ℕ) (cs : List Cache) → AllByRecursion (Summed cached) cs → map (record_of cached) (map (λ c. c.misses) cs) ≡ map cache_record cs
same_records cached [] h = refl
same_records cached (c ∷ cs) h =
    ap (λ hs. record { misses = c.misses; hits = hs } ∷ map (record_of cached) (map (λ c. c.misses) cs)) (three_hits cached c.misses c.hits h.0.0 h.0.1 h.0.2)
    ∙ ap (λ rs. cache_record c ∷ rs) (same_records cached cs h.1)

pub records_tracked : (s : Suite) (m : Model) (b : Bench) → BenchTracks s m b → records_of b.state ≡ map cache_record (line_caches m.families)
records_tracked s m b T = ap (map (record_of b.state.cached)) T.misses ∙ same_records b.state.cached (line_caches m.families) T.hits
