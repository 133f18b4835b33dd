-- The known runs, by one test that is computed over their list.
use Rattle.std.proofs.Common.{◌≡◌, ℕ, Bool, true, false, ◌&&◌, eqb, List, [], ◌∷◌, get_or, sym, refl, ap, ◌∙◌}
use Rattle.std.specs.List.{AllByRecursion}
use Rattle.std.proofs.lemmas.Bool.{and_parts, eqb-true, true≢false}
use Rattle.policy.specs.Standard.{standard}
use Rattle.policy.specs.Three.{policy_of}
use Rattle.standalone.specs.Known.{Known, Stands, KnownCounts, known, known_start, known_end, hits_from}

abbrev same : List ℕ → List ℕ → Bool
same [] [] = true
same [] (y ∷ ys) = false
same (x ∷ xs) [] = false
same (x ∷ xs) (y ∷ ys) = eqb x y && same xs ys

same_is : (xs ys : List ℕ) → same xs ys ≡ true → xs ≡ ys
same_is [] [] e = refl
same_is [] (y ∷ ys) e = absurd (true≢false (sym e))
same_is (x ∷ xs) [] e = absurd (true≢false (sym e))
same_is (x ∷ xs) (y ∷ ys) e =
    let (head, tail) = and_parts (eqb x y) (same xs ys) e in
    ap (λ z. z ∷ xs) (eqb-true x y head) ∙ ap (λ zs. y ∷ zs) (same_is xs ys tail)

abbrev test : Known → Bool
test k = same (hits_from (policy_of standard k.policy) k.block k.sets 1 (known_start k) k.accesses) k.hits && (same (known_end k).misses k.misses && same (get_or (known_end k).rows k.set []) k.row)

stands : (k : Known) → test k ≡ true → Stands k
stands k e =
    let (hits, rest) = and_parts (same (hits_from (policy_of standard k.policy) k.block k.sets 1 (known_start k) k.accesses) k.hits) (same (known_end k).misses k.misses && same (get_or (known_end k).rows k.set []) k.row) e in
    let (misses, row) = and_parts (same (known_end k).misses k.misses) (same (get_or (known_end k).rows k.set []) k.row) rest in
    record {
      hits = same_is (hits_from (policy_of standard k.policy) k.block k.sets 1 (known_start k) k.accesses) k.hits hits;
      misses = same_is (known_end k).misses k.misses misses;
      row = same_is (get_or (known_end k).rows k.set []) k.row row;
    }

abbrev every : List Known → Bool
every [] = true
every (k ∷ ks) = test k && every ks

all_stand : (ks : List Known) → every ks ≡ true → AllByRecursion Stands ks
all_stand [] e = tt
all_stand (k ∷ ks) e = let (first, rest) = and_parts (test k) (every ks) e in (stands k first, all_stand ks rest)

pub known_counts : KnownCounts
known_counts = all_stand known refl
