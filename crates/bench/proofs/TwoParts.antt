-- A list whose first n elements are rewritten, and then the others.
use Rattle.std.proofs.Common.{◌≡◌, ℕ, ◌-◌, ◌≤◌, List, ◌++◌, length, take, drop, ap, ◌∙◌, arith}
use borrow.Rule.Slice.PartMut.{put_mid}
use Rattle.std.proofs.lemmas.List.{append-nil, drop_all, drop_at, length-append, length-drop, length-take-le, take_at, take_rest}

module _ {X : Type 0} (n : ℕ) (xs new : List X) (le : n ≤ length xs) (kept : length new ≡ length (take n xs)) where
  pub long : length new ≡ n
  long = kept ∙ length-take-le n xs le

  -- the others begin within the list
  pub first_within : n ≤ length (new ++ drop n xs)
  first_within = omega (arith, long, length-append new (drop n xs))

  -- and are what they were
  pub others_are : take (length (new ++ drop n xs) - n) (drop n (new ++ drop n xs)) ≡ drop n xs
  others_are = take_rest (new ++ drop n xs) n ∙ drop_at new (drop n xs) n long

  pub others_put : (rest : List X) → put_mid n (length (new ++ drop n xs) - n) (new ++ drop n xs) rest ≡ new ++ rest
  others_put rest =
      let ys = new ++ drop n xs in
      ap (λ zs. take n ys ++ (rest ++ zs)) (drop_all (length ys - n) (drop n ys) (omega (arith, length-drop n ys)))
      ∙ ap (λ zs. take n ys ++ zs) (append-nil rest)
      ∙ ap (λ zs. zs ++ rest) (take_at new (drop n xs) n long)
