-- The windows, one after the other.
use Rattle.std.proofs.Common.{◌≡◌, ℕ, ◌+◌, ◌<◌, ◌≤◌, true, false, ◌||◌, List, length, get_or, drop, Option, ap, ◌∙◌}
use Rattle.std.proofs.lemmas.List.{drop_more, drop_all}
use Rattle.bench.specs.Window.{cached, on_and_holds}
use Rattle.bench.specs.declared.window.Window.{Window}

module _ (ws : List (Option Window)) (address i : ℕ) (d : Option Window) (low : i < length ws) where
  pub one_holds : on_and_holds (get_or ws i d) address ≡ true → cached (drop i ws) address ≡ true
  one_holds h = ap (λ xs. cached xs address) (drop_more ws i d low) ∙ ap (λ b. b || cached (drop (i + 1) ws) address) h

  pub none_here : on_and_holds (get_or ws i d) address ≡ false → cached (drop i ws) address ≡ cached (drop (i + 1) ws) address
  none_here h = ap (λ xs. cached xs address) (drop_more ws i d low) ∙ ap (λ b. b || cached (drop (i + 1) ws) address) h

pub none_holds : (ws : List (Option Window)) (address i : ℕ) → length ws ≤ i → cached (drop i ws) address ≡ false
none_holds ws address i h = ap (λ xs. cached xs address) (drop_all i ws h)
