-- The windows: eight, each off or on with a first address and an end.
use Rattle.std.specs.Prelude.{ℕ, Bool, false, ◌&&◌, List, ◌∷◌, replicate, Some, None, Option, nat_le, nat_lt}
use Rattle.std.specs.List.{list_any}
use Rattle.bench.specs.declared.window.Window.{Window}

-- a window holds first up to the address before end
abbrev pub holds : Window → ℕ → Bool
holds w address = nat_le w.first address && nat_lt address w.end

-- one that is off holds nothing
abbrev pub on_and_holds : Option Window → ℕ → Bool
on_and_holds None address = false
on_and_holds (Some w) address = holds w address

-- an access is cached exactly if a window that is on holds its address
abbrev pub cached : List (Option Window) → ℕ → Bool
cached ws address = list_any (λ w. on_and_holds w address) ws

-- a window that is set is on
abbrev pub on_window : ℕ → ℕ → Option Window
on_window first end = Some (record { first = first; end = end })

abbrev pub off_window : Option Window
off_window = None

-- those of a new bench: window 0 holds every address, the others are off
abbrev pub new_windows : List (Option Window)
new_windows = on_window 0 4294967296 ∷ replicate 7 off_window
