-- The known passes, by computation.
use Rattle.std.proofs.Common.{refl}
use Rattle.geometry.specs.Line.{power_to}
use Rattle.bench.specs.Known.{KnownPasses, Stands, fifo_pass, lru_pass, short_pass, window_pass}

fifo_stands : Stands fifo_pass
unfolding power_to
fifo_stands = record { needed = refl; answered = refl; misses = refl; hits = refl; accesses = refl; uncached = refl; apart = refl; missed = refl; compared = refl }

lru_stands : Stands lru_pass
unfolding power_to
lru_stands = record { needed = refl; answered = refl; misses = refl; hits = refl; accesses = refl; uncached = refl; apart = refl; missed = refl; compared = refl }

window_stands : Stands window_pass
unfolding power_to
window_stands = record { needed = refl; answered = refl; misses = refl; hits = refl; accesses = refl; uncached = refl; apart = refl; missed = refl; compared = refl }

short_stands : Stands short_pass
unfolding power_to
short_stands = record { needed = refl; answered = refl; misses = refl; hits = refl; accesses = refl; uncached = refl; apart = refl; missed = refl; compared = refl }

pub known_passes_stand : KnownPasses
known_passes_stand = (fifo_stands, (lru_stands, (window_stands, (short_stands, tt))))
