-- The sweep over a table: levels by rising block size, then by rising sets.
use Rattle.std.specs.Prelude.{ℕ, ◌+◌, Bool, false, cond, List, [], ◌∷◌, ◌++◌, take, drop, Some, None, Option, ◌==◌}
use Rattle.geometry.specs.Address.{block_of, set_of, tag_of}
use Rattle.bench.specs.Direct.{direct_hit}
use Rattle.bench.specs.Rows.{Stepped}
use Rattle.bench.specs.Mixed.{Leads, Owned}
use Rattle.bench.specs.Level.{Visited, all_hit, level_words, visit}
use Rattle.bench.specs.Table.{Family, Level, levels_words}

-- two parts of a sweep, one after the other
abbrev pub and_then : Visited → Visited → Visited
and_then v w = record { words = v.words ++ w.words; hits = v.hits ++ w.hits; comparisons = v.comparisons + w.comparisons }

-- lines that are skipped hit
abbrev pub levels_hit : List Level → List Bool
levels_hit [] = []
levels_hit (l ∷ ls) = all_hit l.lines ++ levels_hit ls

abbrev pub families_hit : List Family → List Bool
families_hit [] = []
families_hit (f ∷ fs) = levels_hit f.levels ++ families_hit fs

-- skipped levels: their lines hit, no word changes and nothing is compared
abbrev pub skip : List Bool → List ℕ → Visited
skip hits ws = record { words = ws; hits = hits; comparisons = 0 }

-- an access at a level of block size b
abbrev pub visit_of : (Owned → ℕ → Leads → Stepped) → ℕ → ℕ → Level → List ℕ → Visited
visit_of f b address l ws = visit f l.sets (set_of address b l.sets) (tag_of address b l.sets) l.lines ws

-- the levels of one block size, by rising sets: where a direct-mapped cache hits, the later ones are skipped
abbrev pub sweep_levels : (Owned → ℕ → Leads → Stepped) → ℕ → ℕ → List Level → List ℕ → Visited
sweep_levels f b address [] ws = skip [] ws
sweep_levels f b address (l ∷ ls) ws =
    and_then (visit_of f b address l (take (level_words l.sets l.lines) ws))
    (cond (direct_hit (take (level_words l.sets l.lines) ws) (set_of address b l.sets) (tag_of address b l.sets))
    (skip (levels_hit ls) (drop (level_words l.sets l.lines) ws))
    (sweep_levels f b address ls (drop (level_words l.sets l.lines) ws)))

-- whether an access lies in the block of the last one, if there is one, at block size b
abbrev pub same_block : Option ℕ → ℕ → ℕ → Bool
same_block None address b = false
same_block (Some last) address b = block_of last b == block_of address b

-- all levels: where the access lies in the last one's block, those of this block size and of larger ones are skipped
abbrev pub sweep_families : (Owned → ℕ → Leads → Stepped) → Option ℕ → ℕ → List Family → List ℕ → Visited
sweep_families f last address [] ws = skip [] ws
sweep_families f last address (F ∷ Fs) ws =
    cond (same_block last address F.block) (skip (families_hit (F ∷ Fs)) ws)
    (and_then (sweep_levels f F.block address F.levels (take (levels_words F.levels) ws))
    (sweep_families f last address Fs (drop (levels_words F.levels) ws)))
