-- The lines of a table, read one after the other.
use Rattle.std.proofs.Common.{◌≡◌, ℕ, suc, ◌+◌, ◌^◌, ◌<◌, ◌≤◌, ◌&&◌, leb, List, [], ◌∷◌, ◌++◌, map, length, get_or, take, drop, set, Some, None, Option, sym, refl, ap, ◌∙◌, arith}
use Rattle.std.proofs.lemmas.List.{drop_all, drop_more, map-append, take_more, take_more_set}
use Rattle.std.proofs.lemmas.Bool.{and_from, cond-true, le-leb}
use Rattle.policy.specs.Three.{Three, which}
use Rattle.geometry.specs.Line.{GeometryOf, line_questions}
use Rattle.geometry.specs.Refusal.{ask, first_no}
use Rattle.geometry.specs.declared.geometry.Geometry.{Geometry}
use Rattle.geometry.specs.declared.line.Line.{Line}
use Rattle.bench.specs.Opened.{at_line, in_order, lines_refusal, or_else, unless}
use Rattle.bench.specs.Spans.{config, configs}
use Rattle.bench.specs.Table.{Config, config_of, named}
use Rattle.bench.specs.declared.open_line.OpenLine.{OpenLine}

abbrev pub asked : Three → Option Line → Line → Option ℕ
asked p last l = first_no (line_questions p l ++ (ask 10 (in_order last l) ∷ []))

module _ (p : Three) (last : Option Line) (lines : List Line) (k : ℕ) (d : Line) (low : k < length lines) where
  here : lines_refusal p (k + 1) last (drop k lines) ≡ or_else (at_line (k + 1) (asked p last (get_or lines k d))) (lines_refusal p (suc (k + 1)) (Some (get_or lines k d)) (drop (k + 1) lines))
  here = ap (lines_refusal p (k + 1) last) (drop_more lines k d low)

  pub line_stops : (n : ℕ) → asked p last (get_or lines k d) ≡ Some n → lines_refusal p (k + 1) last (drop k lines) ≡ Some (record { number = n; line = k + 1 })
  line_stops n e = here ∙ ap (λ o. or_else (at_line (k + 1) o) (lines_refusal p (suc (k + 1)) (Some (get_or lines k d)) (drop (k + 1) lines))) e

  pub line_passes : asked p last (get_or lines k d) ≡ None → lines_refusal p (k + 1) last (drop k lines) ≡ lines_refusal p (k + 1 + 1) (Some (get_or lines k d)) (drop (k + 1) lines)
  line_passes e =
      here ∙ ap (λ o. or_else (at_line (k + 1) o) (lines_refusal p (suc (k + 1)) (Some (get_or lines k d)) (drop (k + 1) lines))) e
      ∙ ap (λ n. lines_refusal p n (Some (get_or lines k d)) (drop (k + 1) lines)) (omega arith)

pub none_left : (p : Three) (last : Option Line) (lines : List Line) (k : ℕ) → length lines ≤ k → lines_refusal p (k + 1) last (drop k lines) ≡ None
none_left p last lines k h = ap (lines_refusal p (k + 1) last) (drop_all k lines h)

-- an entry is the line that it was read from
pub same-config : (p : Three) (line : Line) (x : OpenLine) → GeometryOf p line x.geometry → config x ≡ config_of p line
same-config p line x G =
    let g = x.geometry in
    ap (λ m. record { member = m; block = 2 ^ g.block_bits; sets = 2 ^ g.set_bits; ways = g.ways }) (sym (ap named G.member))
    ∙ ap (λ b. record { member = named (which p line.letter); block = b; sets = 2 ^ g.set_bits; ways = g.ways }) (sym G.block)
    ∙ ap (λ n. record { member = named (which p line.letter); block = line.block; sets = n; ways = g.ways }) (sym G.sets)
    ∙ ap (λ n. record { member = named (which p line.letter); block = line.block; sets = line.sets; ways = n }) (sym G.ways)

-- one entry more
module _ (p : Three) (es : List OpenLine) (lines : List Line) (k : ℕ) (d : Line) (x : OpenLine) (room : k < length es) (low : k < length lines) where
  pub configs_more : config x ≡ config_of p (get_or lines k d) → configs (take k es) ≡ map (config_of p) (take k lines) → configs (take (k + 1) (set es k x)) ≡ map (config_of p) (take (k + 1) lines)
  configs_more e so_far =
      ap configs (take_more_set es k x room)
      ∙ map-append config (take k es) (x ∷ [])
      ∙ ap (λ cs. cs ++ (config x ∷ [])) so_far
      ∙ ap (λ c. map (config_of p) (take k lines) ++ (c ∷ [])) e
      ∙ sym (map-append (config_of p) (take k lines) (get_or lines k d ∷ []))
      ∙ sym (ap (map (config_of p)) (take_more lines k d low))

-- the lines that entries are go by their geometry alone
abbrev of_geometry : Geometry → Config
of_geometry g = record { member = g.member; block = 2 ^ g.block_bits; sets = 2 ^ g.set_bits; ways = g.ways }

by_geometry : (es : List OpenLine) → configs es ≡ map of_geometry (map (λ x. x.geometry) es)
by_geometry [] = refl
by_geometry (x ∷ es) = ap (λ cs. config x ∷ cs) (by_geometry es)

pub same-configs : (es es' : List OpenLine) → map (λ x. x.geometry) es' ≡ map (λ x. x.geometry) es → configs es' ≡ configs es
same-configs es es' e = by_geometry es' ∙ ap (map of_geometry) e ∙ sym (by_geometry es)

-- a table of 1 to 64 lines
pub size_passes : (n : ℕ) → 1 ≤ n → n ≤ 64 → unless (leb 1 n && leb n 64) 5 ≡ None
size_passes n low high = cond-true (leb 1 n && leb n 64) None (Some (record { number = 5; line = 0 })) (and_from (leb 1 n) (leb n 64) (le-leb 1 n low) (le-leb n 64 high))
