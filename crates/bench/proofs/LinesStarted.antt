-- The words of lines and levels that are started, one after the other.
use Rattle.std.proofs.Common.{◌≡◌, ℕ, ◌+◌, ◌-◌, ◌<◌, ◌≤◌, Bool, ◌&&◌, List, [], ◌∷◌, ◌++◌, length, get_or, take, drop, replicate, sym, refl, ap, ◌∙◌, arith}
use Rattle.std.proofs.lemmas.List.{append_assoc, append-nil, drop_all, drop-drop, length-take, length-take-le, take_rest}
use Rattle.standalone.specs.Rows.{laid}
use Rattle.bench.specs.OpenLines.{kins_of}
use Rattle.bench.specs.Start.{any_of, started_lines}
use Rattle.bench.specs.Started.{new_row}
use Rattle.policy.specs.Suite.{Suite, nesting}
use Rattle.bench.specs.Words.{Kin, line_words, lines_words, wide}
use Rattle.bench.specs.declared.open_line.OpenLine.{OpenLine}
use Rattle.bench.proofs.AnyOf.{wide_next, wide_past}

-- the first n words are started, and then others
then_others : (n m : ℕ) (p q ws rest : List ℕ) → rest ≡ q ++ drop m (drop n ws) → p ++ rest ≡ (p ++ q) ++ drop (n + m) ws
then_others n m p q ws rest f = ap (λ zs. p ++ zs) (f ∙ ap (λ zs. q ++ zs) (drop-drop m n ws)) ∙ sym (append_assoc p q (drop (n + m) ws))

pub then_started : (n m : ℕ) (p q ws new rest : List ℕ) → new ≡ p ++ drop n (take n ws) → rest ≡ q ++ drop m (drop n ws) → new ++ rest ≡ (p ++ q) ++ drop (n + m) ws
then_started n m p q ws new rest e f =
    let first : new ≡ p = e ∙ ap (λ zs. p ++ zs) (drop_all n (take n ws) (omega (arith, length-take n ws))) ∙ append-nil p in
    ap (λ zs. zs ++ rest) first ∙ then_others n m p q ws rest f

-- an empty direct-mapped cache, and then others
pub zeros_then : (n m : ℕ) (q ws zeros rest : List ℕ) → n ≤ length ws → zeros ≡ replicate (length (take n ws)) 0 → rest ≡ q ++ drop m (drop n ws) → zeros ++ rest ≡ (replicate n 0 ++ q) ++ drop (n + m) ws
zeros_then n m q ws zeros rest le e f = ap (λ zs. zs ++ rest) (e ∙ ap (λ k. replicate k 0) (length-take-le n ws le)) ∙ then_others n m (replicate n 0) q ws rest f

module _ (s : Suite) (sets : ℕ) (ws : List ℕ) where
  -- the words when these lines are started
  abbrev after : List Kin → List ℕ
  after ks = started_lines s sets ks ++ drop (lines_words sets ks) ws

  pub lines_none : (es : List OpenLine) → length es ≡ 0 → ws ≡ after (wide (kins_of es))
  lines_none [] z = refl
  lines_none (x ∷ es) z = absurd (omega arith)

  module _ (es : List OpenLine) (x : OpenLine) (some : 0 < length es) (is : x ≡ get_or es 0 x) where
    -- a line of one way has no rows
    pub lines_single : (words : List ℕ) → x.geometry.ways ≤ 1 → words ≡ after (wide (kins_of (take (length es - 1) (drop 1 es)))) → words ≡ after (wide (kins_of es))
    lines_single words one e = e ∙ ap (λ zs. after (wide (kins_of zs))) (take_rest es 1) ∙ ap after (sym (wide_past es 0 x some is one))

    -- the rows of a wider line, and then those of the later ones
    pub lines_more : (follows : Bool) (new rest : List ℕ) → 1 < x.geometry.ways → follows ≡ (nesting x.geometry.member && any_of x.geometry.member (wide (kins_of (drop 1 es))))
        → new ≡ laid (replicate sets (new_row s follows x.geometry.member (x.geometry.ways + 1))) ++ drop (line_words sets x.geometry.ways) (take (line_words sets x.geometry.ways) ws)
        → rest ≡ started_lines s sets (wide (kins_of (drop 1 es))) ++ drop (lines_words sets (wide (kins_of (drop 1 es)))) (drop (line_words sets x.geometry.ways) ws)
        → new ++ rest ≡ after (wide (kins_of es))
    lines_more follows new rest two ef en er =
        let rows : Bool → List ℕ = λ f. laid (replicate sets (new_row s f x.geometry.member (x.geometry.ways + 1))) in
        let n = line_words sets x.geometry.ways in
        let ks = wide (kins_of (drop 1 es)) in
        then_started n (lines_words sets ks) (rows (nesting x.geometry.member && any_of x.geometry.member ks)) (started_lines s sets ks) ws new rest
        (en ∙ ap (λ f. rows f ++ drop n (take n ws)) ef) er ∙ ap after (sym (wide_next es 0 x some is two))
