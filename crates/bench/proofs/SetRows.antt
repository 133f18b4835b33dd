-- One line more in the sweep of one set of a level.
use Rattle.std.proofs.Common.{◌≡◌, ℕ, ◌+◌, ◌-◌, ◌*◌, ◌<◌, ◌≤◌, min, Bool, false, List, [], ◌∷◌, ◌++◌, take, drop, sym, refl, ap, ◌∙◌, subst, subst₂, arith}
use borrow.Rule.Slice.PartMut.{put_mid}
use Rattle.standalone.specs.Rows.{row_at, with_row}
use Rattle.bench.specs.Rows.{Stepped}
use Rattle.bench.specs.Mixed.{Leads, Owned, no_leads, with_lead}
use Rattle.std.proofs.lemmas.Bool.{cond-true, cond-false, le-leb, lt-leb}
use Rattle.bench.specs.Words.{Kin, one_way, spread, wide, slot_of, words_of, line_words, with_rows}
use Rattle.bench.specs.Entries.{all_counted, counted, capped}
use Rattle.bench.specs.Group.{sweep_at, SetSwept}

-- a wider line has rows, and a line of one way has none
pub wide_more : (k : Kin) (ks : List Kin) → 1 < k.ways → wide (k ∷ ks) ≡ k ∷ wide ks
wide_more k ks two = cond-false (one_way k) (wide ks) (k ∷ wide ks) (lt-leb k.ways 1 two)

pub wide_single : (k : Kin) (ks : List Kin) → k.ways ≤ 1 → wide (k ∷ ks) ≡ wide ks
wide_single k ks one = cond-true (one_way k) (wide ks) (k ∷ wide ks) (le-leb k.ways 1 one)

spread_more : (k : Kin) (ks : List Kin) (h : Bool) (hs : List Bool) → 1 < k.ways → h ∷ spread ks hs ≡ spread (k ∷ ks) (h ∷ hs)
spread_more k ks h hs two = sym (cond-false (one_way k) (false ∷ spread ks (h ∷ hs)) (h ∷ spread ks hs) (lt-leb k.ways 1 two))

spread_single : (k : Kin) (ks : List Kin) (hs : List Bool) → k.ways ≤ 1 → false ∷ spread ks hs ≡ spread (k ∷ ks) hs
spread_single k ks [] one = sym (cond-true (one_way k) (false ∷ spread ks []) [] (le-leb k.ways 1 one))
spread_single k ks (h ∷ hs) one = sym (cond-true (one_way k) (false ∷ spread ks (h ∷ hs)) (h ∷ spread ks hs) (le-leb k.ways 1 one))

-- no line is left
pub rows_none : (f : Owned → ℕ → Leads → Stepped) (s i t kind : ℕ) (ms : List (List ℕ)) (ws : List ℕ) (lead : Leads) → lead ≡ no_leads → SetSwept f s i t kind [] ms ws ms ws 0 lead
rows_none f s i t kind ms ws lead n = record { rows = refl; misses = refl; compared = refl; told = n }

module _ (f : Owned → ℕ → Leads → Stepped) (s i t kind : ℕ) (k : Kin) (ks : List Kin) (m : List ℕ) (ms : List (List ℕ)) (ws : List ℕ) where
  -- the row of a wider line, after those of the later lines
  pub rows_more : (ms'' : List (List ℕ)) (rest : List ℕ) (c : ℕ) (lead : Leads) → SetSwept f s i t kind ks ms (drop (line_words s k.ways) ws) ms'' rest c lead
      → 1 < k.ways → (row : List ℕ) → row ≡ row_at (k.ways + 2) i (take (line_words s k.ways) ws)
      → (m' row' : List ℕ) (hit : Bool) (n : ℕ) (lead' : Leads)
      → hit ≡ (f (record { member = k.member; slot = slot_of row }) t lead).hit → n ≡ (f (record { member = k.member; slot = slot_of row }) t lead).comparisons → row' ≡ words_of (f (record { member = k.member; slot = slot_of row }) t lead).slot → lead' ≡ with_lead lead k.member (f (record { member = k.member; slot = slot_of row }) t lead).lead
      → m' ≡ counted kind hit m
      → SetSwept f s i t kind (k ∷ ks) (m ∷ ms) ws (m' ∷ ms'') (with_row (k.ways + 2) i (take (line_words s k.ways) ws) row' ++ rest) (min (c + n) 18446744073709551615) lead'
  rows_more ms'' rest c lead R two row er m' row' hit n lead' eh en ew el em =
      let mine = take (line_words s k.ways) ws in
      let wider = sweep_at f s i t (wide ks) (drop (line_words s k.ways) ws) in
      let more : wide (k ∷ ks) ≡ k ∷ wide ks = wide_more k ks two in
      let mark : List ℕ → Owned = λ r. record { member = k.member; slot = slot_of r } in
      let here = mark (row_at (k.ways + 2) i mine) in
      let at : f (mark row) t lead ≡ f here t wider.leads = ap (λ r. f (mark r) t lead) er ∙ ap (λ l. f here t l) R.told in
      let words' = with_row (k.ways + 2) i mine row' ++ rest in
      record {
        rows = subst (λ zs. words' ≡ with_rows s i zs (sweep_at f s i t zs ws).rows ws) (sym more)
            (ap (λ r. with_row (k.ways + 2) i mine r ++ rest) (ew ∙ ap (λ r. words_of r.slot) at)
            ∙ ap (λ r. with_row (k.ways + 2) i mine (words_of (f here t wider.leads).slot) ++ r) R.rows);
        misses = subst (λ zs. m' ∷ ms'' ≡ all_counted kind (spread (k ∷ ks) (sweep_at f s i t zs ws).hits) (m ∷ ms)) (sym more)
            (ap (λ y. y ∷ ms'') (em ∙ ap (λ h. counted kind h m) (eh ∙ ap (λ r. r.hit) at))
            ∙ ap (λ ys. counted kind (f here t wider.leads).hit m ∷ ys) R.misses
            ∙ ap (λ hs. all_counted kind hs (m ∷ ms)) (spread_more k ks (f here t wider.leads).hit wider.hits two));
        compared = subst (λ zs. min (c + n) 18446744073709551615 ≡ capped (sweep_at f s i t zs ws).comparisons) (sym more)
            (let q = R.compared in let p = en ∙ ap (λ r. r.comparisons) at in omega arith);
        told = subst (λ zs. lead' ≡ (sweep_at f s i t zs ws).leads) (sym more)
            (el ∙ ap (λ l. with_lead l k.member (f (mark row) t lead).lead) R.told ∙ ap (λ r. with_lead wider.leads k.member r.lead) at);
      }

  -- a line of one way misses with the direct-mapped cache
  pub rows_single : (ms'' : List (List ℕ)) (ws' : List ℕ) (c : ℕ) (lead : Leads) → SetSwept f s i t kind ks ms ws ms'' ws' c lead
      → k.ways ≤ 1 → (m' : List ℕ) → m' ≡ counted kind false m
      → SetSwept f s i t kind (k ∷ ks) (m ∷ ms) ws (m' ∷ ms'') ws' c lead
  rows_single ms'' ws' c lead R one m' em =
      let less : wide (k ∷ ks) ≡ wide ks = wide_single k ks one in
      let wider = sweep_at f s i t (wide ks) ws in
      record {
        rows = subst (λ zs. ws' ≡ with_rows s i zs (sweep_at f s i t zs ws).rows ws) (sym less) R.rows;
        misses = subst (λ zs. m' ∷ ms'' ≡ all_counted kind (spread (k ∷ ks) (sweep_at f s i t zs ws).hits) (m ∷ ms)) (sym less)
            (ap (λ y. y ∷ ms'') em ∙ ap (λ ys. counted kind false m ∷ ys) R.misses
            ∙ ap (λ hs. all_counted kind hs (m ∷ ms)) (spread_single k ks wider.hits one));
        compared = subst (λ zs. c ≡ capped (sweep_at f s i t zs ws).comparisons) (sym less) R.compared;
        told = subst (λ zs. lead ≡ (sweep_at f s i t zs ws).leads) (sym less) R.told;
      }

-- the row of set i among the rows of a line, and the rows with another one there
pub row_part : (w i : ℕ) (rows : List ℕ) → take (i * w + w - i * w) (drop (i * w) rows) ≡ row_at w i rows
row_part w i rows = ap (λ n. take n (drop (i * w) rows)) (omega arith)

pub row_put : (w i : ℕ) (rows new : List ℕ) → put_mid (i * w) (i * w + w - i * w) rows new ≡ with_row w i rows new
row_put w i rows new = ap (λ n. put_mid (i * w) n rows new) (omega arith)

-- the same sweep, with its results in another form
pub rows_as : {f : Owned → ℕ → Leads → Stepped} {s i t kind : ℕ} {ks : List Kin} {ms : List (List ℕ)} {ws : List ℕ} {ms₁ ms₂ : List (List ℕ)} {ws₁ ws₂ : List ℕ} {c₁ c₂ : ℕ} {lead : Leads}
    → ms₂ ≡ ms₁ → ws₂ ≡ ws₁ → c₂ ≡ c₁ → SetSwept f s i t kind ks ms ws ms₁ ws₁ c₁ lead → SetSwept f s i t kind ks ms ws ms₂ ws₂ c₂ lead
rows_as em ew ec R = record { rows = ew ∙ R.rows; misses = em ∙ R.misses; compared = ec ∙ R.compared; told = R.told }

-- and of the same lines and misses
pub rows_from : {f : Owned → ℕ → Leads → Stepped} {s i t kind : ℕ} {ks ks₁ : List Kin} {ms ms₁ : List (List ℕ)} {ws : List ℕ} {ms' : List (List ℕ)} {ws' : List ℕ} {c : ℕ} {lead : Leads}
    → ks ≡ ks₁ → ms ≡ ms₁ → SetSwept f s i t kind ks₁ ms₁ ws ms' ws' c lead → SetSwept f s i t kind ks ms ws ms' ws' c lead
rows_from {f} {s} {i} {t} {kind} {ks} {ks₁} {ms} {ms₁} {ws} {ms'} {ws'} {c} {lead} ek em R = subst₂ (λ k m. SetSwept f s i t kind k m ws ms' ws' c lead) (sym ek) (sym em) R
