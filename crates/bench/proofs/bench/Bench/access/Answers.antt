use Rattle.std.proofs.Common.{◌≡◌, length, sym, ap, ◌∙◌, arith, rules}
use Rattle.std.proofs.lemmas.Bool.{cond-true}
use Rattle.geometry.specs.Kind.{kind_number}
use Rattle.bench.specs.Calls.{access}
use Rattle.bench.specs.Held.{bench_of}
use Rattle.bench.specs.State.{pass_state, state_need, touch_state}
use Rattle.bench.specs.Window.{cached}
use Rattle.bench.proofs.AccessAsked.{all_pass}
use Rattle.bench.proofs.CallKept.{passed}
use Rattle.bench.proofs.bench.Bench.access.Goals as goal

pub returns-then-cached : goal.returns-then-cached
returns-then-cached g c =
    let s = g.S.Suite.suite in
    let h = c.args.self.now.held in
    let b = bench_of h c.args.workspace.now in
    let x = c.args.access.now in
    let y = c.in_ok-checked.checked in
    let K = c.in_ok-checked.ensures in
    let none = all_pass (state_need b.state) (length b.words) b.state.accesses x (omega (arith, h.table.needs, c.if-workspace-self.false)) K.allowed.kind K.allowed.address (search rules) in
    let here = cond-true (cached b.state.windows x.address) (touch_state s x b) (record { state = pass_state b.state; words = b.words }) (sym c.cached.ensures ∙ c.if-cached.true) in
    let same : record { kind = kind_number y.kind; address = y.address } ≡ x = λ i. record { kind = sym K.kind i; address = sym K.address i } in
    passed s g.met.S.Suite.lawful (access x) b _ none (c.touch.ensures ∙ ap (λ z. touch_state s z b) same ∙ sym here)
