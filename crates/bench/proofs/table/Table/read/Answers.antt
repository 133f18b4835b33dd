use Rattle.std.proofs.Common.{◌≡◌, length, ap, ◌∙◌}
use Rattle.std.proofs.lemmas.List.{take_at}
use Rattle.bench.specs.Spans.{configs}
use Rattle.bench.proofs.ReadLines.{same-configs}
use Rattle.bench.proofs.table.Table.read.Goals as goal

pub returns-clause-configs : goal.returns-clause-configs
returns-clause-configs g c =
    let read = c.in_ok-read_lines.ensures in
    let es' = c.link-need.new.lines in
    let long : length es' ≡ length c.read_lines.new.read.items = c.link-need.auto.lines ∙ ap length c.deref_mut.ensures.value in
    ap configs (take_at es' _ (length c.read_lines.new.read.items) long) ∙ same-configs _ es' c.link-need.ensures.geometry ∙ ap configs c.deref_mut.ensures.value ∙ read.configs
