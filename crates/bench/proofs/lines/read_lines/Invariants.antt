use Rattle.std.proofs.Common.{◌≡◌, ◌+◌, map, take, drop, None}
use Rattle.bench.specs.Opened.{lines_refusal}
use Rattle.bench.specs.Spans.{configs}
use Rattle.bench.specs.Table.{config_of}
use Rattle.bench.proofs.lines.read_lines.Given as goal

abbrev pub invariant-loop-line : goal.invariant-loop-line
invariant-loop-line g l = record {
  asked : lines_refusal g.S.Suite.suite.three (l.line-index + 1) l.last (drop l.line-index l.lines) ≡ lines_refusal g.S.Suite.suite.three 1 None l.lines;
  read : configs l.read.items ≡ map (config_of g.S.Suite.suite.three) (take l.line-index l.lines);
}
