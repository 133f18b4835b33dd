use Rattle.std.proofs.Common.{◌≡◌, ◌+◌, ◌++◌, drop, replicate}
use Rattle.standalone.specs.Rows.{laid}
use Rattle.bench.specs.Started.{new_row}
use Rattle.bench.specs.Words.{line_words}
use Rattle.bench.proofs.start.start_line.Given as goal

-- the rows of the sets so far are started
abbrev pub invariant-loop-set : goal.invariant-loop-set
invariant-loop-set g l =
    let s = g.S.Suite.suite in
    l.words ≡ laid (replicate l.set (new_row s l.follows l.member (l.ways + 1))) ++ drop (line_words l.set l.ways) l.initial.words
