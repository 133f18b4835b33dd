use Rattle.policy.specs.Stack.{fifo, lru}
use Rattle.policy.specs.ListPolicy.{fifo_keeps, lru_keeps}
use Rattle.policy.specs.StackLaws.{on_layout}
use Rattle.policy.proofs.stack.residents.Goals as goal

pub returns-in-empty-clause-fifo : goal.returns-in-empty-clause-fifo
returns-in-empty-clause-fifo c = on_layout fifo fifo_keeps

pub returns-in-empty-clause-lru : goal.returns-in-empty-clause-lru
returns-in-empty-clause-lru c = on_layout lru lru_keeps

pub returns-in-len1-up-clause-fifo : goal.returns-in-len1-up-clause-fifo
returns-in-len1-up-clause-fifo c = on_layout fifo fifo_keeps

pub returns-in-len1-up-clause-lru : goal.returns-in-len1-up-clause-lru
returns-in-len1-up-clause-lru c = on_layout lru lru_keeps
