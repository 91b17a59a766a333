-- The places left, if any, lie past the table's end.
use borrow.Author.Rules.{rules}
use Rattle.agent.proofs.Written.{written-end}
use Rattle.agent.proofs.tables.fill.Goals as goal

pub returns : goal.returns
returns c = written-end _ _ _ _ _ _ (search rules) (search rules) c.loop-i.invariant.1
