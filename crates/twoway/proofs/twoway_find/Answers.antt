-- `twoway::twoway_find` meets its contract.
-- Assumes nothing.
use Rattle.twoway.proofs.Laws.{coded}
use borrow.Author.Rules.{rules}
use Rattle.twoway.proofs.twoway_find.Goals as goal

pub returns : goal.returns
returns c = search (rules, coded)
