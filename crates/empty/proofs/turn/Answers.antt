-- `empty::turn` meets its contract.
-- Assumes nothing.
use borrow.Author.Rules.{rules}
use Rattle.empty.proofs.Laws.{turn_match, turn_nothing, turn_reject, turn_next}
use Rattle.empty.proofs.turn.Goals as goal

pub returns-then-side : goal.returns-then-side
returns-then-side c = search (rules, turn_match)

pub returns-then-side-eq0 : goal.returns-then-side-eq0
returns-then-side-eq0 c = search (rules, turn_nothing)

pub returns-then-stepping : goal.returns-then-stepping
returns-then-stepping c = search (rules, turn_reject)

pub returns : goal.returns
returns c = search (rules, turn_next)
