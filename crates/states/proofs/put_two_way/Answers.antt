-- `states::put_two_way` meets its contract.
-- Assumes nothing.
use Rattle.printing.proofs.Laws.{prints_both}
use Rattle.states.proofs.put_two_way.Goals as goal

pub returns-in-Long : goal.returns-in-Long
returns-in-Long c = rw c.in-Long.is (prints_both _ _ _ _ _ _ _ _ c.put_begin-at.ensures c.put_splits.ensures)

pub returns-in-Short : goal.returns-in-Short
returns-in-Short c = rw c.in-Short.is (prints_both _ _ _ _ _ _ _ _ c.put_begin-at-in-Short.ensures c.put_splits-in-Short.ensures)
