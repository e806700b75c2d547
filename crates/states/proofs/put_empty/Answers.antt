-- `states::put_empty` meets its contract.
-- Assumes nothing.
use Rattle.printing.proofs.Laws.{prints_both}
use Rattle.states.proofs.put_empty.Goals as goal

pub returns : goal.returns
returns c = prints_both _ _ _ _ _ _ _ _ c.put_begin-at.ensures c.put_form.ensures.rule
