use native.Mathlib.Omega.{arith}
use Rattle.walk.proofs.Laws.{whole_printed}
use Rattle.walk.proofs.reply.put_state.Goals as goal

pub returns-clause-text : goal.returns-clause-text
returns-clause-text g c =
    rw (whole_printed _ _ _ _ c.put_state-end.ensures.rule (omega arith)) at c.write_all.ensures.bytes
