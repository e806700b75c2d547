use native.Mathlib.Omega.{arith}
use Rattle.walk.proofs.Laws.{on_ok, told_size}
use Rattle.walk.proofs.reply.put_told.Goals as goal

pub returns-clause-bound : goal.returns-clause-bound
returns-clause-bound g c = on_ok _ (told_size c.args.told c.in_ok-put_state.ensures.bound (omega arith) (omega arith))
