use native.Mathlib.Omega.{arith}
use Rattle.walk.proofs.Laws.{on_ok, prepared_size}
use Rattle.walk.proofs.reply.put_prepared.Goals as goal

pub returns-in_ok-put_state-in-Ok-clause-bound : goal.returns-in_ok-put_state-in-Ok-clause-bound
returns-in_ok-put_state-in-Ok-clause-bound g c =
    on_ok _ (prepared_size c.args.p _ c.in-Ok.is c.in_ok-put_state-in-Ok.ensures.bound (omega arith))
