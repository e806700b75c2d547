use Rattle.walk.proofs.Laws.{match_short}
use Rattle.walk.proofs.call.Call.make.Goals as goal

pub returns-in-Next-clause-bound : goal.returns-in-Next-clause-bound
returns-in-Next-clause-bound c = match_short c.next_match.result c.tell-in-Next.result c.tell-in-Next.ensures

pub returns-in-NextBack-clause-bound : goal.returns-in-NextBack-clause-bound
returns-in-NextBack-clause-bound c = match_short c.next_match_back.result c.tell-in-NextBack.result c.tell-in-NextBack.ensures
