-- `scan::memrchr` meets its contract: what the rule's answer means, its own means.
-- Assumes nothing.
use Rattle.scan.proofs.Laws.{back_means}
use Rattle.scan.proofs.memrchr.Goals as goal

pub returns-clause-meaning : goal.returns-clause-meaning
returns-clause-meaning c = rw c.scanned.ensures (back_means c.args.x c.args.text.now)
