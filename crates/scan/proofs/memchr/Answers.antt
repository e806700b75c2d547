-- `scan::memchr` meets its contract: what the rule's answer means, its own means.
-- Assumes nothing.
use Rattle.scan.proofs.Laws.{front_means}
use Rattle.scan.proofs.memchr.Goals as goal

pub returns-clause-meaning : goal.returns-clause-meaning
returns-clause-meaning c = rw c.scanned.ensures (front_means c.args.x c.args.text.now)
