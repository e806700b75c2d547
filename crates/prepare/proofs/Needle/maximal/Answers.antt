use Rattle.prepare.proofs.Ways.{maximal_found}
use Rattle.prepare.proofs.Needle.maximal.Goals as goal

pub returns : goal.returns
returns c = maximal_found c.args.order_greater c.args.self.bytes.now c.args.self.within c.maximal_suffix.ensures.rule c.unwrap.ensures
