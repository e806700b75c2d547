use Rattle.prepare.proofs.Ways.{reverse_found}
use Rattle.prepare.proofs.Needle.reverse_maximal.Goals as goal

pub returns : goal.returns
returns c =
    reverse_found c.args.order_greater c.args.self.bytes.now c.args.self.within c.args.period c.reverse_maximal_suffix.ensures.rule c.unwrap.ensures
