use borrow.Author.Rules.{rules}
use Rattle.limits.specs.Bounds.{needle_bound}
use Rattle.limits.proofs.needle_too_long.Goals as goal

pub returns : goal.returns
unfolding needle_bound
returns c = search rules
