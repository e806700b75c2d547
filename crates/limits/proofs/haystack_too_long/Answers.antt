use borrow.Author.Rules.{rules}
use Rattle.limits.specs.Bounds.{haystack_bound}
use Rattle.limits.proofs.haystack_too_long.Goals as goal

pub returns : goal.returns
unfolding haystack_bound
returns c = search rules
