use mathlib.Core.Path.{sym, subst}
use Rattle.suffix.specs.Answer.{maximal_rule, MaximalMeaning}
use Rattle.suffix.proofs.Laws.{maximal_means}
use Rattle.suffix.proofs.maximal_suffix.Goals as goal

pub returns : goal.returns
unfolding maximal_rule
returns c =
    record {
      rule = c.pass.ensures;
      meaning = subst (MaximalMeaning c.args.order_greater c.args.arr.now) (sym c.pass.ensures) (maximal_means c.args.order_greater c.args.arr.now);
    }
