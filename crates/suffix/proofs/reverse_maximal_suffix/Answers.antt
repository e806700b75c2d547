use mathlib.Core.Path.{sym, subst}
use Rattle.std.proofs.lemmas.Result.{err_from_is_err_and}
use Rattle.suffix.specs.Answer.{ReverseMeaning}
use Rattle.suffix.proofs.Laws.{reverse_halves, reverse_means}
use Rattle.suffix.proofs.reverse_maximal_suffix.Goals as goal

pub returns-in_err-s-clause-rule : goal.returns-in_err-s-clause-rule
returns-in_err-s-clause-rule c =
    let p = err_from_is_err_and c.from_residual.result c.from_residual.ensures.1 in
    rw (p.1, p.2) (reverse_halves c.args.order_greater c.args.known_period c.args.arr.now c.in_err-s.ensures)

pub returns : goal.returns
returns c =
    let e = reverse_halves c.args.order_greater c.args.known_period c.args.arr.now c.in_ok-s.ensures in
    record {
      rule = e;
      meaning = subst (ReverseMeaning c.args.order_greater c.args.known_period c.args.arr.now) (sym e) (reverse_means c.args.order_greater c.args.known_period c.args.arr.now);
    }
