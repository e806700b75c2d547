use native.Mathlib.Omega.{arith}
use Rattle.printing.specs.Printing.{form_text}
use Rattle.printing.proofs.Laws.{form_begins, form_moves, form_ends, form_size, fit_each, prints_in_room}
use Rattle.printing.proofs.put_form.Goals as goal

pub loop-b-init : goal.loop-b-init
loop-b-init c =
    let rest = c.iter-left.ensures.rest in
    record {
      within = omega arith;
      shown = rw rest (form_begins c.args.out.now (form_text c.args.form.now c.args.numbers.now) c.args.start c.min-at.result c.min-at.ensures);
    }

pub loop-b-preserved : goal.loop-b-preserved
loop-b-preserved c =
    let spend = c.spend.ensures in
    record {
      within = omega arith;
      shown = form_moves _ _ _ _ _ _ _ _ _ _ _ _ c.loop-b-test.true spend.rule spend.rest c.put_part-at.ensures c.loop-b.invariant.shown;
    }

pub returns : goal.returns
returns c =
    let a = c.args in
    let fit = fit_each a.numbers.now (λ i. omega (arith, c.type_inv.numbers i)) in
    let shown = form_ends _ _ a.form.now _ _ a.start c.loop-b.at _ c.loop-b-test.false c.loop-b.invariant.within c.loop-b.invariant.shown in
    record {
      in_room = prints_in_room _ _ _ _ _ _ shown (omega (arith, form_size a.form.now a.numbers.now fit));
      rule = shown;
    }
