use Prim.Native.Nat.{◌+◌, ◌-◌}
use mathlib.Core.Path.{◌≡◌, refl, sym, ◌∙◌}
use native.Mathlib.Omega.{arith}
use Rattle.fields.proofs.Laws.{digits_next, digits_stop, digits_end}
use Rattle.fields.proofs.read_digits.Goals as goal

pub returns-in_default-clause-rule : goal.returns-in_default-clause-rule
returns-in_default-clause-rule c =
    let args = c.args in
    let loop = c.loop-at in
    sym (digits_stop args.s.now args.base loop.at loop.read loop.invariant.0 (args.from + args.most - loop.at) (omega arith) (sym c.with_digit.ensures.rule ∙ c.in_default.is)) ∙ loop.invariant.1

pub loop-at-preserved : goal.loop-at-preserved
loop-at-preserved c =
    let args = c.args in
    let loop = c.loop-at in
    let left : args.from + args.most - (loop.at + 1) ≡ args.from + args.most - loop.at - 1 = omega arith in
    (refl, rw left (sym (digits_next args.s.now args.base loop.read.value loop.at (args.from + args.most - loop.at) c.in-Some.value (omega arith) (omega arith) (sym c.with_digit.ensures.rule ∙ c.in-Some.is)) ∙ loop.invariant.1))

pub returns-clause-rule : goal.returns-clause-rule
returns-clause-rule c =
    let args = c.args in
    let loop = c.loop-at in
    sym (digits_end args.s.now args.base loop.at loop.read loop.invariant.0 (args.from + args.most - loop.at) (λ p. omega arith)) ∙ loop.invariant.1
