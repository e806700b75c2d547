-- `prepare::prepare` meets its contract: what comes to the five steps is within the bound and not empty.
-- Assumes nothing.
use mathlib.Core.Path.{◌≡◌}
use native.Mathlib.Omega.{arith}
use lib.ListN.{length}
use Rattle.std.proofs.lemmas.Bool.Decides.{nat_tests}
use Rattle.prepare.specs.Prepare.{parts_told}
use Rattle.prepare.proofs.Ways.{prepare_settled, prepare_refuses, prepare_empty, prepare_steps, passed_small}
use Rattle.prepare.proofs.prepare.Goals as goal

pub returns-in-Err : goal.returns-in-Err
returns-in-Err c =
    let e = prepare_settled c.args.needle.now c.args.n c.args.mode {r = parts_told c.refused.result} (prepare_refuses _ _ _ c.refused.ensures c.in-Err.ensures) in
    record { rule = e.0; meaning = e.1 }

pub returns-then-is_empty : goal.returns-then-is_empty
returns-then-is_empty c =
    let none : length c.args.needle.now ≡ 0 = grind (arith, nat_tests) in
    let e = prepare_settled c.args.needle.now c.args.n c.args.mode {r = parts_told c.empty.result} (prepare_empty _ _ c.in_default.ensures _ c.empty.ensures none) in
    record { rule = e.0; meaning = e.1 }

pub invariant_of-five_steps-clause-within : goal.invariant_of-five_steps-clause-within
invariant_of-five_steps-clause-within c = passed_small c.args.needle.now c.args.n c.in_default.ensures

pub returns : goal.returns
returns c =
    let some : length c.args.needle.now ≡ 0 → ⊥ = grind (arith, nat_tests) in
    let e = prepare_settled c.args.needle.now c.args.n c.args.mode {r = parts_told c.five_steps.result} (prepare_steps _ _ c.in_default.ensures _ c.five_steps.ensures some) in
    record { rule = e.0; meaning = e.1 }
