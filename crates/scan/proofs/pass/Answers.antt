use native.Mathlib.Omega.{arith}
use mathlib.Core.Bool.{not}
use lib.Dec.{eqb}
use Rattle.scan.proofs.Passes.{pass_starts, pass_on, pass_stops, pass_ends}
use Rattle.scan.proofs.pass.Goals as goal

pub loop-at-init : goal.loop-at-init
loop-at-init g c = pass_starts _ c.requires.passed_bound

pub loop-at-preserved : goal.loop-at-preserved
loop-at-preserved g c = pass_on (not (eqb g.row.BACKWARD 0)) c.loop-at.invariant c.loop-at-test.true c.start-from.ensures c.without.ensures (omega arith) (omega arith) c.if-not-without.false

pub returns-after-loop-at-clause-near : goal.returns-after-loop-at-clause-near
returns-after-loop-at-clause-near g c = pass_ends _ c.loop-at.invariant (omega arith)

pub returns-then-not-without-clause-near : goal.returns-then-not-without-clause-near
returns-then-not-without-clause-near g c = pass_stops (not (eqb g.row.BACKWARD 0)) c.loop-at.invariant c.loop-at-test.true c.start-from.ensures c.without.ensures (omega arith) (omega arith) c.if-not-without.true
