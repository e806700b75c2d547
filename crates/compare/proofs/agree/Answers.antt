use native.Mathlib.Omega.{arith}
use Rattle.compare.proofs.Laws.{agree_at}
use Rattle.compare.proofs.agree.Goals as goal

pub returns-then-left-i : goal.returns-then-left-i
returns-then-left-i c = agree_at c.args.left.now c.args.right.now (record { most = omega arith; same = c.loop-i.invariant; parts = λ h. c.if-left-i.true })

pub returns : goal.returns
returns c = agree_at c.args.left.now c.args.right.now (record { most = omega arith; same = λ k h. c.loop-i.invariant k (omega arith); parts = λ h. absurd (omega arith) })
