-- `prepare::Needle::five_steps` meets its contract. Both parts that step 2 compares are in range, since p is a period of the part from c on.
-- Assumes nothing.
use native.Mathlib.Omega.{arith}
use Rattle.limits.proofs.Room.{needle_room}
use Rattle.prepare.proofs.Ways.{whole_period, steps_long, steps_short}
use Rattle.prepare.proofs.Needle.five_steps.Goals as goal

pub overflow_add-split : goal.overflow_add-split
overflow_add-split c = omega (arith, needle_room)

pub returns-then-agreed-c : goal.returns-then-agreed-c
returns-then-agreed-c c = steps_long _ c.args.self.some c.choose-split.ensures.choice c.agree-agreed.ensures _ _ c.long.ensures c.if-agreed-c.true

pub overflow_add-split-2 : goal.overflow_add-split-2
overflow_add-split-2 c = omega (arith, needle_room)

pub short-requires : goal.short-requires
short-requires c = (whole_period _ c.args.self.some c.choose-split.ensures.choice c.agree-agreed.ensures c.if-agreed-c.false, omega arith)

pub returns : goal.returns
returns c = steps_short _ c.args.self.some c.choose-split.ensures.choice c.agree-agreed.ensures _ _ c.short.ensures c.if-agreed-c.false
