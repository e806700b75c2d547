use mathlib.Core.Path.{sym, ◌∙◌}
use native.Mathlib.Omega.{arith}
use Rattle.suffix.proofs.Loop.{from_either, stops_is, loop_first, loop_end, loop_next, loop_falls, loop_last}
use Rattle.suffix.proofs.Laws.{passed_gives}
use Rattle.suffix.proofs.pass.Goals as goal

pub loop-s-init : goal.loop-s-init
loop-s-init g c = loop_first (from_either _ c.args.arr.now)

pub loop-s-smaller : goal.loop-s-smaller
loop-s-smaller g c = loop_falls _ _ _ _ c.round_on-s.ensures c.loop-s.invariant.sound c.loop-s-test.true

pub loop-s-preserved : goal.loop-s-preserved
loop-s-preserved g c =
    loop_next c.round_on-s.ensures c.loop-s.invariant c.loop-s-test.true c.letter-new.ensures c.letter-expected.ensures (grind arith) (grind arith) (stops_is c.args.known c.round_on-s.result.period c.eq.ensures ∙ c.if-eq.false)

pub returns-after-loop-s : goal.returns-after-loop-s
returns-after-loop-s g c =
    passed_gives (sym c.needle_too_long.ensures ∙ c.if-needle_too_long.false) (loop_end c.loop-s.invariant c.loop-s-test.false)

pub returns-then-eq : goal.returns-then-eq
returns-then-eq g c =
    passed_gives (sym c.needle_too_long.ensures ∙ c.if-needle_too_long.false)
    (loop_last c.round_on-s.ensures c.loop-s.invariant c.loop-s-test.true c.letter-new.ensures c.letter-expected.ensures (grind arith) (grind arith) (stops_is c.args.known c.round_on-s.result.period c.eq.ensures ∙ c.if-eq.true))
