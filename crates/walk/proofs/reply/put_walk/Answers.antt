use native.Mathlib.Omega.{arith}
use Rattle.walk.proofs.Laws.{on_ok, walk_begins, walk_goes_on, walk_ends, walk_short}
use Rattle.walk.proofs.reply.put_walk.Goals as goal

pub loop-letter-init : goal.loop-letter-init
loop-letter-init g c = walk_begins c.new-prepared.result _ _ _ _ _ _ _ c.new-prepared.ensures.rule c.in_default.is (omega arith) c.in_ok-write.ensures.bytes

pub loop-letter-preserved : goal.loop-letter-preserved
loop-letter-preserved g c =
    walk_goes_on _ c.args.script.now c.loop-letter.letter-index c.of_letter.result c.make-told.result c.loop-letter.walk c.args.haystack.now c.args.needle.now _ _ _
    c.loop-letter-test.true c.of_letter.ensures c.make-told.ensures.rule c.loop-letter.invariant c.in_ok-put_call.ensures.text
    (c.in_ok-put_call.ensures.bound c.make-told.ensures.bound)

pub returns-clause-text : goal.returns-clause-text
returns-clause-text g c =
    walk_ends _ c.args.script.now _ c.loop-letter.walk _ _ _ _ _ _ c.loop-letter-test.false c.loop-letter.invariant c.put_state.ensures.text

pub returns-clause-bound : goal.returns-clause-bound
returns-clause-bound g c =
    on_ok _ (walk_short _ c.args.script.now _ c.loop-letter.walk _ _ _ _ c.loop-letter-test.false c.loop-letter.auto.letter-index-end c.loop-letter.invariant c.put_state.ensures.bound)
