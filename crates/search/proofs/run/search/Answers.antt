use Rattle.words.specs.Word.{front}
use Rattle.std.proofs.Common.{refl, arith}
use Rattle.search.proofs.Loops.{part_passed, no_part_passed, loop_out, loop_passed, loop_hit, loop_next, few_comparisons, window_keeps}
use Rattle.search.proofs.run.search.Goals as goal

pub returns-then-s-start-clause-rule : goal.returns-then-s-start-clause-rule
returns-then-s-start-clause-rule g c =
    loop_passed c.loop-v.invariant c.loop-v-test.ensures.rule (part_passed _ _ _ c.if-stepping.true c.if-s-start.true) c.ended.ensures

-- the window's move pays for its comparisons
pub overflow_add-comparisons : goal.overflow_add-comparisons
overflow_add-comparisons g c =
    let keeps = c.loop-v.invariant.keeps in
    let room = c.loop-v-test.ensures.room refl in
    record {
      fits = few_comparisons
          (window_keeps _ _ (front c.args.needle.now) (front c.args.haystack.now) c.requires room keeps c.window-w.ensures)
          (omega arith)
          c.requires.small;
    }

pub returns-then-w-clause-rule : goal.returns-then-w-clause-rule
returns-then-w-clause-rule g c =
    loop_hit c.loop-v.invariant c.loop-v-test.ensures.rule c.window-w.ensures (no_part_passed _ _ _ c.else-stepping.either) c.window_at-place.ensures.rule c.if-w.true c.ended-then-w.ensures (grind arith)

pub loop-v-preserved : goal.loop-v-preserved
loop-v-preserved g c =
    loop_next c.loop-v.invariant c.loop-v-test.ensures.rule c.window-w.ensures (no_part_passed _ _ _ c.else-stepping.either) c.if-w.false
    (window_keeps _ _ (front c.args.needle.now) (front c.args.haystack.now) c.requires (c.loop-v-test.ensures.room refl) c.loop-v.invariant.keeps c.window-w.ensures)

pub returns-clause-rule : goal.returns-clause-rule
returns-clause-rule g c = loop_out c.loop-v.invariant c.loop-v-test.ensures.rule c.far_end.ensures c.ended-2.ensures
