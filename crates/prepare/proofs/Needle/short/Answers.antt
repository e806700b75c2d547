-- `prepare::Needle::short` meets its contract: with a period of the needle known, the reverse starts are within the needle.
-- Assumes nothing.
use native.Mathlib.Omega.{arith}
use Rattle.prepare.proofs.Ways.{later_in, reverse_both_fit, counted_fit, short_is}
use Rattle.prepare.proofs.Needle.short.Goals as goal

pub overflow_sub-fixed : goal.overflow_sub-fixed
overflow_sub-fixed c = later_in _ _ c.requires.0 c.args.self.within c.reverse_maximal-lower.ensures c.reverse_maximal-higher.ensures c.larger-later.ensures

pub overflow_add-lower : goal.overflow_add-lower
overflow_add-lower c = reverse_both_fit _ _ c.requires.0 c.args.self.within c.reverse_maximal-lower.ensures c.reverse_maximal-higher.ensures

pub overflow_add-before : goal.overflow_add-before
overflow_add-before c = counted_fit _ _ c.requires.0 c.args.self.within c.reverse_maximal-lower.ensures c.reverse_maximal-higher.ensures _ c.requires.1

pub returns : goal.returns
returns c =
    short_is _ _ c.requires.0 c.args.self.within c.reverse_maximal-lower.ensures c.reverse_maximal-higher.ensures _ _ _ _ c.prepared.ensures c.larger-later.ensures c.byteset_create.ensures.set (grind arith)
