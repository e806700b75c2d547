-- `suffix::pass` meets its contract. The loop keeps what Loop.antt says of the word, read from either end.
-- Assumes nothing.
use Prim.Native.Nat.{◌*◌, ◌-◌}
use mathlib.Core.Bool.{cond, not}
use lib.Dec.{eqb}
use lib.ListN.{length}
use Rattle.words.specs.Word.{front, back}
use Rattle.suffix.proofs.Steps.{potential}
use Rattle.suffix.proofs.Loop.{Looping}
use Rattle.suffix.proofs.pass.Given as goal

abbrev pub invariant-loop-s : goal.invariant-loop-s
invariant-loop-s g l = Looping l.order_greater (cond (not (eqb g.row.BACKWARD 0)) (back l.arr) (front l.arr)) (length l.arr) l.known l.s l.rounds

abbrev pub decreases-loop-s : goal.decreases-loop-s
decreases-loop-s g l = 2 * length l.arr - potential l.s
