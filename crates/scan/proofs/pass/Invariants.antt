-- `scan::pass` meets its contract, in either direction and for every width. The loop's invariant: none of the letters passed is x.
-- Assumes nothing.
use Prim.Native.Nat.{◌-◌}
use mathlib.Core.Bool.{not}
use lib.Dec.{eqb}
use lib.ListN.{length}
use Rattle.scan.proofs.Passes.{Passed}
use Rattle.scan.proofs.pass.Given as goal

abbrev pub invariant-loop-at : goal.invariant-loop-at
invariant-loop-at g l = Passed l.x l.text (not (eqb g.row.BACKWARD 0)) l.at

abbrev pub decreases-loop-at : goal.decreases-loop-at
decreases-loop-at g l = length l.text - l.at
