-- `scan::scanned` meets its contract, in either direction: what it passes ends at the first x of the text, or at its end.
-- Assumes nothing.
use native.Mathlib.Omega.{arith}
use mathlib.Core.Bool.{not}
use lib.Dec.{eqb}
use Rattle.scan.proofs.Laws.{hit, miss}
use Rattle.scan.proofs.scanned.Goals as goal

pub returns-then-passed-text : goal.returns-then-passed-text
returns-then-passed-text g c = hit c.args.x c.args.text.now (not (eqb g.row.BACKWARD 0)) {k = c.pass-passed.result} (omega arith) (omega arith) (omega arith) (grind arith) (grind arith)

pub returns : goal.returns
returns g c = miss c.args.x c.args.text.now (not (eqb g.row.BACKWARD 0)) (omega arith) (omega arith)
