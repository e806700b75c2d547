-- `printing::put` meets its contract. Assumes nothing.
use native.Mathlib.Omega.{arith}
use Rattle.printing.proofs.Laws.{prints_fitting}
use Rattle.printing.proofs.put.Goals as goal

pub returns : goal.returns
returns c =
    prints_fitting c.args.out.now c.args.text.now c.copy_from_slice.new.self c.args.at c.min-at.result c.min-fits.result _
    c.min-at.ensures
    c.min-fits.ensures
    (omega arith)
    c.copy_from_slice.ensures.after
