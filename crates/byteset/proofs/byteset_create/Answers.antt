use mathlib.Core.Path.{refl}
use native.Mathlib.Omega.{arith}
use Rattle.byteset.proofs.Laws.{created}
use Rattle.byteset.proofs.byteset_create.Goals as goal

pub returns : goal.returns
returns c =
    let e = created c.args.bytes.now {i = c.loop-byte.byte-index} c.loop-byte.invariant (omega arith) refl in
    record { set = e.0; never_no = e.1 }
