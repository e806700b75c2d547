-- `byteset::byteset_create` meets its contract. The loop's invariant: the set holds what the bytes passed put into it.
-- Assumes nothing.
use mathlib.Core.Path.{◌≡◌}
use lib.ListN.{take}
use Rattle.byteset.proofs.Laws.{folded}
use Rattle.byteset.proofs.byteset_create.Given as goal

abbrev pub invariant-loop-byte : goal.invariant-loop-byte
invariant-loop-byte l = l.byteset ≡ folded 0 (take l.byte-index l.bytes)
