-- `scan::without` meets its contract. The loop's invariant: what it says so far is right of the bytes that it has looked at.
-- Assumes nothing.
use mathlib.Core.Path.{◌≡◌}
use mathlib.Core.Bool.{not}
use lib.Dec.{eqb}
use lib.ListN.{take}
use Rattle.std.specs.List.{list_all}
use Rattle.scan.proofs.without.Given as goal

abbrev pub invariant-loop-byte : goal.invariant-loop-byte
invariant-loop-byte l = l.clear ≡ list_all (λ y. not (eqb y l.x)) (take l.byte-index l.bytes)
