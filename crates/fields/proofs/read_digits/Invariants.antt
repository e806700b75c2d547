-- `fields::read_digits` meets its contract. The loop's invariant: what is read from the place on makes the number of the value so far
-- that the whole makes. Assumes nothing.
use Prim.Native.Nat.{◌+◌, ◌-◌}
use mathlib.Core.Path.{◌≡◌}
use lib.ListN.{drop}
use Rattle.fields.specs.Fields.{digits_from}
use Rattle.fields.proofs.read_digits.Given as goal

abbrev pub invariant-loop-at : goal.invariant-loop-at
invariant-loop-at l =
    (l.read.next ≡ l.at)
    × (digits_from l.base (l.from + l.most - l.at) l.read.value l.at (drop l.at l.s) ≡ digits_from l.base l.most 0 l.from (drop l.from l.s))
