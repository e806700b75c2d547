-- `printing::put_form` meets its contract. The loop's invariant: the place is within the room, and what is left of the form, printed there, leaves the room that the whole form leaves.
-- Assumes nothing.
use Prim.Native.Nat.{◌≤◌}
use lib.ListN.{length, drop}
use Rattle.std.specs.Slice.Iter.{iter_rest}
use Rattle.printing.specs.Printing.{form_text}
use Rattle.printing.proofs.Laws.{Same}
use Rattle.printing.proofs.put_form.Given as goal

abbrev pub invariant-loop-b : goal.invariant-loop-b
invariant-loop-b l = record {
  within : l.at ≤ length l.out;
  shown : Same l.out l.at (form_text (drop l.b-index l.form) (iter_rest l.left)) l.initial.out l.start (form_text l.form l.numbers);
}
