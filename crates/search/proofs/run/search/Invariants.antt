-- `search::run::search` meets its contract. The loop keeps what Loops.antt says of a search.
-- Assumes nothing.
use Rattle.std.proofs.Common.{◌+◌, ◌-◌, not, eqb, length}
use Rattle.words.specs.Word.{front}
use Rattle.byteset.specs.Fingerprint.{has}
use Rattle.search.proofs.Loops.{Looping}
use Rattle.search.proofs.run.search.Given as goal

abbrev pub invariant-loop-v : goal.invariant-loop-v
invariant-loop-v g l = Looping (not (eqb g.row.BACKWARD 0)) l.stepping (has l.set) l.v (front l.needle) (front l.haystack) l.start l.s l.comparisons l.tests

abbrev pub decreases-loop-v : goal.decreases-loop-v
decreases-loop-v g l = length l.haystack + 1 - l.tests
