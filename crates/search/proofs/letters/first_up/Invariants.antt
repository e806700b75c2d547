-- `search::letters::first_up` meets its contract: the letters passed agree.
-- Assumes nothing.
use Rattle.words.specs.Word.{front}
use Rattle.search.proofs.Agreeing.{Agrees}
use Rattle.search.proofs.letters.first_up.Given as goal

abbrev pub invariant-loop-i : goal.invariant-loop-i
invariant-loop-i l = Agrees (front l.needle) (front l.haystack) l.at l.from l.i
