-- `walk::reply::put_walk` meets its contract. The loop's invariant: the calls that are left, and the state, are still to be written; `ok PREPARING`
-- and 91 bytes at most for each call were.
-- Assumes nothing.
use Prim.Native.Nat.{◌+◌, ◌*◌}
use lib.ListN.{length, drop}
use Rattle.searcher.specs.Walk.{new_rule}
use Rattle.walk.specs.Answers.{walk_text, calls_text}
use Rattle.walk.proofs.Laws.{Begun}
use Rattle.walk.proofs.reply.put_walk.Given as goal

abbrev pub invariant-loop-letter : goal.invariant-loop-letter
invariant-loop-letter g l =
    Begun (walk_text (new_rule l.needle (length l.haystack) l.fn.mode) l.script l.haystack l.needle) (calls_text (drop l.letter-index l.script) l.walk l.haystack l.needle)
    (23 + 91 * l.letter-index) (g.W.Write.contents l.fn.out) (g.W.Write.contents l.out)
