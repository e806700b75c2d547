use Rattle.std.proofs.Common.{arith}
use Rattle.words.specs.Word.{front}
use Rattle.search.proofs.Agreeing.{read_other, up_hit, up_all}
use Rattle.search.proofs.letters.first_up.Goals as goal

pub returns-then-letter-clause-rule : goal.returns-then-letter-clause-rule
returns-then-letter-clause-rule c =
    let a = c.args in
    up_hit (front a.needle.now) (front a.haystack.now) a.at a.from a.to c.loop-i.i (omega arith) (omega arith) c.loop-i.invariant
    (read_other (front a.needle.now) (front a.haystack.now) a.at c.letter.ensures c.letter-in-loop-i.ensures c.if-letter.true)

pub returns-clause-rule : goal.returns-clause-rule
returns-clause-rule c =
    let a = c.args in
    up_all (front a.needle.now) (front a.haystack.now) a.at a.from a.to (omega arith) (λ i lo hi. c.loop-i.invariant i lo (omega arith))
