use Rattle.std.proofs.Common.{◌-◌, ◌∙◌, arith}
use Rattle.words.specs.Word.{front}
use Rattle.search.proofs.Agreeing.{read_other, down_hit, down_all}
use Rattle.search.proofs.letters.agree_down.Goals as goal

pub returns-then-letter : goal.returns-then-letter
returns-then-letter c =
    let a = c.args in
    down_hit (front a.needle.now) (front a.haystack.now) a.at a.from a.to (c.loop-i.i - 1) (omega arith) (omega arith) (λ i lo hi. c.loop-i.invariant i (omega arith) hi)
    (read_other (front a.needle.now) (front a.haystack.now) a.at c.letter.ensures c.letter-in-loop-i.ensures c.if-letter.true)

pub returns : goal.returns
returns c =
    let a = c.args in
    c.saturating_sub.ensures ∙ down_all (front a.needle.now) (front a.haystack.now) a.at a.from a.to (λ i lo hi. c.loop-i.invariant i (omega arith) hi)
