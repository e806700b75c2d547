-- `lines::until` meets its contract: what `position` answers is the place of the first byte that passes. Assumes nothing.
use Rattle.std.proofs.Common.{◌≡◌, eqb, ap, ◌∙◌, length, rules}
use Rattle.std.proofs.lemmas.Iterator.{YieldsList-from_slice}
use Rattle.std.proofs.lemmas.Iterator.Search.{position_from_yields_List}
use Rattle.std.specs.List.{position}
use Rattle.std.specs.Option.{unwrap_or}
use borrow.Author.Tests.{tests}
use Rattle.lines.proofs.until.Goals as goal

pub returns-clause-rule : goal.returns-clause-rule
returns-clause-rule c =
    let s = c.args.s.now in
    let found : c.position.result ≡ position (λ x. eqb x c.args.b) s =
    position_from_yields_List (λ x. eqb x c.args.b) _ _ c.position.result c.position.ensures.ran (YieldsList-from_slice _ c.iter.ensures.rest) (λ x b q k. search (rules, tests))
    in
    c.unwrap_or.ensures ∙ ap (λ o. unwrap_or o (length s)) found
