-- `twoway::search` meets its contract, in either direction: by what the checks came to, and by the pattern's length.
-- Assumes nothing.
use Rattle.std.proofs.Common.{refl, sym}
use native.Mathlib.Omega.{arith}
use borrow.Author.Tests.{eqb-true, eqb-false}
use Rattle.twoway.proofs.Laws.{search_refused, search_empty, search_one, search_longer}
use Rattle.twoway.proofs.search.Goals as goal

pub returns-in-Err : goal.returns-in-Err
returns-in-Err g c = search_refused _ _ _ (grind arith) c.in-Err.ensures refl c.answered.ensures

pub returns-then-is_empty : goal.returns-then-is_empty
returns-then-is_empty g c =
    search_empty _ _ _ (grind arith) c.in_default.ensures refl (eqb-true _ _ (sym c.if-is_empty.ensures)) c.empty_place.ensures c.answered-then-is_empty.ensures

pub returns-then-pattern-eq1 : goal.returns-then-pattern-eq1
returns-then-pattern-eq1 g c =
    search_one _ _ _ (grind arith) c.in_default.ensures refl (eqb-false _ _ (sym c.if-is_empty.ensures)) c.if-pattern-eq1.true c.scan_for.ensures c.by_scan.ensures

pub returns : goal.returns
returns g c =
    search_longer _ _ _ (grind arith) c.in_default.ensures refl (eqb-false _ _ (sym c.if-is_empty.ensures)) c.if-pattern-eq1.false c.new-p.ensures.rule c.first_match.ensures
    c.by_walk.ensures
