-- `search::walk` meets its contract.
-- Assumes nothing.
use Rattle.search.proofs.Calls.{refused, position_in, went_empty, two_way_start, went_two_way}
use Rattle.search.proofs.walk.Goals as goal

pub returns-in-Err : goal.returns-in-Err
returns-in-Err g c = refused _ _ _ _ _ _ c.in-Err.ensures c.free.ensures

pub turn-requires : goal.turn-requires
turn-requires g c = position_in _ _ _ _ _ c.in_default.ensures

pub returns-then-flags : goal.returns-then-flags
returns-then-flags g c = went_empty _ _ _ _ _ _ c.in_default.ensures c.flags_of-flags.ensures c.if-flags.true c.turn.ensures

pub two_way-requires : goal.two_way-requires
two_way-requires g c = two_way_start _ _ _ _ _ c.in_default.ensures c.flags_of-flags.ensures c.if-flags.false

pub returns : goal.returns
returns g c = went_two_way _ _ _ _ _ _ c.in_default.ensures c.flags_of-flags.ensures c.if-flags.false c.two_way.ensures
