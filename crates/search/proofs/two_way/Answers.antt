-- `search::two_way` meets its contract.
-- Assumes nothing.
use Rattle.std.proofs.Common.{arith}
use Rattle.search.proofs.Calls.{search_start, walked}
use Rattle.search.proofs.two_way.Goals as goal

pub search-r-requires : goal.search-r-requires
search-r-requires g c = search_start _ _ _ _ c.requires _ c.plan-v.ensures c.cursor-start.ensures

pub returns : goal.returns
returns g c =
    walked _ _ _ _ c.requires _ c.plan-v.ensures c.cursor-start.ensures _ c.search-r.ensures.rule c.far_end-end.ensures c.else-stepping.either c.ending_of.ensures c.moved.ensures (omega arith) (grind arith)
