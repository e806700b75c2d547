-- `states::put_state` meets its contract.
-- Assumes nothing.
use native.Mathlib.Omega.{arith}
use Rattle.std.proofs.Common.{rules}
use Rattle.printing.proofs.Laws.{prints_in_room}
use Rattle.states.proofs.Laws.{WalkFits, two_way_size, empty_size}
use Rattle.states.proofs.put_state.Goals as goal

pub returns-then-flags-clause-in_room : goal.returns-then-flags-clause-in_room
returns-then-flags-clause-in_room c =
    let w = c.args.w in
    let fits : WalkFits w w.moving.memory = (search rules, search rules, search rules) in
    let size = empty_size w w.moving.memory c.flags_of-flags.result.is_match_fw c.flags_of-flags.result.is_match_bw fits in
    prints_in_room _ _ _ _ _ _ c.put_empty.ensures (omega (arith, size))

pub returns-clause-in_room : goal.returns-clause-in_room
returns-clause-in_room c =
    let w = c.args.w in
    let fits : WalkFits w w.moving.memory = (search rules, search rules, search rules) in
    prints_in_room _ _ _ _ _ _ c.put_two_way.ensures (omega (arith, two_way_size w w.moving.memory fits))
