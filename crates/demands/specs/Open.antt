-- The places that are still open to each direction of a walk: where the matches start that it has still to give.
-- Assumes nothing.
use Rattle.std.specs.Prelude.{ℕ, ◌+◌, ◌-◌, Bool, cond, not, ◌&&◌}
use Rattle.record.specs.declared.Moving.{Moving}
use Rattle.record.specs.Kinds.{flags_of}

-- An empty walk whose next thing is no Match has given the one at its cursor. A two way walk's cursor has passed its matches.
abbrev pub given_here : Moving → Bool
given_here s = (flags_of s.kind).empty && not (flags_of s.kind).is_match_fw

abbrev pub given_here_back : Moving → Bool
given_here_back s = (flags_of s.kind).empty && not (flags_of s.kind).is_match_bw

-- Forward, those from this place on,
abbrev pub open_from : Moving → ℕ
open_from s = cond (given_here s) (s.position + 1) s.position

-- and backward, for a needle of m bytes, those below this place: such a match ends at `end` or before it.
abbrev pub open_below : ℕ → Moving → ℕ
open_below m s = cond (given_here_back s) (s.end - m) (s.end + 1 - m)
