-- The walk of an empty needle, in one direction: 02 [1], after the source's `EmptyNeedle`, over bytes.
-- Each direction counts the bytes that lie ahead of it, so one rule serves both: "backward the mirror".
-- Assumes nothing.
use Rattle.std.specs.Prelude.{ℕ, ◌-◌, Bool, true, false, cond, not, ◌&&◌, eqb}
use Rattle.empty.specs.declared.Side.{Side}
use Rattle.empty.specs.declared.Gives.{Gives}
use Rattle.empty.specs.declared.Gives.TheVariants.{Match, Reject, Nothing}
use Rattle.empty.specs.declared.Turned.{Turned}

abbrev pub gives : Gives → ℕ → Bool → Turned
gives what ahead is_match = record { gives = what; side = record { ahead = ahead; is_match = is_match } }

-- "Match(0,0), Reject(0,1), Match(1,1) up to Match(n,n), then Done"; "Ours stays Done"
unfoldable pub stepped : Side → Turned
stepped s =
    let passed = cond (eqb s.ahead 0) (gives Nothing s.ahead false) (gives Reject (s.ahead - 1) true) in
    cond s.is_match (gives Match s.ahead false) passed

-- whether that was a Reject
abbrev pub rejects : Gives → Bool
rejects Match = false
rejects Reject = true
rejects Nothing = false

-- A next match is "the same without Done and without the middle Reject": where a step would answer Reject, it goes on to the step behind that.
-- (`stepping` is true for a step and false for a next match.)
unfoldable pub turned : Bool → Side → Turned
turned stepping s =
    let r = stepped s in
    cond (rejects r.gives && not stepping) (stepped r.side) r
