-- A walk taken on in one direction, by a step or to the next match: 01's "One forward step" and "One backward step" on the record, and 02's [1], with the checks and the counts.
-- Assumes nothing.
use Rattle.std.specs.Prelude.{ℕ, ◌+◌, ◌-◌, Bool, cond, ◌&&◌, List, length, ◌==◌, Result, Ok, Err}
use Rattle.words.specs.Word.{front}
use Rattle.limits.specs.Checks.{Check, lengths, refuse_if, and_then}
use Rattle.limits.specs.declared.Refusal.{Refusal}
use Rattle.limits.specs.declared.Refusal.TheVariants.{StepOverlapping}
use Rattle.byteset.specs.Fingerprint.{has}
use Rattle.windows.specs.declared.Stop.{Stop}
use Rattle.windows.specs.declared.Searched.{Searched}
use Rattle.windows.specs.Search.{forward_search, backward_search}
use Rattle.empty.specs.Turns.{turned}
use Rattle.empty.specs.declared.Gives.{Gives}
use Rattle.record.specs.declared.Kind.TheVariants.{Empty}
use Rattle.record.specs.declared.Flags.{Flags}
use Rattle.record.specs.declared.Mode.{Mode}
use Rattle.record.specs.declared.Fixed.{Fixed}
use Rattle.record.specs.declared.Moving.{Moving}
use Rattle.record.specs.declared.Counts.{Counts}
use Rattle.record.specs.Fits.{fitting}
use Rattle.record.specs.Kinds.{flags_of, overlaps, forward_plan, backward_plan, forward_cursor, backward_cursor, moved_forward, moved_backward}
use Rattle.search.specs.declared.Ending.{Ending}
use Rattle.search.specs.declared.Walked.{Walked}

-- "A step call in this mode is refused with new number 5" (02 [3])
abbrev pub step_check : Bool → Mode → Check
step_check stepping mode = refuse_if (stepping && overlaps mode) StepOverlapping

-- "Checks run in the order 1, 2, 3, 4, and the first that applies is the answer"; walking no longer makes check 3, and makes number 5 "after check 4" (02 [3])
unfoldable pub refusal : Bool → List ℕ → List ℕ → Fixed → Moving → Check
refusal stepping needle haystack f s =
    and_then (lengths (length haystack) (length needle)) (and_then (fitting needle haystack f s) (step_check stepping f.mode))

-- a call's counts: it prepares nothing
abbrev pub walking : ℕ → ℕ → Counts
walking comparisons tests = record { preparing = 0; comparisons = comparisons; tests = tests }

-- a call that costs nothing, and the walk as it then stands
abbrev pub free : Result Ending Refusal → Moving → Walked
free ending s = record { ending = ending; moving = s; counts = walking 0 0 }

-- how a search ends, with both ends of a match: "Match(a, a+m)"
abbrev pub ending_of : ℕ → Stop → Ending
ending_of m (Stop.Hit k) = Ending.Match k (k + m)
ending_of m Stop.Passed = Ending.Passed
ending_of m Stop.Out = Ending.Out

-- a search in each direction from the record, with room for every window
unfoldable pub forward : Bool → List ℕ → List ℕ → Fixed → Moving → Searched
forward stepping needle haystack f s =
    forward_search (length haystack + 1) stepping (has f.byteset) (forward_plan (length needle) f s.memory) (front needle) (front haystack) s.position (forward_cursor s) 0 0

unfoldable pub backward : Bool → List ℕ → List ℕ → Fixed → Moving → Searched
backward stepping needle haystack f s =
    backward_search (length haystack + 1) stepping (has f.byteset) (backward_plan (length needle) f s.memory) (front needle) (front haystack) s.end (backward_cursor (length needle) s) 0 0

-- what a search is to the call that made it
abbrev pub walked_forward : ℕ → Moving → Searched → Walked
walked_forward m s r =
    record { ending = Ok (ending_of m r.stop); moving = moved_forward s r.cursor; counts = walking r.comparisons r.tests }

abbrev pub walked_backward : ℕ → Moving → Searched → Walked
walked_backward m s r =
    record { ending = Ok (ending_of m r.stop); moving = moved_backward s r.cursor; counts = walking r.comparisons r.tests }

-- "A call that takes a state hands back that same state on a refusal", counts 0
abbrev pub or_walked : Check → Moving → Walked → Walked
or_walked (Ok passed) s otherwise = otherwise
or_walked (Err why) s otherwise = free (Err why) s

-- ---- a two way walk

-- "Done if `position` is n. Else .."; "Next match" is "the same without Done", and goes on past the middle Reject
abbrev pub two_way_forward : Bool → List ℕ → List ℕ → Fixed → Moving → Walked
two_way_forward stepping needle haystack f s =
    let went = walked_forward (length needle) s (forward stepping needle haystack f s) in
    cond (stepping && s.position == length haystack) (free (Ok Ending.Done) s) went

-- "Done if `end` is 0."
abbrev pub two_way_backward : Bool → List ℕ → List ℕ → Fixed → Moving → Walked
two_way_backward stepping needle haystack f s =
    let went = walked_backward (length needle) s (backward stepping needle haystack f s) in
    cond (stepping && s.end == 0) (free (Ok Ending.Done) s) went

-- ---- an empty walk

-- what a side gives, where it stands at `at` after that: "Match(0,0)"
abbrev pub turn_ending : Gives → ℕ → Ending
turn_ending Gives.Match at = Ending.Match at at
turn_ending Gives.Reject at = Ending.Passed
turn_ending Gives.Nothing at = Ending.Done

-- Forward, the bytes ahead are those from `position` on, and backward those before `end`. "Neither direction changes the other's cursor" or flag.
abbrev pub empty_forward : Bool → ℕ → Moving → Flags → Walked
empty_forward stepping n s flags =
    let r = turned stepping (record { ahead = n - s.position; is_match = flags.is_match_fw }) in
    let at = n - r.side.ahead in
    free (Ok (turn_ending r.gives at)) (record { position = at; end = s.end; memory = s.memory; kind = Empty r.side.is_match flags.is_match_bw })

abbrev pub empty_backward : Bool → Moving → Flags → Walked
empty_backward stepping s flags =
    let r = turned stepping (record { ahead = s.end; is_match = flags.is_match_bw }) in
    let at = r.side.ahead in
    free (Ok (turn_ending r.gives at)) (record { position = s.position; end = at; memory = s.memory; kind = Empty flags.is_match_fw r.side.is_match })

-- ---- the calls, by the kind of the walk

abbrev pub forward_by : Flags → Bool → List ℕ → List ℕ → Fixed → Moving → Walked
forward_by flags stepping needle haystack f s = cond flags.empty (empty_forward stepping (length haystack) s flags) (two_way_forward stepping needle haystack f s)

unfoldable pub forward_call : Bool → List ℕ → List ℕ → Fixed → Moving → Walked
forward_call stepping needle haystack f s = or_walked (refusal stepping needle haystack f s) s (forward_by (flags_of s.kind) stepping needle haystack f s)

abbrev pub backward_by : Flags → Bool → List ℕ → List ℕ → Fixed → Moving → Walked
backward_by flags stepping needle haystack f s = cond flags.empty (empty_backward stepping s flags) (two_way_backward stepping needle haystack f s)

unfoldable pub backward_call : Bool → List ℕ → List ℕ → Fixed → Moving → Walked
backward_call stepping needle haystack f s = or_walked (refusal stepping needle haystack f s) s (backward_by (flags_of s.kind) stepping needle haystack f s)
