-- A walk from a state on: any mix of the four calls, each with the same bytes and the state that the call before returned,
-- with the matches that were given and the comparisons and tests that were made, in each direction. Executable.
-- Assumes nothing.
use Rattle.std.specs.Prelude.{ℕ, ◌+◌, List, [], ◌∷◌, ◌++◌, length}
use Rattle.std.specs.Prelude.{Option, None, Some}
use Rattle.limits.specs.Said.{Said, refused, given}
use Rattle.searcher.specs.Walk.{StepTerm, match, reject, done, new_rule, next_rule, next_back_rule, next_match_rule, next_match_back_rule}
use Rattle.searcher.specs.declared.TwoWaySearcher.{TwoWaySearcher}
use Rattle.record.specs.declared.Counts.{Counts}
use Rattle.record.specs.declared.Mode.{Mode}

-- the four calls
pub data Call : Type 0 where
  next : Call
  next_back : Call
  next_match : Call
  next_match_back : Call

-- what the calls of one direction have given, as the starts of their matches in the order given, and made
pub record Made : Type 0 where
  pub matches : List ℕ
  pub comparisons : ℕ
  pub tests : ℕ

pub record History : Type 0 where
  pub walk : TwoWaySearcher
  pub forward : Made
  pub backward : Made

abbrev pub step_matches : Said StepTerm → List ℕ
step_matches (given (match a b)) = a ∷ []
step_matches (given (reject a b)) = []
step_matches (given done) = []
step_matches (refused number) = []

abbrev pub next_matches : Said (Option (ℕ × ℕ)) → List ℕ
next_matches (given (Some (a, b))) = a ∷ []
next_matches (given None) = []
next_matches (refused number) = []

abbrev pub nothing_made : Made
nothing_made = record { matches = []; comparisons = 0; tests = 0 }

-- one more call of a direction
abbrev pub and_made : Made → List ℕ → Counts → Made
and_made d matches counts =
    record { matches = d.matches ++ matches; comparisons = d.comparisons + counts.comparisons; tests = d.tests + counts.tests }

module _ (needle haystack : List ℕ) where
  -- one call, with the state that the one before returned
  unfoldable pub called : Call → History → History
  called next h =
      let r = next_rule needle haystack h.walk in
      record { walk = r.walk; forward = and_made h.forward (step_matches r.answer) r.counts; backward = h.backward }
  called next_back h =
      let r = next_back_rule needle haystack h.walk in
      record { walk = r.walk; forward = h.forward; backward = and_made h.backward (step_matches r.answer) r.counts }
  called next_match h =
      let r = next_match_rule needle haystack h.walk in
      record { walk = r.walk; forward = and_made h.forward (next_matches r.answer) r.counts; backward = h.backward }
  called next_match_back h =
      let r = next_match_back_rule needle haystack h.walk in
      record { walk = r.walk; forward = h.forward; backward = and_made h.backward (next_matches r.answer) r.counts }

  -- the history of calls from a state on; the latest call stands first in the list
  unfoldable pub after : TwoWaySearcher → List Call → History
  after start [] = record { walk = start; forward = nothing_made; backward = nothing_made }
  after start (call ∷ earlier) = called call (after start earlier)

  -- "states reached from preparation with the same bytes", in a mode
  abbrev pub reached : Mode → List Call → History
  reached mode calls = after (new_rule needle (length haystack) mode).walk calls
