-- Preparing and the four calls of a walk, in 01's terms: what each answers, the next state, and the counts.
-- Assumes nothing.
use Rattle.std.specs.Prelude.{ℕ, true, false, List, Option, None, Some, Result, Ok, Err}
use Rattle.limits.specs.Refusals.{number_of}
use Rattle.limits.specs.Said.{Said, refused, given, said}
use Rattle.limits.specs.declared.Refusal.{Refusal}
use Rattle.prepare.specs.Prepare.{PartsTold, prepare_rule, NoState}
use Rattle.record.specs.declared.Counts.{Counts}
use Rattle.record.specs.declared.Fixed.{Fixed}
use Rattle.record.specs.declared.Mode.{Mode}
use Rattle.search.specs.Calls.{forward_call, backward_call}
use Rattle.search.specs.declared.Ending.{Ending}
use Rattle.search.specs.declared.Walked.{Walked}
use Rattle.searcher.specs.declared.TwoWaySearcher.{TwoWaySearcher}
use Rattle.searcher.specs.declared.Called.{Called}
use Rattle.searcher.specs.declared.Step.{Step}

-- ---- 01's terms

-- a step: "Match(a, a+m)", "Reject(old, position)", "Done"
pub data StepTerm : Type 0 where
  match : ℕ → ℕ → StepTerm
  reject : ℕ → ℕ → StepTerm
  done : StepTerm

-- what a step's answer says
abbrev pub step_said : Result Step Refusal → Said StepTerm
step_said (Ok (Step.Match a b)) = given (match a b)
step_said (Ok (Step.Reject a b)) = given (reject a b)
step_said (Ok Step.Done) = given done
step_said (Err why) = refused (number_of why)

-- what a call tells: its answer, the next state, and the counts
pub record CallTold (A : Type 0) : Type 0 where
  pub answer : Said A
  pub walk : TwoWaySearcher
  pub counts : Counts

-- of preparing, and of a next match, which gives both ends of the match, or none
abbrev pub told : {A : Type 0} → Called A → CallTold A
told r = record { answer = said r.answer; walk = r.walk; counts = r.counts }

-- of a step
abbrev pub stepped_told : Called Step → CallTold StepTerm
stepped_told r = record { answer = step_said r.answer; walk = r.walk; counts = r.counts }

-- ---- the calls

-- preparing: the record of its parts
abbrev pub of_parts : PartsTold → CallTold (Unit {0})
of_parts r = record { answer = r.answer; walk = record { fixed = r.fixed; moving = r.moving }; counts = r.counts }

abbrev pub new_rule : List ℕ → ℕ → Mode → CallTold (Unit {0})
new_rule needle n mode = of_parts (prepare_rule needle n mode)

-- "refused, it gives no state": what is handed back then fits no needle and no haystack
abbrev pub NoWalk : CallTold (Unit {0}) → Type 0
NoWalk r = NoState (record { answer = r.answer; fixed = r.walk.fixed; moving = r.walk.moving; counts = r.counts })

-- what a call is to a step: "Match(a, a+m)", "Done", or a Reject from `low` to `high`
abbrev pub step_answer : Result Ending Refusal → ℕ → ℕ → Said StepTerm
step_answer (Ok Ending.Done) low high = given done
step_answer (Ok (Ending.Match a b)) low high = given (match a b)
step_answer (Ok Ending.Passed) low high = given (reject low high)
step_answer (Ok Ending.Out) low high = given (reject low high)
step_answer (Err why) low high = refused (number_of why)

-- and to a next match: "without Done and without the middle Reject, answering none instead of the last Reject"
abbrev pub match_answer : Result Ending Refusal → Said (Option (ℕ × ℕ))
match_answer (Ok Ending.Done) = given None
match_answer (Ok (Ending.Match a b)) = given (Some (a, b))
match_answer (Ok Ending.Passed) = given None
match_answer (Ok Ending.Out) = given None
match_answer (Err why) = refused (number_of why)

-- either as it is handed back, with what preparing fixed
abbrev pub step_of : Fixed → Walked → ℕ → ℕ → CallTold StepTerm
step_of f called low high =
    record { answer = step_answer called.ending low high; walk = record { fixed = f; moving = called.moving }; counts = called.counts }

abbrev pub match_of : Fixed → Walked → CallTold (Option (ℕ × ℕ))
match_of f called =
    record { answer = match_answer called.ending; walk = record { fixed = f; moving = called.moving }; counts = called.counts }

-- and what the code hands back, of an answer
abbrev pub called_of : {A : Type 0} → Fixed → Walked → Result A Refusal → Called A
called_of f called answer = record { answer = answer; walk = record { fixed = f; moving = called.moving }; counts = called.counts }

-- one step forward: a Reject is "Reject(old, position)"
abbrev pub next_rule : List ℕ → List ℕ → TwoWaySearcher → CallTold StepTerm
next_rule needle haystack s =
    let called = forward_call true needle haystack s.fixed s.moving in
    step_of s.fixed called s.moving.position called.moving.position

-- one step backward: a Reject is "Reject(end, old)"
abbrev pub next_back_rule : List ℕ → List ℕ → TwoWaySearcher → CallTold StepTerm
next_back_rule needle haystack s =
    let called = backward_call true needle haystack s.fixed s.moving in
    step_of s.fixed called called.moving.end s.moving.end

-- the next match, forward and backward
abbrev pub next_match_rule : List ℕ → List ℕ → TwoWaySearcher → CallTold (Option (ℕ × ℕ))
next_match_rule needle haystack s = match_of s.fixed (forward_call false needle haystack s.fixed s.moving)

abbrev pub next_match_back_rule : List ℕ → List ℕ → TwoWaySearcher → CallTold (Option (ℕ × ℕ))
next_match_back_rule needle haystack s = match_of s.fixed (backward_call false needle haystack s.fixed s.moving)
