-- That what a step's answer says loses nothing; `said_loses_nothing` of limits is that of the other answers.
-- Assumes nothing.
use mathlib.Core.Path.{◌≡◌, refl, ap}
use Rattle.std.specs.Prelude.{Result, Ok, Err}
use Rattle.limits.specs.Said.{Said, refused, given, LosesNothing}
use Rattle.limits.specs.declared.Refusal.{Refusal}
use Rattle.limits.proofs.Said.{by_way_back, refusal_of, refusal_again}
use Rattle.searcher.specs.declared.Step.{Step}
use Rattle.searcher.specs.Walk.{StepTerm, match, reject, done, step_said}

pub step_loses_nothing : LosesNothing step_said
step_loses_nothing = by_way_back step_said back_to again
  where
    back_to : Said StepTerm → Result Step Refusal
    back_to (given (match a b)) = Ok (Step.Match a b)
    back_to (given (reject a b)) = Ok (Step.Reject a b)
    back_to (given done) = Ok Step.Done
    back_to (refused number) = Err (refusal_of number)

    again : (a : Result Step Refusal) → back_to (step_said a) ≡ a
    again (Ok (Step.Match a b)) = refl
    again (Ok (Step.Reject a b)) = refl
    again (Ok Step.Done) = refl
    again (Err why) = ap (λ w. Err w) (refusal_again why)
