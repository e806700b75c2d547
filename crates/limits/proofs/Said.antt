-- What a definition of "what is said" has to show to lose nothing: a way back. The way back of the refusals' numbers.
-- Assumes nothing.
use Prim.Native.Nat.{ℕ}
use mathlib.Core.Path.{◌≡◌, refl, sym, ◌∙◌, ap}
use mathlib.Core.Bool.{cond}
use lib.Dec.{eqb}
use Rattle.limits.specs.Refusals.{number_of}
use Rattle.std.specs.Prelude.{Result, Ok, Err}
use Rattle.limits.specs.Said.{Said, refused, given, said, LosesNothing}
use Rattle.limits.specs.declared.Refusal.{Refusal}
use Rattle.limits.specs.declared.Refusal.TheVariants.{HaystackTooLong, NeedleTooLong, EmptyNeedle, StateDoesNotFit, StepOverlapping}

pub by_way_back : {A B : Type 0} (says : A → B) (back : B → A) → ((a : A) → back (says a) ≡ a) → LosesNothing says
by_way_back says back again a b e = sym (again a) ∙ ap back e ∙ again b

abbrev pub refusal_of : ℕ → Refusal
refusal_of k = cond (eqb k 1) HaystackTooLong (cond (eqb k 2) NeedleTooLong (cond (eqb k 3) EmptyNeedle (cond (eqb k 4) StateDoesNotFit StepOverlapping)))

pub refusal_again : (why : Refusal) → refusal_of (number_of why) ≡ why
refusal_again HaystackTooLong = refl
refusal_again NeedleTooLong = refl
refusal_again EmptyNeedle = refl
refusal_again StateDoesNotFit = refl
refusal_again StepOverlapping = refl

pub number_loses_nothing : LosesNothing number_of
number_loses_nothing = by_way_back number_of refusal_of refusal_again

-- what an answer says loses nothing, whatever it gives
pub said_loses_nothing : {A : Type 0} → LosesNothing (said {A = A})
said_loses_nothing {A} = by_way_back said back again
  where
    back : Said A → Result A Refusal
    back (given a) = Ok a
    back (refused number) = Err (refusal_of number)

    again : (r : Result A Refusal) → back (said r) ≡ r
    again (Ok a) = refl
    again (Err why) = ap (λ w. Err w) (refusal_again why)
