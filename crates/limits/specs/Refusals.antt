-- The numbers of 01's table "Refusal numbers".
-- Assumes nothing.
use Rattle.std.specs.Prelude.{ℕ}
use Rattle.limits.specs.declared.Refusal.{Refusal}
use Rattle.limits.specs.declared.Refusal.TheVariants.{HaystackTooLong, NeedleTooLong, EmptyNeedle, StateDoesNotFit, StepOverlapping}

-- 1: the haystack is over its bound. 2: the needle is over its bound. 4: a handed-in state doesn't fit.
-- 3 was "preparing or walking with an empty needle": "Preparing and walking no longer give refusal 3" (02 [1]), and no call gives it now.
-- 5: "A step call in this mode is refused with new number 5" (02 [3]), the overlapping one.
abbrev pub number_of : Refusal → ℕ
number_of HaystackTooLong = 1
number_of NeedleTooLong = 2
number_of EmptyNeedle = 3
number_of StateDoesNotFit = 4
number_of StepOverlapping = 5
