-- Answers in text, computed from their definitions: one table under one claim.
-- Assumes nothing.
use Rattle.std.specs.Prelude.{List, [], ◌∷◌, Some, codes, T}
use Rattle.std.specs.Fmt.{digits}
use Rattle.words.specs.Examples.{Example, same, all_as_stated}
use Rattle.limits.specs.Said.{given, refused}
use Rattle.limits.specs.declared.Refusal.TheVariants.{StepOverlapping}
use Rattle.record.specs.declared.Counts.{Counts}
use Rattle.walk.specs.Answers.{front_text, suffix_text, reverse_suffix_text, found_text, call_text}
use Rattle.walk.specs.declared.front.Front.TheVariants.{Nothing, Done, At, Match, Reject, Refused}

abbrev pub counts : Counts
counts = record { preparing = 10; comparisons = 6; tests = 0 }

abbrev pub table : List Example
table =
    record { computed = front_text (Match 2 14); stated = codes "match:2:14" }
    ∷ record { computed = front_text (Reject 0 7); stated = codes "reject:0:7" }
    ∷ record { computed = front_text (At 27); stated = codes "at:27" }
    ∷ record { computed = front_text Nothing; stated = codes "none" }
    ∷ record { computed = front_text Done; stated = codes "done" }
    ∷ record { computed = front_text (Refused StepOverlapping); stated = codes "ref:5" }
    ∷ record { computed = suffix_text (given (record { start = 1; period = 2; rounds = 3 })); stated = codes "ok 1 2 3" }
    ∷ record { computed = reverse_suffix_text (refused 2); stated = codes "ref:2" }
    ∷ record { computed = found_text (record { position = given (Some 4); counts = counts }); stated = codes "at:4 10 6 0" }
    ∷ record { computed = call_text (front_text Done) counts; stated = codes " done/6/0" }
    ∷ []

pub examples : T (all_as_stated table)
unfolding all_as_stated same digits
examples = tt
