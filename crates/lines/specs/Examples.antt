-- What stands in a few lines, computed from the definitions: one table under one claim.
-- 32 is a space, 45 `-`, 48 `0`, 58 `:`, 66 `B`, 97 `a`, 102 `f`. Assumes nothing.
use Rattle.std.specs.Prelude.{ℕ, Bool, cond, List, [], ◌∷◌, T, Option, Some, None}
use Rattle.words.specs.Examples.{Example, same, all_as_stated}
use Rattle.lines.specs.Reading.{is_end, first_index, is_script, skipped}

-- `-:1 27 0f`
abbrev pub line : List ℕ
line = 45 ∷ 58 ∷ 49 ∷ 32 ∷ 50 ∷ 55 ∷ 32 ∷ 48 ∷ 102 ∷ []

-- a yes is written 1, a no 0
abbrev pub answer : Bool → ℕ
answer b = cond b 1 0

-- where reading stands is written as the list of it alone, and nowhere as the empty list
abbrev pub place : Option ℕ → List ℕ
place (Some k) = k ∷ []
place None = []

abbrev pub table : List Example
table =
    -- the first colon, and no `b`
    record { computed = first_index 58 line ∷ first_index 98 line ∷ []; stated = 1 ∷ 9 ∷ [] }
    -- `fB` is a script, `fa` and the empty word are none
    ∷ record { computed = answer (is_script (102 ∷ 66 ∷ [])) ∷ answer (is_script (102 ∷ 97 ∷ [])) ∷ answer (is_script []) ∷ []; stated = 1 ∷ 0 ∷ 0 ∷ [] }
    -- the line is read at 9, and not at 8
    ∷ record { computed = answer (is_end 9 (Some 9)) ∷ answer (is_end 9 (Some 8)) ∷ []; stated = 1 ∷ 0 ∷ [] }
    -- `-` is skipped, `:` does not stand at the front
    ∷ record { computed = place (skipped line (Some 0) 45); stated = 1 ∷ [] }
    ∷ record { computed = place (skipped line (Some 0) 58); stated = [] }
    ∷ []

pub examples : T (all_as_stated table)
unfolding all_as_stated same skipped
examples = tt
