-- Examples of how far two byte strings agree, computed from the definitions: one table under one claim.
-- The letters are ASCII: "a" is 97, "b" 98. Assumes nothing.
use Rattle.std.specs.Prelude.{List, [], ◌∷◌, T}
use Rattle.words.specs.Choice.{first_from}
use Rattle.words.specs.Examples.{Example, aa, aaa, aab, banana, nana, same, all_as_stated}
use Rattle.compare.specs.Agree.{agreeing, agree}

abbrev pub table : List Example
table =
    -- "banana" and "nana" differ in their first letters, "aab" and "aaa" in their third
    record { computed = agree banana nana ∷ agree aab aaa ∷ []; stated = 0 ∷ 2 ∷ [] }
    -- where one word is a part of the other, the shorter one decides, on either side
    ∷ record { computed = agree aa aab ∷ agree aab aa ∷ []; stated = 2 ∷ 2 ∷ [] }
    -- what stands behind a difference is not counted: "aab" and `bab`
    ∷ record { computed = agree aab (98 ∷ 97 ∷ 98 ∷ []) ∷ []; stated = 0 ∷ [] }
    -- the empty string agrees with every other in no letter
    ∷ record { computed = agree [] aab ∷ agree [] [] ∷ []; stated = 0 ∷ 0 ∷ [] }
    ∷ []

pub examples : T (all_as_stated table)
unfolding all_as_stated same first_from agreeing agree
examples = tt
