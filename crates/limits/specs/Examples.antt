-- Examples of the checks, computed from their definitions: one table under one claim.
-- Assumes nothing.
use Rattle.std.specs.Prelude.{ℕ, Ok, Err, List, [], ◌∷◌, T}
use Rattle.words.specs.Examples.{Example, same, all_as_stated}
use Rattle.limits.specs.Bounds.{haystack_bound, needle_bound}
use Rattle.limits.specs.Refusals.{number_of}
use Rattle.limits.specs.Checks.{Check, lengths}

-- a refusal is written by its number, and 0 says that nothing refuses
abbrev pub answer : Check → ℕ
answer (Ok passed) = 0
answer (Err why) = number_of why

abbrev pub table : List Example
table =
    -- "a needle of 65,536 bytes searched, 65,537 refused 2"
    record { computed = answer (lengths 10 65_536) ∷ answer (lengths 10 65_537) ∷ []; stated = 0 ∷ 2 ∷ [] }
    -- "a haystack of 67,108,864 searched, one more refused 1, also when the needle is too long"
    ∷ record { computed = answer (lengths 67_108_864 10) ∷ answer (lengths 67_108_865 10) ∷ answer (lengths 67_108_865 65_537) ∷ []; stated = 0 ∷ 1 ∷ 1 ∷ [] }
    -- an empty needle is refused for its haystack's length alone
    ∷ record { computed = answer (lengths 67_108_864 0) ∷ answer (lengths 67_108_865 0) ∷ []; stated = 0 ∷ 1 ∷ [] }
    ∷ []

pub examples : T (all_as_stated table)
unfolding all_as_stated same haystack_bound needle_bound lengths
examples = tt
