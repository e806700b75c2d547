-- Examples of the fingerprint, computed from its definitions: one table under one claim.
-- The letters are ASCII: "a" is 97, "b" 98, "n" 110. Assumes nothing.
use Rattle.std.specs.Prelude.{ℕ, ◌+◌, ◌^◌, cond, List, [], ◌∷◌, T}
use Rattle.words.specs.Examples.{Example, nana, same, all_as_stated}
use Rattle.byteset.specs.Fingerprint.{bit_of, into, fingerprint, has}

-- a yes is written 1, a no 0
abbrev pub answer : ℕ → ℕ → ℕ
answer set b = cond (has set b) 1 0

abbrev pub table : List Example
table =
    -- 01 and 41 hex share bit 1, so that each has the set 2, and so have the two together
    record { computed = bit_of 1 ∷ bit_of 65 ∷ []; stated = 1 ∷ 1 ∷ [] }
    ∷ record { computed = fingerprint (1 ∷ []) ∷ fingerprint (65 ∷ []) ∷ fingerprint (1 ∷ 65 ∷ []) ∷ []; stated = 2 ∷ 2 ∷ 2 ∷ [] }
    -- "nana" sets the bits of "a" and "n"
    ∷ record { computed = bit_of 97 ∷ bit_of 110 ∷ fingerprint nana ∷ []; stated = 33 ∷ 46 ∷ (2 ^ 33 + 2 ^ 46) ∷ [] }
    -- it says yes for "a", falsely for 21 hex, which shares the bit of "a", and no for "b"
    ∷ record { computed = answer (fingerprint nana) 97 ∷ answer (fingerprint nana) 33 ∷ answer (fingerprint nana) 98 ∷ []; stated = 1 ∷ 1 ∷ 0 ∷ [] }
    -- the empty string sets no bit, and its fingerprint says yes for no byte
    ∷ record { computed = fingerprint [] ∷ answer (fingerprint []) 0 ∷ []; stated = 0 ∷ 0 ∷ [] }
    ∷ []

pub examples : T (all_as_stated table)
unfolding all_as_stated same bit_of into fingerprint has
examples = tt
