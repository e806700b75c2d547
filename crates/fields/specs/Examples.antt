-- What the readers make of a line, computed from their definitions: one table under one claim.
-- 48 is `0`, 78 `N`, 102 `f`, 110 `n`, 111 `o`, 112 `p`. Assumes nothing.
use Rattle.std.specs.Prelude.{ℕ, Bool, List, [], ◌∷◌, ◌++◌, T, Option, Some, None}
use Rattle.words.specs.Examples.{Example, same, all_as_stated}
use Rattle.lines.specs.Examples.{line, answer}
use Rattle.lines.specs.Reading.{skipped}
use Rattle.lines.specs.declared.Read.{Read}
use Rattle.fields.specs.Fields.{either_at, flag_at, digit_of, with_digit, digits_from, number_at, set_at, byte_at, bytes_from, word_bytes, word_at}

-- what was read is written as the list of its value and of the place behind it, and nothing as the empty list
abbrev pub found : Option (Read ℕ) → List ℕ
found (Some r) = r.value ∷ r.next ∷ []
found None = []

-- the same of a flag, a number for its value
abbrev pub chosen : Option (Read Bool) → List ℕ
chosen (Some r) = answer r.value ∷ r.next ∷ []
chosen None = []

-- `00000000000000ff`
abbrev pub digits : List ℕ
digits = 48 ∷ 48 ∷ 48 ∷ 48 ∷ 48 ∷ 48 ∷ 48 ∷ 48 ∷ 48 ∷ 48 ∷ 48 ∷ 48 ∷ 48 ∷ 48 ∷ 102 ∷ 102 ∷ []

-- the choice of `n` and `o` at the front of a line
abbrev pub letter : List ℕ → Option (Read Bool)
letter s = either_at s (Some 0) 110 111

-- the line is `-:1 27 0f`
abbrev pub table : List Example
table =
    -- the flag at 2 is a 1; the number at 4 is 27, and there is none at 3; the set of the 16 digits is 255
    record { computed = chosen (flag_at line (Some 2)); stated = 1 ∷ 3 ∷ [] }
    ∷ record { computed = found (number_at line (Some 4)); stated = 27 ∷ 6 ∷ [] }
    ∷ record { computed = found (number_at line (Some 3)); stated = [] }
    ∷ record { computed = found (set_at digits (Some 0)); stated = 255 ∷ 16 ∷ [] }
    -- `0ff` is no set; its digits are 255, and end at 3
    ∷ record { computed = found (set_at (48 ∷ 102 ∷ 102 ∷ []) (Some 0)); stated = [] }
    ∷ record { computed = found (Some (digits_from 16 16 0 0 (48 ∷ 102 ∷ 102 ∷ []))); stated = 255 ∷ 3 ∷ [] }
    -- of two letters the first is read, and the second; another, a capital and nothing are not
    ∷ record { computed = chosen (letter (110 ∷ [])); stated = 0 ∷ 1 ∷ [] }
    ∷ record { computed = chosen (letter (111 ∷ [])); stated = 1 ∷ 1 ∷ [] }
    ∷ record { computed = chosen (letter (112 ∷ [])) ++ chosen (letter (78 ∷ [])) ++ chosen (letter []); stated = [] }
    -- the word at 7 is the byte 15, the one at 0 is empty, and there is none at 1
    ∷ record { computed = found (word_at 4 line (Some 7)); stated = 1 ∷ 9 ∷ [] }
    ∷ record { computed = word_bytes 4 line (Some 7); stated = 15 ∷ [] }
    ∷ record { computed = found (word_at 4 line (Some 0)); stated = 0 ∷ 1 ∷ [] }
    ∷ record { computed = found (word_at 4 line (Some 1)); stated = [] }
    ∷ []

pub examples : T (all_as_stated table)
unfolding all_as_stated same skipped either_at digit_of with_digit digits_from number_at set_at byte_at bytes_from word_bytes word_at
examples = tt
