-- What the printers make of a few numbers, computed from their definitions: one table under one claim.
-- 35 is `#`, 48 `0`, 58 `:`, 97 `a`, 102 `f`. Assumes nothing.
use Rattle.std.specs.Prelude.{List, [], ◌∷◌, T}
use Rattle.std.proofs.lemmas.List.Edits.{sets}
use Rattle.std.specs.Fmt.{decimal, digits}
use Rattle.words.specs.Examples.{Example, same, all_as_stated}
use Rattle.printing.specs.Printing.{hex_text, spent, form_text}

abbrev pub table : List Example
table =
    -- 0, 27, and both in the form `a#:#` in text
    record { computed = decimal 0; stated = 48 ∷ [] }
    ∷ record { computed = decimal 27; stated = 50 ∷ 55 ∷ [] }
    ∷ record { computed = form_text (97 ∷ 35 ∷ 58 ∷ 35 ∷ []) (0 ∷ 27 ∷ []); stated = 97 ∷ 48 ∷ 58 ∷ 50 ∷ 55 ∷ [] }
    ∷ record { computed = hex_text 255; stated = 48 ∷ 48 ∷ 48 ∷ 48 ∷ 48 ∷ 48 ∷ 48 ∷ 48 ∷ 48 ∷ 48 ∷ 48 ∷ 48 ∷ 48 ∷ 48 ∷ 102 ∷ 102 ∷ [] }
    -- 27 printed into a room of three bytes at 2
    ∷ record { computed = sets (0 ∷ 0 ∷ 0 ∷ []) 2 (decimal 27); stated = 0 ∷ 0 ∷ 50 ∷ [] }
    ∷ []

pub examples : T (all_as_stated table)
unfolding all_as_stated same digits hex_text spent form_text
examples = tt
