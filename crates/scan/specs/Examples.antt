-- Examples of the scans, computed from their definitions: one table under one claim.
-- The letters are ASCII: "a" is 97, "c" 99. Assumes nothing.
use Rattle.std.specs.Prelude.{ℕ, List, [], ◌∷◌, T}
use Rattle.std.specs.Prelude.{Option, None, Some}
use Rattle.words.specs.Choice.{first_from}
use Rattle.words.specs.Examples.{Example, banana, same, all_as_stated}
use Rattle.scan.specs.Scanned.{before, scanned, from_front, from_back}
use Rattle.scan.specs.declared.Scan.{Scan}

-- a place is written as the list of it alone, and none as the empty list
abbrev pub written : Option ℕ → List ℕ
written (Some k) = k ∷ []
written None = []

-- the comparisons of a scan, and its place
abbrev pub numbers : Scan → List ℕ
numbers s = s.comparisons ∷ written s.found

abbrev pub table : List Example
table =
    -- 01's "Run": "a" in "banana" is at 1 with 2 comparisons, from the back at 5 with 1; "a" in "" is none with 0
    record { computed = numbers (from_front 97 banana); stated = 2 ∷ 1 ∷ [] }
    ∷ record { computed = numbers (from_back 97 banana); stated = 1 ∷ 5 ∷ [] }
    ∷ record { computed = numbers (from_front 97 []); stated = 0 ∷ [] }
    ∷ record { computed = numbers (from_back 97 []); stated = 0 ∷ [] }
    -- "all n bytes if there is none": "c" in "banana"
    ∷ record { computed = numbers (from_front 99 banana); stated = 6 ∷ [] }
    ∷ record { computed = numbers (from_back 99 banana); stated = 6 ∷ [] }
    ∷ []

pub examples : T (all_as_stated table)
unfolding all_as_stated same scanned before first_from
examples = tt
