-- How far two byte strings agree: what 01's "left to right, stopping at the first difference" counts.
-- Assumes nothing.
use Rattle.std.specs.Prelude.{ℕ, min, not, List, eqb}
use Rattle.words.specs.Word.{Word, front}
use Rattle.words.specs.Choice.{least}

-- the number of letters before the first difference, or of the shorter word where there is none
unfoldable pub agreeing : Word → Word → ℕ
agreeing u v = least (min u.size v.size) (λ i. not (eqb (u.letter i) (v.letter i)))

-- "left to right": both strings are read from the front
unfoldable pub agree : List ℕ → List ℕ → ℕ
agree left right = agreeing (front left) (front right)
