-- Words. Everything about searching is said over words, so that one theory serves both directions:
-- a byte string read from its front is a word, and so is the same string read from its back.
-- Assumes nothing.
use Rattle.std.specs.Prelude.{ℕ, ◌+◌, ◌-◌, List, length, get_or}

-- A word has `size` letters, which are read by index: `letter i` for i below the size.
-- What `letter` gives at an index past the end is no part of the word, and no definition here looks at it.
pub record Word : Type 0 where
  pub size : ℕ
  pub letter : ℕ → ℕ

-- a byte string, read from the front
abbrev pub front : List ℕ → Word
front s = record { size = length s; letter = λ i. get_or s i 0 }

-- a word read from the back: letter i is the one that i letters follow
abbrev pub mirror : Word → Word
mirror x = record { size = x.size; letter = λ i. x.letter (x.size - (1 + i)) }

-- a byte string, read from the back
abbrev pub back : List ℕ → Word
back s = mirror (front s)

-- the suffix of a word that starts at s; from the word's end on it is empty
abbrev pub suffix : Word → ℕ → Word
suffix x s = record { size = x.size - s; letter = λ i. x.letter (s + i) }
