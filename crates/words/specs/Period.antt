-- Periods of a word, and the local period at a split, as 01's "Words about words" has them.
-- Assumes nothing.
use Rattle.std.specs.Prelude.{ℕ, ◌+◌, ◌-◌, ◌<◌, ◌≤◌, ◌≡◌, Bool, ◌&&◌, ◌||◌, leb, ltb, eqb}
use Rattle.words.specs.Word.{Word}
use Rattle.words.specs.Choice.{Least, every, least}

-- "A period of a nonempty word x is a number r, 0 < r <= |x|, with x[i] = x[i+r] wherever both exist."
pub record Period (x : Word) (r : ℕ) : Type 0 where
  pub positive : 0 < r
  pub within : r ≤ x.size
  pub repeats : (i j : ℕ) → j ≡ i + r → j < x.size → x.letter i ≡ x.letter j

-- the smallest period
abbrev pub SmallestPeriod : Word → ℕ → Type 0
SmallestPeriod x = Least (Period x)

unfoldable pub periodb : Word → ℕ → Bool
periodb x r = ltb 0 r && leb r x.size && every (x.size - r) (λ i. eqb (x.letter i) (x.letter (i + r)))

-- the smallest period of a word that is not empty, computed
unfoldable pub smallest_period : Word → ℕ
smallest_period x = least (x.size + 1) (periodb x)

-- "The local period at a split |u| is the least positive r with x[i] = x[i+r] for each i from |u|-r to |u|-1 for which" 0 <= i and i+r < |x|. 02 [4]: "Index 0 counts".
-- So the word repeats at the distance r across the split c: a letter before c equals the one r places after it, wherever that one stands in the word at c or after it.
pub record LocalRepeat (x : Word) (c r : ℕ) : Type 0 where
  pub positive : 0 < r
  pub repeats : (i j : ℕ) → i < c → c ≤ j → j ≡ i + r → j < x.size → x.letter i ≡ x.letter j

-- the local period at the split c
abbrev pub LocalPeriod : Word → ℕ → ℕ → Type 0
LocalPeriod x c = Least (LocalRepeat x c)

unfoldable pub local_repeatb : Word → ℕ → ℕ → Bool
local_repeatb x c r = ltb 0 r && every c (λ i. ltb (i + r) c || leb x.size (i + r) || eqb (x.letter i) (x.letter (i + r)))

-- the local period, computed: nothing is asked of a distance that is the size or above it
unfoldable pub local_period : Word → ℕ → ℕ
local_period x c = least (x.size + 2) (local_repeatb x c)
