-- When a split of a word is critical: what the search rests on.
-- Assumes nothing.
use Rattle.std.specs.Prelude.{ℕ, ◌+◌, ◌<◌, ◌≤◌, ◌≡◌, Bool, not}
use Rattle.words.specs.Word.{Word}
use Rattle.words.specs.Period.{SmallestPeriod, LocalPeriod}
use Rattle.words.specs.Order.{MaximalSuffix}

-- A split is critical if the local period there is the smallest period ("local_period(u,v) = period(x)").
pub record Critical (x : Word) (c : ℕ) : Type 0 where
  pub local_is : (p : ℕ) → SmallestPeriod x p → LocalPeriod x c p

-- r is the local period at one of the word's splits
pub record LocalSomewhere (x : Word) (r : ℕ) : Type 0 where
  pub split : ℕ
  pub inside : split ≤ x.size
  pub local_is : LocalPeriod x split r

-- c is the later start of the two maximal suffixes: the start in one order, and the start in the other order is not after it
pub record LaterStart (x : Word) (c : ℕ) : Type 0 where
  pub order : Bool
  pub start : MaximalSuffix order x c
  pub other : ℕ
  pub other_start : MaximalSuffix (not order) x other
  pub not_after : other ≤ c

-- the first c letters stand again at q
abbrev pub Again : Word → ℕ → ℕ → Type 0
Again x c q = (i : ℕ) → i < c → x.letter i ≡ x.letter (q + i)
