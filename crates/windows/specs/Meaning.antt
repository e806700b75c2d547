-- What a plan must satisfy for the walks that go by it to mean what they should, and what a search answers as a position.
-- Assumes nothing.
use Rattle.std.specs.Prelude.{ℕ, ◌+◌, ◌<◌, ◌≤◌, ◌≡◌, Bool, true}
use Rattle.std.specs.Prelude.{Option, None, Some}
use Rattle.words.specs.Word.{Word}
use Rattle.words.specs.Occurs.{Occurs}
use Rattle.words.specs.Period.{SmallestPeriod}
use Rattle.words.specs.Critical.{Critical}
use Rattle.windows.specs.declared.Plan.{Plan}
use Rattle.windows.specs.declared.Stop.{Stop}

-- The membership test and the plan v guide a forward walk for the needle x: no window passes over an occurrence, and no memory claims a letter falsely.
-- (A backward walk is a forward one for the mirrored needle.)
pub record Guides (has : ℕ → Bool) (v : Plan) (x : Word) : Type 0 where
  -- the membership test may say yes falsely and never no falsely
  pub never_no : (i : ℕ) → i < x.size → has (x.letter i) ≡ true
  -- the split is inside the needle and critical
  pub split_inside : v.split < x.size
  pub critical : Critical x v.split
  -- a difference in the second part moves past the split, and by no more than the smallest period
  pub smallest : ℕ
  pub smallest_is : SmallestPeriod x smallest
  pub period_ahead : v.split < v.period
  pub period_least : v.period ≤ smallest
  -- the memory that it sets: that many letters stand again `period` later
  pub period_memory_fits : v.period_memory + v.period ≤ x.size
  pub period_memory_same : (i j : ℕ) → i < v.period_memory → j ≡ i + v.period → x.letter i ≡ x.letter j
  -- a match moves on, and the memory that it sets: that many letters stand again `shift` later
  pub shift_positive : 0 < v.shift
  pub shift_memory_fits : v.shift_memory + v.shift ≤ x.size
  pub shift_memory_same : (i j : ℕ) → i < v.shift_memory → j ≡ i + v.shift → x.letter i ≡ x.letter j

-- A walk lists the greedy occurrences at a gap: a match moves by that gap, or further over places at which none can start after the match.
pub record Gap (v : Plan) (x : Word) (gap : ℕ) : Type 0 where
  pub positive : 0 < gap
  pub within : gap ≤ v.shift
  pub between : (h : Word) (k j : ℕ) → Occurs x h k → k + gap ≤ j → j < k + v.shift → Occurs x h j → ⊥

-- the position that a next match answers, or nothing
abbrev pub place : Stop → Option ℕ
place (Stop.Hit k) = Some k
place Stop.Passed = None
place Stop.Out = None
