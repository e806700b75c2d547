-- What every plan that fits satisfies, in numbers alone: what the ends and the counts of a walk rest on, and what the mirror asks.
-- Assumes nothing.
use Rattle.std.specs.Prelude.{ℕ, ◌+◌, ◌<◌, ◌≤◌, max}
use Rattle.windows.specs.declared.Plan.{Plan}

-- of a plan for a needle of m letters; the last two say of a match what the two before them say of a difference in the second part
pub record Shape (v : Plan) (m : ℕ) : Type 0 where
  pub inside : v.split < m
  pub ahead : v.split < v.period
  pub shift_ahead : v.split < v.shift
  pub period_memory_fits : v.period_memory + v.period ≤ m
  pub reach : m ≤ v.period + max v.split v.period_memory
  pub shift_memory_fits : v.shift_memory + v.shift ≤ m
  pub shift_reach : m ≤ v.shift + max v.split v.shift_memory

-- What the mirror asks of a backward plan: none of its numbers is above m, so that each can be counted from the other end.
pub record BackShape (v : Plan) (m : ℕ) : Type 0 where
  pub split_in : v.split ≤ m
  pub period_in : v.period ≤ m
  pub period_memory_in : v.period_memory ≤ m
  pub shift_in : v.shift ≤ m
  pub shift_memory_in : v.shift_memory ≤ m
