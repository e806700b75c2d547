-- Least, greatest and none, of any property of numbers: what it rests on that find gives the least position, rfind the greatest, and nothing exactly if there is none.
-- Beside them the executable forms, in which a test stands for the property; proofs/Decided.antt shows that they agree.
-- Assumes nothing.
use Rattle.std.specs.Prelude.{ℕ, zero, suc, ◌+◌, ◌<◌, Bool, true, cond, ◌&&◌}
use Rattle.std.specs.Prelude.{Option, None, Some}

-- P holds of k, and of no number before it
pub record Least (P : ℕ → Type 0) (k : ℕ) : Type 0 where
  pub holds : P k
  pub none_before : (j : ℕ) → j < k → P j → ⊥

-- P holds of k, and of no number after it
pub record Greatest (P : ℕ → Type 0) (k : ℕ) : Type 0 where
  pub holds : P k
  pub none_after : (j : ℕ) → k < j → P j → ⊥

-- P holds of no number
abbrev pub Nowhere : (ℕ → Type 0) → Type 0
Nowhere P = (j : ℕ) → P j → ⊥

-- what an answer says that is a position or nothing: the least one, and nothing exactly if there is none
abbrev pub FindsLeast : (ℕ → Type 0) → Option ℕ → Type 0
FindsLeast P (Some k) = Least P k
FindsLeast P None = Nowhere P

-- the same of the greatest
abbrev pub FindsGreatest : (ℕ → Type 0) → Option ℕ → Type 0
FindsGreatest P (Some k) = Greatest P k
FindsGreatest P None = Nowhere P

-- whether the test f holds of every number below n
unfoldable pub every : ℕ → (ℕ → Bool) → Bool
every zero f = true
every (suc n) f = every n f && f n

-- the first number from i on at which the test f holds, of the next n; i + n where there is none
unfoldable pub first_from : ℕ → ℕ → (ℕ → Bool) → ℕ
first_from zero i f = i
first_from (suc n) i f = let later = first_from n (i + 1) f in cond (f i) i later

-- the least number below n at which the test f holds, or n
abbrev pub least : ℕ → (ℕ → Bool) → ℕ
least n f = first_from n 0 f
