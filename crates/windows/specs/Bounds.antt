-- How much a walk in one direction may cost: demand 3.
-- Assumes nothing.
use Rattle.std.specs.Prelude.{ℕ, ◌+◌, ◌-◌, ◌*◌, ◌<◌, ◌≤◌, ◌≡◌}

-- What a walk over k letters may cost with a needle of m: at most 2k-m comparisons, and of tests what 01 says of a whole one,
-- "at most n-m+1 if m <= n, else none".
pub record Bounded (m k comparisons tests : ℕ) : Type 0 where
  pub comparisons_most : m ≤ k → comparisons ≤ 2 * k - m
  pub tests_most : m ≤ k → tests ≤ k - m + 1
  pub comparisons_none : k < m → comparisons ≡ 0
  pub tests_none : k < m → tests ≡ 0
  -- "For an empty needle all counts are 0 and demand 3 reads so." (02 [1])
  pub empty_comparisons : m ≡ 0 → comparisons ≡ 0
  pub empty_tests : m ≡ 0 → tests ≡ 0
