-- The checks of 01's table "Refusal numbers": what each comes to, what a row of them comes to, and what the two on lengths say.
-- Assumes nothing.
use Rattle.std.specs.Prelude.{ℕ, ◌<◌, ◌≤◌, ◌≡◌, ◌⊎◌, Bool, cond, ltb, Result, Ok, Err}
use Rattle.limits.specs.Bounds.{haystack_bound, needle_bound}
use Rattle.limits.specs.declared.Refusal.{Refusal}
use Rattle.limits.specs.declared.Refusal.TheVariants.{HaystackTooLong, NeedleTooLong}

-- what a check comes to: nothing refuses, or what does
abbrev pub Check : Type 0
Check = Result (Unit {0}) Refusal

-- one check: it refuses where its test says so
abbrev pub refuse_if : Bool → Refusal → Check
refuse_if test why = cond test (Err why) (Ok tt)

-- "the first that applies is the answer"
abbrev pub and_then : Check → Check → Check
and_then (Ok passed) next = next
and_then (Err why) next = Err why

-- "Checks run in the order 1, 2, 3, 4": the first two, of a haystack of n bytes and a needle of m
unfoldable pub lengths : ℕ → ℕ → Check
lengths n m = and_then (refuse_if (ltb haystack_bound n) HaystackTooLong) (refuse_if (ltb needle_bound m) NeedleTooLong)

-- both lengths are within their bounds
pub record Within (n m : ℕ) : Type 0 where
  pub haystack_in : n ≤ haystack_bound
  pub needle_in : m ≤ needle_bound

-- "Given exactly when": what a refusal by the checks of the lengths says of them, by its number
abbrev pub RefusedRightly : ℕ → ℕ → ℕ → Type 0
RefusedRightly n m number = ((number ≡ 1) × (haystack_bound < n)) ⊎ ((number ≡ 2) × (n ≤ haystack_bound) × (needle_bound < m))
