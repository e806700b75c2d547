-- The bytes that no check refuses: 01's table "Refusal numbers", 1 and 2. An empty needle is not refused.
-- Assumes nothing.
use Rattle.std.specs.Prelude.{ℕ, List, length}
use Rattle.limits.specs.Checks.{Within}

pub record Allowed (needle haystack : List ℕ) : Type 0 where
  pub within : Within (length haystack) (length needle)
