-- The two length bounds: 01's table "Refusal numbers".
-- Assumes nothing.
use Rattle.std.specs.Prelude.{ℕ}

-- "haystack over 67,108,864 bytes"
unfoldable pub haystack_bound : ℕ
haystack_bound = 67_108_864

-- "needle over 65,536 bytes"
unfoldable pub needle_bound : ℕ
needle_bound = 65_536
