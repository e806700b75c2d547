-- The backward rules in a mirror: the plan and the cursor of the forward walk over the words read from the back.
-- proofs/Mirror.antt shows that this walk does the same.
-- Assumes nothing.
use Rattle.std.specs.Prelude.{ℕ, ◌-◌}
use Rattle.windows.specs.declared.Plan.{Plan}
use Rattle.windows.specs.declared.Cursor.{Cursor}

-- The forward plan, over the mirrored needle of m letters, for a backward plan.
-- What is counted from the needle's front (the split and the two memories) is counted from its end; the moves are the same.
abbrev pub mirrored_plan : ℕ → Plan → Plan
mirrored_plan m v =
    record {
      split = m - v.split;
      period = v.period;
      period_memory = m - v.period_memory;
      shift = v.shift;
      shift_memory = m - v.shift_memory;
    }

-- the forward cursor over the mirrored words, of m and n letters, for a backward cursor
abbrev pub mirrored_cursor : ℕ → ℕ → Cursor → Cursor
mirrored_cursor m n s = record { at = n - s.at; memory = m - s.memory }
