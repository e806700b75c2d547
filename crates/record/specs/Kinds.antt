-- What the record is to each direction of a walk: what it goes by, where it stands, and the record once it has moved.
-- This is the one place that tells the kinds of walk apart, the modes, and the kinds of a two way walk's memory. Assumes nothing.
use Rattle.std.specs.Prelude.{ℕ, ◌-◌, Bool, true, false, cond}
use Rattle.windows.specs.declared.Plan.{Plan}
use Rattle.windows.specs.declared.Cursor.{Cursor}
use Rattle.record.specs.declared.Memory.{Memory}
use Rattle.record.specs.declared.Memory.TheVariants.{Long, Short}
use Rattle.record.specs.declared.Kind.{Kind}
use Rattle.record.specs.declared.Kind.TheVariants.{TwoWay, Empty}
use Rattle.record.specs.declared.Flags.{Flags}
use Rattle.record.specs.declared.Mode.{Mode}
use Rattle.record.specs.declared.Mode.TheVariants.{NonOverlapping, Overlapping}
use Rattle.record.specs.declared.Fixed.{Fixed}
use Rattle.record.specs.declared.Moving.{Moving}

-- ---- the kinds of walk

-- "The record gains a second kind of walk" (02 [1]): whether it is this one, the empty one, and its flags. A two way walk has none, and they read false.
abbrev pub flags_of : Kind → Flags
flags_of TwoWay = record { empty = false; is_match_fw = false; is_match_bw = false }
flags_of (Empty forward backward) = record { empty = true; is_match_fw = forward; is_match_bw = backward }

-- ---- the modes

-- "For run-length faults we need every occurrence, not the non-overlapping ones" (02 [3]): whether it is the mode that lists every occurrence
abbrev pub overlaps : Mode → Bool
overlaps NonOverlapping = false
overlaps Overlapping = true

-- what follows a match: a number of its own, or, in that mode, the one that follows a difference in the second part
abbrev pub after_match : Mode → ℕ → ℕ → ℕ
after_match mode apart by_period = cond (overlaps mode) by_period apart

-- how far a match moves, in either direction: "move by m", "down by m"; overlapping: "after a match move by p", "Long moves by its stored p" (02 [3])
abbrev pub match_shift : ℕ → Fixed → ℕ
match_shift m f = after_match f.mode m f.period

-- ---- a two way walk

-- "Long has none" (read as 0 forward and m backward), Short has a number for each.
abbrev pub forward_memory : Memory → ℕ
forward_memory Long = 0
forward_memory (Short forward backward) = forward

abbrev pub backward_memory : ℕ → Memory → ℕ
backward_memory m Long = m
backward_memory m (Short forward backward) = backward

-- both, by whether the direction is the backward one, as in each `.. : Bool → ..` below
abbrev pub memory_of : Bool → ℕ → Memory → ℕ
memory_of backward m memory = cond backward (backward_memory m memory) (forward_memory memory)

-- "In either direction only Short sets memory"; "Neither direction changes the other's cursor or memory."
abbrev pub set_forward : ℕ → Memory → Memory
set_forward k Long = Long
set_forward k (Short forward backward) = Short k backward

abbrev pub set_backward : ℕ → Memory → Memory
set_backward k Long = Long
set_backward k (Short forward backward) = Short forward k

abbrev pub set_memory : Bool → ℕ → Memory → Memory
set_memory backward k memory = cond backward (set_backward k memory) (set_forward k memory)

-- the memory that a difference in the second part sets: "sets memory m-p", backward "memory p"
abbrev pub forward_period_memory : ℕ → ℕ → Memory → ℕ
forward_period_memory m p Long = 0
forward_period_memory m p (Short forward backward) = m - p

abbrev pub backward_period_memory : ℕ → ℕ → Memory → ℕ
backward_period_memory m p Long = m
backward_period_memory m p (Short forward backward) = p

abbrev pub period_memory_of : Bool → ℕ → ℕ → Memory → ℕ
period_memory_of backward m p memory = cond backward (backward_period_memory m p memory) (forward_period_memory m p memory)

-- What a walk goes by in each direction. A match: "memory 0", backward "memory m"; overlapping: "keep memory m-p (backward p)" (02 [3]).
abbrev pub forward_plan : ℕ → Fixed → Memory → Plan
forward_plan m f memory =
    record {
      split = f.crit_pos;
      period = f.period;
      period_memory = forward_period_memory m f.period memory;
      shift = match_shift m f;
      shift_memory = after_match f.mode 0 (forward_period_memory m f.period memory);
    }

abbrev pub backward_plan : ℕ → Fixed → Memory → Plan
backward_plan m f memory =
    record {
      split = f.crit_pos_back;
      period = f.period;
      period_memory = backward_period_memory m f.period memory;
      shift = match_shift m f;
      shift_memory = after_match f.mode m (backward_period_memory m f.period memory);
    }

abbrev pub plan_of : Bool → ℕ → Fixed → Memory → Plan
plan_of backward m f memory = cond backward (backward_plan m f memory) (forward_plan m f memory)

-- where it stands
abbrev pub forward_cursor : Moving → Cursor
forward_cursor s = record { at = s.position; memory = forward_memory s.memory }

abbrev pub backward_cursor : ℕ → Moving → Cursor
backward_cursor m s = record { at = s.end; memory = backward_memory m s.memory }

abbrev pub cursor_of : Bool → ℕ → Moving → Cursor
cursor_of backward m s = cond backward (backward_cursor m s) (forward_cursor s)

-- the record with one direction moved to a cursor
abbrev pub moved_forward : Moving → Cursor → Moving
moved_forward s k = record { position = k.at; end = s.end; memory = set_forward k.memory s.memory; kind = s.kind }

abbrev pub moved_backward : Moving → Cursor → Moving
moved_backward s k = record { position = s.position; end = k.at; memory = set_backward k.memory s.memory; kind = s.kind }

abbrev pub moved_to : Bool → Moving → Cursor → Moving
moved_to backward s k = cond backward (moved_backward s k) (moved_forward s k)
