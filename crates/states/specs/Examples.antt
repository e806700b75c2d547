-- A state read and printed, computed from the definitions: one table under one claim.
-- The bytes are ASCII: 32 is a space, 48 `0`, 58 `:`, 69 `E`, 76 `L`, 79 `O`, 83 `S`, 110 `n`, 111 `o`, 112 `p`. Assumes nothing.
use Rattle.std.specs.Prelude.{ℕ, cond, List, [], ◌∷◌, ◌++◌, length, T, Option, Some, None, is_some}
use Rattle.std.specs.Fmt.{digits}
use Rattle.words.specs.Examples.{Example, same, all_as_stated}
use Rattle.lines.specs.Reading.{skipped}
use Rattle.lines.specs.declared.Read.{Read}
use Rattle.fields.specs.Fields.{either_at, digit_of, with_digit, digits_from, number_at, set_at}
use Rattle.printing.specs.Printing.{hex_text, spent, form_text}
use Rattle.record.specs.declared.Memory.{Memory}
use Rattle.record.specs.declared.Memory.TheVariants.{Long, Short}
use Rattle.record.specs.declared.Kind.{Kind}
use Rattle.record.specs.declared.Kind.TheVariants.{TwoWay, Empty}
use Rattle.record.specs.Kinds.{overlaps}
use Rattle.searcher.specs.declared.TwoWaySearcher.{TwoWaySearcher}
use Rattle.states.specs.States.{head_at, two_at, mode_at, ends_at, memory_at, splits_at, flags_at, walk_at, state_at, state_text}

-- ` S:4:6:6:6:n:1:3:2:0000400200000000:0:4`, after the walk of P9
abbrev pub short : List ℕ
short = 32 ∷ 83 ∷ 58 ∷ 52 ∷ 58 ∷ 54 ∷ 58 ∷ 54 ∷ 58 ∷ 54 ∷ 58 ∷ 110 ∷ 58 ∷ 49 ∷ 58 ∷ 51 ∷ 58 ∷ 50 ∷ 58 ∷ 48 ∷ 48 ∷ 48 ∷ 48 ∷ 52 ∷ 48 ∷ 48 ∷ 50 ∷ 48 ∷ 48 ∷ 48 ∷ 48 ∷ 48 ∷ 48 ∷ 48 ∷ 48 ∷ 58 ∷ 48 ∷ 58 ∷ 52 ∷ []

-- ` L:4:9:0:9:o:2:2:3:0000001e00000000`, the state that P7 prepares for 9 bytes, in overlapping mode
abbrev pub long : List ℕ
long = 32 ∷ 76 ∷ 58 ∷ 52 ∷ 58 ∷ 57 ∷ 58 ∷ 48 ∷ 58 ∷ 57 ∷ 58 ∷ 111 ∷ 58 ∷ 50 ∷ 58 ∷ 50 ∷ 58 ∷ 51 ∷ 58 ∷ 48 ∷ 48 ∷ 48 ∷ 48 ∷ 48 ∷ 48 ∷ 49 ∷ 101 ∷ 48 ∷ 48 ∷ 48 ∷ 48 ∷ 48 ∷ 48 ∷ 48 ∷ 48 ∷ []

-- ` E:0:2:1:2:n:0:1`, after a match, a reject and a match of an empty needle in two bytes, all from the front; and with other bytes for its mode
abbrev pub empty_in : List ℕ → List ℕ
empty_in mode =
    (32 ∷ 69 ∷ 58 ∷ 48 ∷ 58 ∷ 50 ∷ 58 ∷ 49 ∷ 58 ∷ 50 ∷ 58 ∷ []) ++ mode ++ 58 ∷ 48 ∷ 58 ∷ 49 ∷ []

abbrev pub empty : List ℕ
empty = empty_in (110 ∷ [])

-- Short is written as its two numbers, and Long as the empty list
abbrev pub memory : Memory → List ℕ
memory Long = []
memory (Short forward backward) = forward ∷ backward ∷ []

-- the kind of a walk: 0 for that of the two way searcher, and 1 for that of an empty needle, with its flags
abbrev pub kind : Kind → List ℕ
kind TwoWay = 0 ∷ []
kind (Empty forward backward) = 1 ∷ cond forward 1 0 ∷ cond backward 1 0 ∷ []

-- whether the line ends behind a state that was read: 1, else 0
abbrev pub whole : Option TwoWaySearcher → ℕ
whole read = cond (is_some read) 1 0

-- that, and what was read: its numbers, with 0 for non-overlapping and 1 for overlapping behind the ends
abbrev pub numbers : Option TwoWaySearcher → List ℕ
numbers None = whole None ∷ []
numbers (Some w) =
    whole (Some w) ∷ w.fixed.needle_len ∷ w.fixed.haystack_len ∷ w.moving.position ∷ w.moving.end ∷ cond (overlaps w.fixed.mode) 1 0 ∷ w.fixed.crit_pos ∷ w.fixed.crit_pos_back ∷ w.fixed.period ∷ w.fixed.byteset ∷ memory w.moving.memory ++ kind w.moving.kind

-- and its text
abbrev pub text : Option TwoWaySearcher → List ℕ
text None = []
text (Some w) = state_text w

-- where a state that was read ends, and what was read
abbrev pub ended : Option (Read TwoWaySearcher) → List ℕ
ended None = []
ended (Some r) = r.next ∷ numbers (Some r.value)

abbrev pub table : List Example
table =
    -- what is read
    record { computed = numbers (state_at short (Some 1)); stated = 1 ∷ 4 ∷ 6 ∷ 6 ∷ 6 ∷ 0 ∷ 1 ∷ 3 ∷ 2 ∷ 70377334112256 ∷ 0 ∷ 4 ∷ 0 ∷ [] }
    ∷ record { computed = numbers (state_at long (Some 1)); stated = 1 ∷ 4 ∷ 9 ∷ 0 ∷ 9 ∷ 1 ∷ 2 ∷ 2 ∷ 3 ∷ 128849018880 ∷ 0 ∷ [] }
    ∷ record { computed = numbers (state_at empty (Some 1)); stated = 1 ∷ 0 ∷ 2 ∷ 1 ∷ 2 ∷ 0 ∷ 0 ∷ 0 ∷ 0 ∷ 0 ∷ 1 ∷ 0 ∷ 1 ∷ [] }
    -- is printed as it was
    ∷ record { computed = text (state_at short (Some 1)); stated = short }
    ∷ record { computed = text (state_at long (Some 1)); stated = long }
    ∷ record { computed = text (state_at empty (Some 1)); stated = empty }
    -- with one more digit behind its last flag the line does not end behind the state
    ∷ record { computed = whole (state_at (empty ++ 48 ∷ []) (Some 1)) ∷ []; stated = 0 ∷ [] }
    -- and the state ends before it
    ∷ record { computed = ended (walk_at (empty ++ 48 ∷ []) (Some 1)); stated = length empty ∷ 1 ∷ 0 ∷ 2 ∷ 1 ∷ 2 ∷ 0 ∷ 0 ∷ 0 ∷ 0 ∷ 0 ∷ 1 ∷ 0 ∷ 1 ∷ [] }
    -- a state may have `o` for its mode, but not `p`, `O`, `no` or nothing
    ∷ record { computed = whole (state_at (empty_in (111 ∷ [])) (Some 1)) ∷ whole (state_at (empty_in (112 ∷ [])) (Some 1)) ∷ []; stated = 1 ∷ 0 ∷ [] }
    ∷ record { computed = whole (state_at (empty_in (79 ∷ [])) (Some 1)) ∷ whole (state_at (empty_in (110 ∷ 111 ∷ [])) (Some 1)) ∷ whole (state_at (empty_in []) (Some 1)) ∷ []; stated = 0 ∷ 0 ∷ 0 ∷ [] }
    ∷ []

pub examples : T (all_as_stated table)
unfolding all_as_stated same skipped either_at digit_of with_digit digits_from number_at set_at digits hex_text spent form_text head_at two_at mode_at ends_at memory_at splits_at flags_at walk_at state_at
examples = tt
