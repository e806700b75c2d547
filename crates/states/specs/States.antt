-- MODE of docs/LINES.md, `n` or `o`, and STATE, `L:m:n:position:end:MODE:c:b:p:SET`, `S:m:n:position:end:MODE:c:b:p:SET:FORWARD:BACKWARD` or
-- `E:m:n:position:end:MODE:FORWARD:BACKWARD`. What is read of it at a place of a line, and its text.
-- Assumes nothing.
use Rattle.std.specs.Prelude.{ℕ, Bool, cond, List, [], ◌∷◌, ◌++◌, length, Option, Some, None}
use Rattle.std.specs.Option.{option_map, option_and_then}
use Rattle.std.specs.Int.{from_bool}
use Rattle.lines.specs.Reading.{is_end, skipped}
use Rattle.lines.specs.declared.Read.{Read}
use Rattle.fields.specs.Fields.{either_at, flag_at, number_at, set_at}
use Rattle.printing.specs.Printing.{form_text}
use Rattle.record.specs.declared.Memory.{Memory}
use Rattle.record.specs.declared.Memory.TheVariants.{Long, Short}
use Rattle.record.specs.declared.Flags.{Flags}
use Rattle.record.specs.declared.Fixed.{Fixed}
use Rattle.record.specs.declared.Mode.{Mode}
use Rattle.record.specs.declared.Mode.TheVariants.{NonOverlapping, Overlapping}
use Rattle.record.specs.Kinds.{flags_of, overlaps}
use Rattle.record.specs.declared.Kind.TheVariants.{TwoWay, Empty}
use Rattle.searcher.specs.declared.TwoWaySearcher.{TwoWaySearcher}
use Rattle.states.specs.declared.Letter.{Letter}
use Rattle.states.specs.declared.Letter.TheVariants.{L, S, E}
use Rattle.states.specs.declared.Ends.{Ends}
use Rattle.states.specs.declared.Rest.{Rest}

-- ---- reading

-- `next` of what was read, if it was
abbrev pub and_then : {T U : Type 0} → Option T → (T → Option U) → Option U
and_then read next = option_and_then next read

-- the letter, where `long` is the cursor behind an L, `short` the one behind an S, and `empty` the one behind an E
abbrev pub head_of : Option ℕ → Option ℕ → Option ℕ → Option (Read Letter)
head_of (Some k) short empty = Some (record { value = L; next = k })
head_of None (Some k) empty = Some (record { value = S; next = k })
head_of None None empty = option_map (λ k. record { value = E; next = k }) empty

-- `L:` for Long, `S:` for Short, `E:` for an empty needle; L is 76, S 83, E 69
unfoldable pub head_at : List ℕ → Option ℕ → Option (Read Letter)
head_at s c = head_of (skipped s c 76) (skipped s c 83) (skipped s c 69)

-- the number behind a colon (58), and two of them in a row
abbrev pub field_at : List ℕ → Option ℕ → Option (Read ℕ)
field_at s c = number_at s (skipped s c 58)

unfoldable pub two_at : List ℕ → Option ℕ → Option (Read (ℕ × ℕ))
two_at s c =
    and_then (field_at s c) (λ first.
    and_then (field_at s (Some first.next)) (λ second.
    Some (record { value = (first.value, second.value); next = second.next })))

-- the letter of a mode: n (110) for non-overlapping, o (111) for overlapping
abbrev pub letter_of : Mode → ℕ
letter_of mode = cond (overlaps mode) 111 110

-- the mode whose letter stands at the cursor
unfoldable pub mode_at : List ℕ → Option ℕ → Option (Read Mode)
mode_at s c =
    and_then (either_at s c (letter_of NonOverlapping) (letter_of Overlapping)) (λ read.
    Some (record { value = cond read.value Overlapping NonOverlapping; next = read.next }))

-- what all three forms have: m and n, `position` and `end`, and MODE
unfoldable pub ends_at : List ℕ → Option ℕ → Option (Read Ends)
ends_at s c =
    and_then (two_at s c) (λ lengths.
    and_then (two_at s (Some lengths.next)) (λ places.
    and_then (mode_at s (skipped s (Some places.next) 58)) (λ mode.
    Some (record {
      value = record {
        needle_len = lengths.value.0;
        haystack_len = lengths.value.1;
        position = places.value.0;
        end = places.value.1;
        mode = mode.value;
      };
      next = mode.next;
    }))))

-- Short's two memories; Long has none
unfoldable pub memory_at : List ℕ → Option ℕ → Letter → Option (Read Memory)
memory_at s c L = option_map (λ k. record { value = Long; next = k }) c
memory_at s c S =
    and_then (two_at s c) (λ two. Some (record { value = Short two.value.0 two.value.1; next = two.next }))
memory_at s c E = option_map (λ k. record { value = Long; next = k }) c

-- what a two way state has behind that: c and b, p, SET and the memories
unfoldable pub splits_at : List ℕ → Option ℕ → Letter → Option (Read Rest)
splits_at s c letter =
    and_then (two_at s c) (λ splits.
    and_then (field_at s (Some splits.next)) (λ period.
    and_then (set_at s (skipped s (Some period.next) 58)) (λ set.
    and_then (memory_at s (Some set.next) letter) (λ memory.
    Some (record {
      value = record {
        crit_pos = splits.value.0;
        crit_pos_back = splits.value.1;
        period = period.value;
        byteset = set.value;
        memory = memory.value;
        kind = TwoWay;
      };
      next = memory.next;
    })))))

-- and an empty walk's: its two flags. It has no splits, no period, no set and no memories.
unfoldable pub flags_at : List ℕ → Option ℕ → Option (Read Rest)
flags_at s c =
    and_then (flag_at s (skipped s c 58)) (λ forward.
    and_then (flag_at s (skipped s (Some forward.next) 58)) (λ backward.
    Some (record {
      value = record {
        crit_pos = 0;
        crit_pos_back = 0;
        period = 0;
        byteset = 0;
        memory = Long;
        kind = Empty forward.value backward.value;
      };
      next = backward.next;
    })))

-- what stands behind the ends, by the letter
abbrev pub rest_at : List ℕ → Option ℕ → Letter → Option (Read Rest)
rest_at s c L = splits_at s c L
rest_at s c S = splits_at s c S
rest_at s c E = flags_at s c

abbrev pub walk_of : Ends → Rest → TwoWaySearcher
walk_of ends rest =
    record {
      fixed = record {
        needle_len = ends.needle_len;
        haystack_len = ends.haystack_len;
        mode = ends.mode;
        crit_pos = rest.crit_pos;
        crit_pos_back = rest.crit_pos_back;
        period = rest.period;
        byteset = rest.byteset;
      };
      moving = record { position = ends.position; end = ends.end; memory = rest.memory; kind = rest.kind };
    }

-- the state at the cursor, and the cursor behind it
unfoldable pub walk_at : List ℕ → Option ℕ → Option (Read TwoWaySearcher)
walk_at s c =
    and_then (head_at s c) (λ head.
    and_then (ends_at s (Some head.next)) (λ ends.
    and_then (rest_at s (Some ends.next) head.value) (λ rest.
    Some (record { value = walk_of ends.value rest.value; next = rest.next }))))

-- the state at the cursor, if the line ends behind it
unfoldable pub state_at : List ℕ → Option ℕ → Option TwoWaySearcher
state_at s c = and_then (walk_at s c) (λ read. cond (is_end (length s) (Some read.next)) (Some read.value) None)

-- ---- printing

-- what all three forms begin with, behind a space: ` L:#:#:#:#:n`, with the letters of the form and of the mode, the numbers, and the text
abbrev pub begin_form : ℕ → ℕ → List ℕ
begin_form letter mode = 32 ∷ letter ∷ 58 ∷ 35 ∷ 58 ∷ 35 ∷ 58 ∷ 35 ∷ 58 ∷ 35 ∷ 58 ∷ mode ∷ []

abbrev pub begin_numbers : TwoWaySearcher → List ℕ
begin_numbers w = w.fixed.needle_len ∷ w.fixed.haystack_len ∷ w.moving.position ∷ w.moving.end ∷ []

abbrev pub begin_text : TwoWaySearcher → ℕ → List ℕ
begin_text w letter = form_text (begin_form letter (letter_of w.fixed.mode)) (begin_numbers w)

-- what a two way state has behind that: the form `:#:#:#:%`, to which Short adds `:#:#`, and the numbers, the memories last
abbrev pub splits_form : List ℕ
splits_form = 58 ∷ 35 ∷ 58 ∷ 35 ∷ 58 ∷ 35 ∷ 58 ∷ 37 ∷ []

abbrev pub splits_numbers : Fixed → ℕ → ℕ → List ℕ
splits_numbers f forward backward =
    f.crit_pos ∷ f.crit_pos_back ∷ f.period ∷ f.byteset ∷ forward ∷ backward ∷ []

-- its text, by its memory; a long one's form has no marks for memories
abbrev pub two_way_text : TwoWaySearcher → Memory → List ℕ
two_way_text w Long = begin_text w 76 ++ form_text splits_form (splits_numbers w.fixed 0 0)
two_way_text w (Short forward backward) =
    begin_text w 83 ++ form_text (splits_form ++ 58 ∷ 35 ∷ 58 ∷ 35 ∷ []) (splits_numbers w.fixed forward backward)

-- the text of an empty needle's state: `:#:#` behind the beginning; a flag is 1 where it is set, else 0
abbrev pub flags_text : ℕ → ℕ → List ℕ
flags_text forward backward = form_text (58 ∷ 35 ∷ 58 ∷ 35 ∷ []) (forward ∷ backward ∷ [])

abbrev pub empty_text : TwoWaySearcher → Bool → Bool → List ℕ
empty_text w forward backward = begin_text w 69 ++ flags_text (from_bool forward) (from_bool backward)

-- the text of a state, by the kind of its walk
abbrev pub text_of : TwoWaySearcher → Flags → List ℕ
text_of w flags = cond flags.empty (empty_text w flags.is_match_fw flags.is_match_bw) (two_way_text w w.moving.memory)

abbrev pub state_text : TwoWaySearcher → List ℕ
state_text w = text_of w (flags_of w.moving.kind)
