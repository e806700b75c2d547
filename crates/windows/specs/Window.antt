-- One window of a walk, forward and backward, in 01's own words and order: "One forward step", "One backward step" and the counting of comparisons.
-- The membership test `has` and the plan, which says what follows a match, are arguments. ("Long has none": its memory is read as 0 forward and as m backward, and its plan sets no other.)
-- Executable. Assumes nothing.
use Rattle.std.specs.Prelude.{ℕ, ◌+◌, ◌-◌, min, max, Bool, true, false, cond, not, ltb, eqb}
use Rattle.words.specs.Word.{Word}
use Rattle.words.specs.Choice.{first_from, least}
use Rattle.windows.specs.declared.Plan.{Plan}
use Rattle.windows.specs.declared.Cursor.{Cursor}
use Rattle.windows.specs.declared.Outcome.{Outcome}

-- what a window comes to, by its numbers
abbrev pub outcome : Bool → ℕ → ℕ → ℕ → Outcome
outcome matched at memory comparisons = record { matched = matched; next = record { at = at; memory = memory }; comparisons = comparisons }

-- whether the needle x and the window of h that starts at k differ at needle index i
abbrev pub differs : Word → Word → ℕ → ℕ → Bool
differs x h k i = not (eqb (x.letter i) (h.letter (k + i)))

-- "Test the fingerprint on the window's last byte; if absent, move by m and set memory 0.
-- Compare needle indices from max(c, memory) up (Long: from c); a difference at i moves by i-c+1 and sets memory 0.
-- Then indices from c-1 down to memory (Long: to 0); a difference moves by p and sets memory m-p. No difference: move by m, memory 0, Match(a, a+m)."
-- Comparisons: "one for each needle byte set against a haystack byte, the differing one included".
unfoldable pub forward_window : (ℕ → Bool) → Plan → Word → Word → Cursor → Outcome
forward_window has v x h s =
    let from = max v.split s.memory in
    -- the first difference in the right part, or m
    let i = first_from (x.size - from) from (differs x h s.at) in
    -- how many letters agree in the left part, from c-1 down
    let low = v.split - s.memory in
    let agreed = least low (λ d. differs x h s.at (v.split - (1 + d))) in
    let absent = outcome false (s.at + x.size) 0 0 in
    let right = outcome false (s.at + (i - v.split + 1)) 0 (i + 1 - from) in
    let left = outcome false (s.at + v.period) v.period_memory (x.size - from + (agreed + 1)) in
    let whole = outcome true (s.at + v.shift) v.shift_memory (x.size - from + low) in
    let compared = cond (ltb i x.size) right (cond (ltb agreed low) left whole) in
    cond (has (h.letter (s.at + (x.size - 1)))) compared absent

-- "Test the fingerprint on the window's first byte; absent: down by m, memory m.
-- Indices from min(b, memory)-1 down to 0 (Long: from b-1); a difference at i moves down by b-i, memory m.
-- Then from b up to memory (Long: to m); a difference moves down by p, memory p. Else Match, down by m, memory m."
-- ("up to memory" leaves the index `memory` itself out, as the source does.)
unfoldable pub backward_window : (ℕ → Bool) → Plan → Word → Word → Cursor → Outcome
backward_window has v x h s =
    let k = s.at - x.size in
    let upto = min v.split s.memory in
    -- how many letters agree in the left part, from min(b, memory)-1 down, and the index of the difference after them
    let agreed = least upto (λ d. differs x h k (upto - (1 + d))) in
    let i = upto - (1 + agreed) in
    -- the first difference in the right part, or the memory
    let rest = s.memory - v.split in
    let j = first_from rest v.split (differs x h k) in
    let absent = outcome false (s.at - x.size) x.size 0 in
    let left = outcome false (s.at - (v.split - i)) x.size (agreed + 1) in
    let right = outcome false (s.at - v.period) v.period_memory (upto + (j + 1 - v.split)) in
    let whole = outcome true (s.at - v.shift) v.shift_memory (upto + rest) in
    let compared = cond (ltb agreed upto) left (cond (ltb j (v.split + rest)) right whole) in
    cond (has (h.letter k)) compared absent
