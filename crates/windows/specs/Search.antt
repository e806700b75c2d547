-- A step and a next match in one direction: windows until there is an answer, in 01's own words and order. Executable.
-- Assumes nothing.
use Rattle.std.specs.Prelude.{ℕ, zero, suc, ◌+◌, ◌-◌, ◌%◌, ◌^◌, Bool, cond, not, ◌&&◌, ltb, eqb}
use Rattle.words.specs.Word.{Word}
use Rattle.windows.specs.declared.Plan.{Plan}
use Rattle.windows.specs.declared.Cursor.{Cursor}
use Rattle.windows.specs.declared.Stop.{Stop}
use Rattle.windows.specs.declared.Searched.{Searched}
use Rattle.windows.specs.Window.{forward_window, backward_window}

-- what a search ends with, by its parts
abbrev pub ended : Stop → Cursor → ℕ → ℕ → Searched
ended stop cursor comparisons tests = record { stop = stop; cursor = cursor; comparisons = comparisons; tests = tests }

-- the cursor moved to an end of the haystack, the memory as it was
abbrev pub moved_to : ℕ → Cursor → Cursor
moved_to at s = record { at = at; memory = s.memory }

-- "repeat: if position+m-1 is not inside the haystack, set `position` to n and answer Reject(old, n).
-- If `position` has moved in this call, answer Reject(old, position). Test .."; a next match is "the same .. without the middle Reject".
-- (`stepping` is true for a step and false for a next match.)
-- Comparisons and tests are counted on from those given. At most as many windows are opened as the first argument.
unfoldable pub forward_search : ℕ → Bool → (ℕ → Bool) → Plan → Word → Word → ℕ → Cursor → ℕ → ℕ → Searched
forward_search zero stepping has v x h old s comparisons tests = ended Stop.Out (moved_to h.size s) comparisons tests
forward_search (suc more) stepping has v x h old s comparisons tests =
    let w = forward_window has v x h s in
    let on = forward_search more stepping has v x h old w.next (comparisons + w.comparisons) (tests + 1) in
    let found = ended (Stop.Hit s.at) w.next (comparisons + w.comparisons) (tests + 1) in
    let tried = cond w.matched found on in
    let room = cond (stepping && not (eqb s.at old)) (ended Stop.Passed s comparisons tests) tried in
    cond (ltb (s.at + (x.size - 1)) h.size) room (ended Stop.Out (moved_to h.size s) comparisons tests)

-- "The window starts at end-m by wrapping subtraction"
abbrev pub window_start : ℕ → ℕ → ℕ
window_start end m = (end + 2 ^ 64 - m) % 2 ^ 64

-- "and there is no room when that index is not inside the haystack: then `end` becomes 0 and the answer is Reject(0, old). If `end` has moved, answer Reject(end, old)."
unfoldable pub backward_search : ℕ → Bool → (ℕ → Bool) → Plan → Word → Word → ℕ → Cursor → ℕ → ℕ → Searched
backward_search zero stepping has v x h old s comparisons tests = ended Stop.Out (moved_to 0 s) comparisons tests
backward_search (suc more) stepping has v x h old s comparisons tests =
    let w = backward_window has v x h s in
    let on = backward_search more stepping has v x h old w.next (comparisons + w.comparisons) (tests + 1) in
    let found = ended (Stop.Hit (s.at - x.size)) w.next (comparisons + w.comparisons) (tests + 1) in
    let tried = cond w.matched found on in
    let room = cond (stepping && not (eqb s.at old)) (ended Stop.Passed s comparisons tests) tried in
    cond (ltb (window_start s.at x.size) h.size) room (ended Stop.Out (moved_to 0 s) comparisons tests)
