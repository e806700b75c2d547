-- What the contracts of the printers cite.
-- Assumes nothing.
use Rattle.std.specs.Prelude.{ℕ, ◌≤◌, List, length}

-- the place r behind what was printed lies within the room, and is at most `most`
abbrev pub InRoom : List ℕ → ℕ → ℕ → Type 0
InRoom room most r = (r ≤ length room) × (r ≤ most)
