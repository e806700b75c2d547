-- What find and rfind mean: find gives the least position, rfind the greatest, and nothing exactly if there is none;
-- and what they may cost.
-- Assumes nothing.
use Rattle.std.specs.Prelude.{ℕ, ◌*◌, ◌≤◌, List, length}
use Rattle.std.specs.Prelude.{Option}
use Rattle.words.specs.Word.{front}
use Rattle.words.specs.Choice.{FindsLeast, FindsGreatest}
use Rattle.words.specs.Occurs.{Occurs}
use Rattle.limits.specs.Checks.{Within, RefusedRightly}
use Rattle.limits.specs.Said.{Said, refused, given}
use Rattle.windows.specs.Bounds.{Bounded}
use Rattle.record.specs.declared.Counts.{Counts}
use Rattle.twoway.specs.Find.{SearchTold}

-- what a position means, where Finds says what it is to be the right one: only lengths within the bounds are answered, and only others refused
abbrev pub Meant : (Option ℕ → Type 0) → List ℕ → List ℕ → Said (Option ℕ) → Type 0
Meant Finds text pattern (given place) = Within (length text) (length pattern) × Finds place
Meant Finds text pattern (refused number) = RefusedRightly (length text) (length pattern) number

abbrev pub FindMeaning : List ℕ → List ℕ → SearchTold → Type 0
FindMeaning text pattern r = Meant (FindsLeast (Occurs (front pattern) (front text))) text pattern r.position

abbrev pub RfindMeaning : List ℕ → List ℕ → SearchTold → Type 0
RfindMeaning text pattern r = Meant (FindsGreatest (Occurs (front pattern) (front text))) text pattern r.position

-- "bounded by 2n-m, n-m+1 and 9m": what a whole search may cost is what demand 3 allows a walk one way, with the preparing; a scan of one byte,
-- an empty pattern and a refusal included
pub record SearchBounded (text pattern : List ℕ) (counts : Counts) : Type 0 where
  pub walking : Bounded (length pattern) (length text) counts.comparisons counts.tests
  pub preparing : counts.preparing ≤ 9 * length pattern
