-- Whole searches: 01's "Whole searches and counts", and the codes of the C functions.
-- `backward` says which of the two directions a search has. Assumes nothing.
use Rattle.std.specs.Prelude.{ℕ, ◌-◌, ◌^◌, Bool, true, false, cond, List, eqb, length, get_or}
use Rattle.std.specs.Prelude.{Option, None, Some, Result, Ok, Err}
use Rattle.limits.specs.Checks.{Check, lengths}
use Rattle.limits.specs.Refusals.{number_of}
use Rattle.limits.specs.Said.{Said, refused, given, said}
use Rattle.limits.specs.declared.Refusal.{Refusal}
use Rattle.scan.specs.Scanned.{scan_of}
use Rattle.scan.specs.declared.Scan.{Scan}
use Rattle.record.specs.declared.Counts.{Counts}
use Rattle.record.specs.declared.Mode.TheVariants.{NonOverlapping}
use Rattle.searcher.specs.Walk.{CallTold, new_rule, next_match_rule, next_match_back_rule}
use Rattle.searcher.specs.declared.TwoWaySearcher.{TwoWaySearcher}
use Rattle.twoway.specs.declared.Answer.{Answer}

-- what an answer says: its refusal's number, or the position or none
abbrev pub position_said : Result (Option ℕ) Refusal → Said (Option ℕ)
position_said position = said position

-- that, and the counts
pub record SearchTold : Type 0 where
  pub position : Said (Option ℕ)
  pub counts : Counts

abbrev pub search_told : Answer → SearchTold
search_told r = record { position = position_said r.position; counts = r.counts }

abbrev pub told : Said (Option ℕ) → ℕ → ℕ → ℕ → SearchTold
told position preparing comparisons tests = record { position = position; counts = record { preparing = preparing; comparisons = comparisons; tests = tests } }

-- a match as a position: its start
abbrev pub of_match : Said (Option (ℕ × ℕ)) → Said (Option ℕ)
of_match (given (Some (a, b))) = given (Some a)
of_match (given None) = given None
of_match (refused number) = refused number

-- "Empty needle: find 0, rfind n."
abbrev pub empty_place : Bool → ℕ → ℕ
empty_place backward n = cond backward n 0

-- "Otherwise prepare, then one next match."
abbrev pub match_of : Bool → List ℕ → List ℕ → TwoWaySearcher → CallTold (Option (ℕ × ℕ))
match_of backward pattern text walk = cond backward (next_match_back_rule pattern text walk) (next_match_rule pattern text walk)

-- "An empty or one-byte find prepares nothing and tests nothing"
abbrev pub by_scan : Scan → SearchTold
by_scan s = told (given s.found) 0 s.comparisons 0

abbrev pub by_walk : ℕ → CallTold (Option (ℕ × ℕ)) → SearchTold
by_walk preparing r = told (of_match r.answer) preparing r.counts.comparisons r.counts.tests

-- a refusal costs nothing
abbrev pub or_told : Check → SearchTold → SearchTold
or_told (Ok passed) otherwise = otherwise
or_told (Err why) otherwise = told (refused (number_of why)) 0 0 0

-- Checks 1 and 2; then an empty pattern, one byte, and longer ones.
unfoldable pub searched : Bool → List ℕ → List ℕ → SearchTold
searched backward text pattern =
    let p = new_rule pattern (length text) NonOverlapping in
    let longer = by_walk p.counts.preparing (match_of backward pattern text p.walk) in
    or_told (lengths (length text) (length pattern))
    (cond (eqb (length pattern) 0)
    (told (given (Some (empty_place backward (length text)))) 0 0 0)
    (cond (eqb (length pattern) 1) (by_scan (scan_of backward (get_or pattern 0 0) text)) longer))

abbrev pub find_rule : List ℕ → List ℕ → SearchTold
find_rule text pattern = searched false text pattern

abbrev pub rfind_rule : List ℕ → List ℕ → SearchTold
rfind_rule text pattern = searched true text pattern

-- "the position, or 2^64-1 for none, 2^64-2 for refusal 1, 2^64-3 for refusal 2"
abbrev pub code_of : Said (Option ℕ) → ℕ
code_of (given (Some k)) = k
code_of (given None) = 2 ^ 64 - 1
code_of (refused number) = 2 ^ 64 - 1 - number
