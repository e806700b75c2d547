-- What a walk whose matches may overlap means: 02's [3], after any mix of calls from preparing on, refused steps among them.
-- Assumes nothing.
use Rattle.std.specs.Prelude.{ℕ, ◌<◌, ◌≤◌, ◌≡◌, List, length}
use Rattle.std.specs.Prelude.{None}
use Rattle.words.specs.Word.{front}
use Rattle.words.specs.Occurs.{Occurs}
use Rattle.words.specs.Listed.{Rising, Falling}
use Rattle.limits.specs.Said.{given}
use Rattle.record.specs.declared.Mode.TheVariants.{Overlapping}
use Rattle.searcher.specs.Walk.{next_rule, next_back_rule, next_match_rule, next_match_back_rule}
use Rattle.demands.specs.Open.{open_from, open_below}
use Rattle.demands.specs.Reached.{Call, History, reached}
use Rattle.demands.specs.Stays.{handed_back}

module _ (needle haystack : List ℕ) where
  -- the needle occurs in the haystack at k
  abbrev pub OccursAt : ℕ → Type 0
  OccursAt = Occurs (front needle) (front haystack)

  -- of what a history has come to
  pub record Every (H : History) : Type 0 where
    -- "Next match in this mode lists every occurrence, each once, rising forward": so far, those before the places still open; and all once it has nothing to give
    pub forward : Rising (λ k. OccursAt k × (k < open_from H.walk.moving)) H.forward.matches
    pub forward_all : (next_match_rule needle haystack H.walk).answer ≡ given None → Rising OccursAt H.forward.matches
    -- "and falling backward"
    pub backward : Falling (λ k. OccursAt k × (open_below (length needle) H.walk.moving ≤ k)) H.backward.matches
    pub backward_all : (next_match_back_rule needle haystack H.walk).answer ≡ given None → Falling OccursAt H.backward.matches
    -- "A step call in this mode is refused with new number 5, after check 4, state handed back."
    pub step_refused : next_rule needle haystack H.walk ≡ handed_back 5 H.walk
    pub step_back_refused : next_back_rule needle haystack H.walk ≡ handed_back 5 H.walk

  abbrev pub EveryOccurrence : List Call → Type 0
  EveryOccurrence calls = Every (reached needle haystack Overlapping calls)
