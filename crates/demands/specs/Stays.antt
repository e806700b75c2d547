-- What a walk call does not do to a state that fits: it refuses nothing but a step where matches may overlap, and the state that it hands back fits again.
-- And what no call does.
-- Assumes nothing.
use Rattle.std.specs.Prelude.{ℕ, ◌≡◌, true, false, List, length}
use Rattle.limits.specs.Said.{refused}
use Rattle.searcher.specs.declared.TwoWaySearcher.{TwoWaySearcher}
use Rattle.record.specs.declared.Mode.{Mode}
use Rattle.record.specs.Kinds.{overlaps}
use Rattle.record.specs.Fits.{fits}
use Rattle.search.specs.Calls.{walking}
use Rattle.demands.specs.Reached.{Call, after}
use Rattle.searcher.specs.Walk.{CallTold, new_rule, next_rule, next_back_rule, next_match_rule, next_match_back_rule}

-- "the number, counts 0, no position", and the state that was handed in
abbrev pub handed_back : {A : Type 0} → ℕ → TwoWaySearcher → CallTold A
handed_back number s = record { answer = refused number; walk = s; counts = walking 0 0 }

module _ (needle haystack : List ℕ) where
  abbrev pub CallStays : {A : Type 0} → CallTold A → Type 0
  CallStays r = (fits needle haystack r.walk.fixed r.walk.moving ≡ true) × ((number : ℕ) → r.answer ≡ refused number → ⊥)

  -- "A step call in this mode is refused with new number 5, after check 4, state handed back." (02 [3])
  pub record StepStays {A : Type 0} (s : TwoWaySearcher) (r : CallTold A) : Type 0 where
    pub apart : overlaps s.fixed.mode ≡ false → CallStays r
    pub overlapping : overlaps s.fixed.mode ≡ true → r ≡ handed_back 5 s

  -- the four calls from the state s
  pub record Stays (s : TwoWaySearcher) : Type 0 where
    pub next : StepStays s (next_rule needle haystack s)
    pub next_back : StepStays s (next_back_rule needle haystack s)
    pub next_match : CallStays (next_match_rule needle haystack s)
    pub next_match_back : CallStays (next_match_back_rule needle haystack s)

  -- "Preparing and walking no longer give refusal 3." (02 [1]): of any needle, haystack and state
  abbrev pub NotThree : {A : Type 0} → CallTold A → Type 0
  NotThree r = r.answer ≡ refused 3 → ⊥

  pub record NeverThree (s : TwoWaySearcher) : Type 0 where
    pub new : (mode : Mode) → NotThree (new_rule needle (length haystack) mode)
    pub next : NotThree (next_rule needle haystack s)
    pub next_back : NotThree (next_back_rule needle haystack s)
    pub next_match : NotThree (next_match_rule needle haystack s)
    pub next_match_back : NotThree (next_match_back_rule needle haystack s)

  -- "The mode is chosen at preparing." (02 [3]): no call changes it, nor anything else that preparing fixed, from any state on
  abbrev pub FixedStays : TwoWaySearcher → List Call → Type 0
  FixedStays s calls = (after needle haystack s calls).walk.fixed ≡ s.fixed
