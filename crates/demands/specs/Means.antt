-- Demand 2: what the answers and the matches of a walk mean, in the haystack's own places.
-- Assumes nothing.
use Rattle.std.specs.Prelude.{ℕ, zero, suc, ◌+◌, ◌-◌, ◌<◌, ◌≤◌, max, ◌≡◌, ◌⊎◌, List, [], ◌∷◌, ◌++◌, false, cond, length}
use Rattle.std.specs.Prelude.{Option, None, Some}
use Rattle.words.specs.Word.{Word, front}
use Rattle.words.specs.Choice.{Least, Greatest, Nowhere}
use Rattle.words.specs.Occurs.{Occurs, OccursFrom, OccursBelow, Leftmost, Rightmost}
use Rattle.limits.specs.Said.{Said, refused, given}
use Rattle.record.specs.declared.Mode.{Mode}
use Rattle.record.specs.Kinds.{overlaps}
use Rattle.searcher.specs.Walk.{StepTerm, match, reject, done, new_rule, next_rule, next_back_rule, next_match_rule, next_match_back_rule}
use Rattle.demands.specs.Open.{open_from, open_below}
use Rattle.demands.specs.Reached.{Call, History, reached}

-- ---- an answer, for a needle x and a haystack h

-- a next match, for a needle of m bytes: the least of the places that have P, and nothing exactly if there is none
abbrev pub AnswersLeast : (ℕ → Type 0) → ℕ → Said (Option (ℕ × ℕ)) → Type 0
AnswersLeast P m (given (Some (k, e))) = Least P k × (e ≡ k + m)
AnswersLeast P m (given None) = Nowhere P
AnswersLeast P m (refused number) = ⊥

-- the same of the greatest
abbrev pub AnswersGreatest : (ℕ → Type 0) → ℕ → Said (Option (ℕ × ℕ)) → Type 0
AnswersGreatest P m (given (Some (k, e))) = Greatest P k × (e ≡ k + m)
AnswersGreatest P m (given None) = Nowhere P
AnswersGreatest P m (refused number) = ⊥

-- A step forward, with `position` before and after it, and the places from `from` on still to be given. It settles the part between the two,
-- so the parts of steps in a row cover the haystack (the Rejects of steps cover what lies between their matches): a Match is the whole part,
-- in a Reject no occurrence starts that is still to be given, and at Done none is left.
abbrev pub StepMeans : Word → Word → ℕ → ℕ → ℕ → Said StepTerm → Type 0
StepMeans x h from before after (given (match a e)) = (a ≡ before) × (e ≡ after) × (e ≡ a + x.size) × OccursFrom x h from a
StepMeans x h from before after (given (reject a e)) =
    (a ≡ before) × (e ≡ after) × (a < e) × ((j : ℕ) → from ≤ j → j < e → Occurs x h j → ⊥)
StepMeans x h from before after (given done) = (before ≡ h.size) × (after ≡ before) × Nowhere (OccursFrom x h from)
StepMeans x h from before after (refused number) = ⊥

-- A step backward, with `end` before and after it, and the places below `below` still to be given: in a Reject none of these ends.
abbrev pub StepBackMeans : Word → Word → ℕ → ℕ → ℕ → Said StepTerm → Type 0
StepBackMeans x h below before after (given (match a e)) = (e ≡ before) × (a ≡ after) × (e ≡ a + x.size) × OccursBelow x h below a
StepBackMeans x h below before after (given (reject a e)) =
    (e ≡ before) × (a ≡ after) × (a < e) × ((j : ℕ) → a < j + x.size → j < below → Occurs x h j → ⊥)
StepBackMeans x h below before after (given done) = (before ≡ 0) × (after ≡ before) × Nowhere (OccursBelow x h below)
StepBackMeans x h below before after (refused number) = ⊥

-- ---- a history of calls

-- The matches that a walk lists start at least so far apart: by the needle's size, so that they do not overlap; those of an empty needle by 1,
-- so that each place is listed once. Where they may overlap, by 1 as well: what that comes to is said without a gap in Overlapping.antt.
abbrev pub gap_of : Mode → List ℕ → ℕ
gap_of mode needle = cond (overlaps mode) 1 (max 1 (length needle))

module _ (needle haystack : List ℕ) (H : History) where
  abbrev x : Word
  x = front needle

  abbrev h : Word
  h = front haystack

  -- the places that are still open to each direction: `position` and those after it, but for the one that an empty walk has given
  abbrev from : ℕ
  from = open_from H.walk.moving

  abbrev below : ℕ
  below = open_below x.size H.walk.moving

  -- a next match gives the least occurrence that is still to be given, and nothing exactly if there is none
  abbrev pub NextMatchMeans : Type 0
  NextMatchMeans = AnswersLeast (OccursFrom x h from) x.size (next_match_rule needle haystack H.walk).answer

  -- a step settles what lies between `position` before and after it
  abbrev pub NextMeans : Type 0
  NextMeans = let r = next_rule needle haystack H.walk in StepMeans x h from H.walk.moving.position r.walk.moving.position r.answer

  -- the same backward, from the haystack's end down to `end`
  abbrev pub NextMatchBackMeans : Type 0
  NextMatchBackMeans = AnswersGreatest (OccursBelow x h below) x.size (next_match_back_rule needle haystack H.walk).answer

  abbrev pub NextBackMeans : Type 0
  NextBackMeans = let r = next_back_rule needle haystack H.walk in StepBackMeans x h below H.walk.moving.end r.walk.moving.end r.answer

  -- ---- the matches, as lists at a gap

  module _ (gap : ℕ) where
    -- The forward matches are the greedy leftmost occurrences, each once and none left out before the places still open:
    -- with the greedy list of these they are the one from 0 on.
    abbrev pub ForwardList : Type 0
    ForwardList = (ks : List ℕ) → Leftmost x h gap from ks → Leftmost x h gap 0 (H.forward.matches ++ ks)

    -- once a next match has nothing to give, or a step is Done, they are the whole list
    abbrev pub ForwardNone : Type 0
    ForwardNone =
        ((next_match_rule needle haystack H.walk).answer ≡ given None) ⊎ ((next_rule needle haystack H.walk).answer ≡ given done)
        → Leftmost x h gap 0 H.forward.matches

    -- the same backward: the greedy rightmost ones
    abbrev pub BackwardList : Type 0
    BackwardList = (ks : List ℕ) → Rightmost x h gap below ks → Rightmost x h gap (h.size + 1) (H.backward.matches ++ ks)

    abbrev pub BackwardNone : Type 0
    BackwardNone =
        ((next_match_back_rule needle haystack H.walk).answer ≡ given None) ⊎ ((next_back_rule needle haystack H.walk).answer ≡ given done)
        → Rightmost x h gap (h.size + 1) H.backward.matches

-- ---- whole searches: the first next match from preparing on

-- find gives the least position, and nothing exactly if there is none
abbrev pub FirstMatchLeast : List ℕ → List ℕ → Mode → Type 0
FirstMatchLeast needle haystack mode =
    AnswersLeast (Occurs (front needle) (front haystack)) (length needle) (next_match_rule needle haystack (new_rule needle (length haystack) mode).walk).answer

-- rfind the greatest
abbrev pub LastMatchGreatest : List ℕ → List ℕ → Mode → Type 0
LastMatchGreatest needle haystack mode =
    AnswersGreatest (Occurs (front needle) (front haystack)) (length needle) (next_match_back_rule needle haystack (new_rule needle (length haystack) mode).walk).answer

-- all of it, after any calls from preparing on: "promised for states reached from preparation with the same bytes"
pub record Demand2 (needle haystack : List ℕ) (mode : Mode) (calls : List Call) : Type 0 where
  pub forward_list : ForwardList needle haystack (reached needle haystack mode calls) (gap_of mode needle)
  pub forward_none : ForwardNone needle haystack (reached needle haystack mode calls) (gap_of mode needle)
  pub next_match_means : NextMatchMeans needle haystack (reached needle haystack mode calls)
  -- a step is answered where matches may not overlap
  pub step_means : overlaps mode ≡ false → NextMeans needle haystack (reached needle haystack mode calls)
  pub backward_list : BackwardList needle haystack (reached needle haystack mode calls) (gap_of mode needle)
  pub backward_none : BackwardNone needle haystack (reached needle haystack mode calls) (gap_of mode needle)
  pub next_match_back_means : NextMatchBackMeans needle haystack (reached needle haystack mode calls)
  pub step_back_means : overlaps mode ≡ false → NextBackMeans needle haystack (reached needle haystack mode calls)
  pub find_least : FirstMatchLeast needle haystack mode
  pub rfind_greatest : LastMatchGreatest needle haystack mode

-- ---- an empty needle, which stands at every place from 0 to n

-- so many numbers from a on, and those below b from the greatest down
unfoldable pub rising : ℕ → ℕ → List ℕ
rising zero a = []
rising (suc k) a = a ∷ rising k (a + 1)

unfoldable pub falling : ℕ → List ℕ
falling zero = []
falling (suc b) = b ∷ falling b

-- The forward matches are 0, 1, 2 .. and the backward ones n, n-1 .., up to the places still open, and with these they are all.
-- "An empty needle gives the same list in both modes." (02 [3])
pub record EveryPlace (needle haystack : List ℕ) (mode : Mode) (calls : List Call) : Type 0 where
  pub forward : let a = open_from (reached needle haystack mode calls).walk.moving in
      (reached needle haystack mode calls).forward.matches ++ rising (length haystack + 1 - a) a ≡ rising (length haystack + 1) 0
  pub backward : (reached needle haystack mode calls).backward.matches ++ falling (open_below (length needle) (reached needle haystack mode calls).walk.moving) ≡ falling (length haystack + 1)
