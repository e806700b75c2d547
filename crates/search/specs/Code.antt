-- What the private functions of this crate ask of their arguments, and a search as they are given it.
-- Assumes nothing.
use Rattle.std.specs.Prelude.{◌≡◌, ℕ, ◌+◌, ◌-◌, ◌*◌, ◌^◌, ◌<◌, ◌≤◌, Bool, true, false, cond, ltb, List, length}
use Rattle.words.specs.Word.{Word, front}
use Rattle.words.specs.Choice.{first_from, least}
use Rattle.limits.specs.Checks.{Within}
use Rattle.byteset.specs.Fingerprint.{has}
use Rattle.windows.specs.declared.Plan.{Plan}
use Rattle.windows.specs.declared.Cursor.{Cursor}
use Rattle.windows.specs.declared.Outcome.{Outcome}
use Rattle.windows.specs.declared.Stop.{Stop}
use Rattle.windows.specs.declared.Searched.{Searched}
use Rattle.windows.specs.Window.{differs, forward_window, backward_window}
use Rattle.windows.specs.Search.{window_start, forward_search, backward_search}
use Rattle.windows.specs.Mirror.{mirrored_plan}
use Rattle.windows.specs.Shape.{Shape, BackShape}
use Rattle.empty.specs.declared.Side.{Side}
use Rattle.record.specs.declared.Flags.{Flags}
use Rattle.record.specs.declared.Fixed.{Fixed}
use Rattle.record.specs.declared.Moving.{Moving}
use Rattle.record.specs.Kinds.{flags_of}
use Rattle.record.specs.Fits.{fits}
use Rattle.search.specs.declared.Walked.{Walked}
use Rattle.search.specs.Calls.{two_way_forward, two_way_backward, empty_forward, empty_backward, forward_call, backward_call}

-- the first needle index from `from` on, and below `to`, at which the window at k differs, or `to`
abbrev pub first_up : Word → Word → ℕ → ℕ → ℕ → ℕ
first_up x h k from to = first_from (to - from) from (differs x h k)

-- how many letters agree from index `from` - 1 down to index `to`
abbrev pub agree_down : Word → Word → ℕ → ℕ → ℕ → ℕ
agree_down x h k from to = least (from - to) (λ d. differs x h k (from - (1 + d)))

-- a search from a cursor, with room for every window
abbrev pub forward_from : Bool → ℕ → Plan → List ℕ → List ℕ → Cursor → Searched
forward_from stepping set v needle haystack start =
    forward_search (length haystack + 1) stepping (has set) v (front needle) (front haystack) start.at start 0 0

abbrev pub backward_from : Bool → ℕ → Plan → List ℕ → List ℕ → Cursor → Searched
backward_from stepping set v needle haystack start =
    backward_search (length haystack + 1) stepping (has set) v (front needle) (front haystack) start.at start 0 0

-- a match ends inside what a usize can hold
abbrev pub StopFits : ℕ → Stop → Type 0
StopFits m (Stop.Hit k) = k + m < 2 ^ 63
StopFits m Stop.Passed = Unit {0}
StopFits m Stop.Out = Unit {0}

-- What a two way walk is taken on with: lengths within the bounds, and a state that fits and is no empty one.
pub record TwoWayStart (needle haystack : List ℕ) (f : Fixed) (s : Moving) : Type 0 where
  pub within : Within (length haystack) (length needle)
  pub fit : fits needle haystack f s ≡ true
  pub two_way : (flags_of s.kind).empty ≡ false

-- ---- The same by a direction, which is backward where the Bool is true.

abbrev pub window_of : Bool → (ℕ → Bool) → Plan → Word → Word → Cursor → Outcome
window_of backward has v x h s = cond backward (backward_window has v x h s) (forward_window has v x h s)

abbrev pub searched_from : Bool → Bool → ℕ → Plan → List ℕ → List ℕ → Cursor → Searched
searched_from backward stepping set v needle haystack start =
    cond backward (backward_from stepping set v needle haystack start) (forward_from stepping set v needle haystack start)

abbrev pub two_way : Bool → Bool → List ℕ → List ℕ → Fixed → Moving → Walked
two_way backward stepping needle haystack f s =
    cond backward (two_way_backward stepping needle haystack f s) (two_way_forward stepping needle haystack f s)

abbrev pub side_of : Bool → ℕ → Moving → Flags → Side
side_of backward n s flags =
    cond backward (record { ahead = s.end; is_match = flags.is_match_bw }) (record { ahead = n - s.position; is_match = flags.is_match_fw })

abbrev pub empty_way : Bool → Bool → ℕ → Moving → Flags → Walked
empty_way backward stepping n s flags = cond backward (empty_backward stepping s flags) (empty_forward stepping n s flags)

abbrev pub call : Bool → Bool → List ℕ → List ℕ → Fixed → Moving → Walked
call backward stepping needle haystack f s = cond backward (backward_call stepping needle haystack f s) (forward_call stepping needle haystack f s)

-- Of a cursor at `at`, for a needle of m letters in a haystack of n: whether there is room for a window, and where the window starts.
abbrev pub has_room : Bool → ℕ → ℕ → ℕ → Bool
has_room backward at m n = ltb (cond backward (window_start at m) (at + (m - 1))) n

abbrev pub window_at : Bool → ℕ → ℕ → ℕ
window_at backward at m = cond backward (at - m) at

-- the end of the haystack that a walk goes to
abbrev pub far_end : Bool → ℕ → ℕ
far_end backward n = cond backward 0 n

-- the plan of the walk in the mirror, where that is the forward one
abbrev pub plan_seen : Bool → ℕ → Plan → Plan
plan_seen backward m v = cond backward (mirrored_plan m v) v

-- What a search asks, for a needle of m letters in a haystack of n: a plan that fits, a cursor that fits, and lengths whose sums do not wrap.
pub record Start (backward : Bool) (m n : ℕ) (v : Plan) (s : Cursor) : Type 0 where
  pub shape : Shape (plan_seen backward m v) m
  pub back : BackShape v m
  pub within : s.at ≤ n
  pub memory : s.memory ≤ m
  pub small : 4 * n < 2 ^ 63
  pub needle : m < 2 ^ 63

-- What a window asks besides: that there is room for it.
abbrev pub Room : Bool → ℕ → ℕ → ℕ → Type 0
Room true at m n = m ≤ at
Room false at m n = at + m ≤ n

pub record Opens (backward : Bool) (m n : ℕ) (v : Plan) (s : Cursor) : Type 0 where
  pub start : Start backward m n v s
  pub room : Room backward s.at m n
