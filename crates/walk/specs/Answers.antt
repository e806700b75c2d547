-- The answers of docs/LINES.md in text, by the rules of what the lines ask for, and how many bytes they can have.
-- Assumes nothing.
use Rattle.std.specs.Prelude.{ℕ, ◌+◌, ◌*◌, ◌≤◌, ◌≡◌, ◌⊎◌, cond, eqb, List, [], ◌∷◌, ◌++◌, length, codes, Option, Some, None, MatchResult}
use Rattle.std.specs.Fmt.{decimal}
use Rattle.std.specs.Io.KnownBytes.{Appends}
use Rattle.limits.specs.Refusals.{number_of}
use Rattle.limits.specs.Said.{Said, refused, given}
use Rattle.record.specs.declared.Counts.{Counts}
use Rattle.searcher.specs.Walk.{StepTerm, match, reject, done, CallTold, new_rule, next_rule, next_back_rule, next_match_rule, next_match_back_rule}
use Rattle.searcher.specs.declared.Called.{Called}
use Rattle.searcher.specs.declared.Step.{Step}
use Rattle.searcher.specs.declared.TwoWaySearcher.{TwoWaySearcher}
use Rattle.states.specs.States.{state_text}
use Rattle.suffix.specs.Answer.{maximal_rule, reverse_rule}
use Rattle.suffix.specs.declared.Suffix.{Suffix}
use Rattle.suffix.specs.declared.ReverseSuffix.{ReverseSuffix}
use Rattle.twoway.specs.Find.{SearchTold, find_rule, rfind_rule}
use Rattle.walk.specs.declared.call.Call.{Call}
use Rattle.walk.specs.declared.call.Told.{Told}
use Rattle.walk.specs.declared.case.Asked.{Asked}
use Rattle.walk.specs.declared.front.Front.{Front}
use Rattle.walk.specs.declared.front.Front.TheVariants.{Nothing, Done, At, Match, Reject, Refused}

-- ---- fronts and counts

-- `ref:N`: refused, by the number of the refusal
abbrev pub refused_text : ℕ → List ℕ
refused_text number = codes "ref:" ++ decimal number

-- that, or what there is in text
abbrev pub said_text : {A : Type 0} → (A → List ℕ) → Said A → List ℕ
said_text text (refused number) = refused_text number
said_text text (given a) = text a

-- RESULT: `match:A:B` or `reject:A:B` for the bytes from A to before B, `done`, `none` or `ref:N`; and `at:PLACE`
abbrev pub front_text : Front → List ℕ
front_text Nothing = codes "none"
front_text Done = codes "done"
front_text (At k) = codes "at:" ++ decimal k
front_text (Match a b) = codes "match:" ++ (decimal a ++ (codes ":" ++ decimal b))
front_text (Reject a b) = codes "reject:" ++ (decimal a ++ (codes ":" ++ decimal b))
front_text (Refused why) = refused_text (number_of why)

-- it has at most 48 bytes: those of `reject:A:B` with two numbers of 20 digits
abbrev pub IsFrontShort : Front → Type 0
IsFrontShort front = length (front_text front) ≤ 48

-- what a step gives as a front, what a next match does, and what a whole search does
abbrev pub step_front : Step → Front
step_front (Step.Match a b) = Match a b
step_front (Step.Reject a b) = Reject a b
step_front Step.Done = Done

abbrev pub match_front : Option (ℕ × ℕ) → Front
match_front None = Nothing
match_front (Some found) = Match found.0 found.1

abbrev pub place_front : Option ℕ → Front
place_front None = Nothing
place_front (Some k) = At k

-- counts, a space (32) before each
abbrev pub counts_text : List ℕ → List ℕ
counts_text [] = []
counts_text (n ∷ []) = 32 ∷ decimal n
counts_text (n ∷ m ∷ counts) = 32 ∷ (decimal n ++ counts_text (m ∷ counts))

-- ---- answers

-- `ok START PERIOD ROUNDS`, or `ref:N`
abbrev pub suffix_text : Said Suffix → List ℕ
suffix_text answer = said_text (λ s. codes "ok" ++ counts_text (s.start ∷ s.period ∷ s.rounds ∷ [])) answer

-- `ok START ROUNDS`, or `ref:N`
abbrev pub reverse_suffix_text : Said ReverseSuffix → List ℕ
reverse_suffix_text answer = said_text (λ s. codes "ok" ++ counts_text (s.start ∷ s.rounds ∷ [])) answer

-- `ok STATE PREPARING`, or `ref:N`; the text of a state has a space before it
abbrev pub prepared_text : CallTold (Unit {0}) → List ℕ
prepared_text p = said_text (λ ready. codes "ok" ++ (state_text p.walk ++ counts_text (p.counts.preparing ∷ []))) p.answer

-- `at:PLACE PREPARING COMPARISONS TESTS`, `none PREPARING COMPARISONS TESTS`, or `ref:N`
abbrev pub found_text : SearchTold → List ℕ
found_text r =
    said_text (λ place. front_text (place_front place) ++ counts_text (r.counts.preparing ∷ r.counts.comparisons ∷ r.counts.tests ∷ [])) r.position

-- a call: its RESULT in text, the state behind it, and its counts
pub record CallSaid : Type 0 where
  pub result : List ℕ
  pub walk : TwoWaySearcher
  pub counts : Counts

-- `RESULT STATE COMPARISONS TESTS`
abbrev pub told_text : CallSaid → List ℕ
told_text call = call.result ++ (state_text call.walk ++ counts_text (call.counts.comparisons ∷ call.counts.tests ∷ []))

-- in a walk ` RESULT/COMPARISONS/TESTS`
abbrev pub call_text : List ℕ → Counts → List ℕ
call_text result counts = 32 ∷ (result ++ (codes "/" ++ (decimal counts.comparisons ++ (codes "/" ++ decimal counts.tests))))

-- what the code tells of a call, in text
abbrev pub told_said : Told → CallSaid
told_said told = record { result = front_text told.front; walk = told.walk; counts = told.counts }

-- what it makes of what the searcher hands back, where `gives` is how that gives a front
pub record Tells {A : Type 0} (gives : A → Front → Type 0) (called : Called A) (told : Told) : Type 0 where
  pub front : MatchResult called.answer (λ a. gives a told.front) (λ why. told.front ≡ Refused why)
  pub walk : told.walk ≡ called.walk
  pub counts : told.counts ≡ called.counts

-- ---- the rules

-- what a step's term is as a front
abbrev pub term_front : StepTerm → Front
term_front (match a b) = Match a b
term_front (reject a b) = Reject a b
term_front done = Done

abbrev pub said_of : {A : Type 0} → (A → Front) → CallTold A → CallSaid
said_of front r = record { result = said_text (λ a. front_text (front a)) r.answer; walk = r.walk; counts = r.counts }

-- a call in a state, by the rule of its kind
unfoldable pub call_said : Call → TwoWaySearcher → List ℕ → List ℕ → CallSaid
call_said Call.Step walk haystack needle = said_of term_front (next_rule needle haystack walk)
call_said Call.StepBack walk haystack needle = said_of term_front (next_back_rule needle haystack walk)
call_said Call.Next walk haystack needle = said_of match_front (next_match_rule needle haystack walk)
call_said Call.NextBack walk haystack needle = said_of match_front (next_match_back_rule needle haystack walk)

-- the call of a letter: `f` (102) step, `b` (98) step back, `F` (70) next match, `B` next match back
abbrev pub call_of : ℕ → Call
call_of letter = cond (eqb letter 102) Call.Step (cond (eqb letter 98) Call.StepBack (cond (eqb letter 70) Call.Next Call.NextBack))

-- a script's calls, each in the state that the one before left, and behind them the last state
unfoldable pub calls_text : List ℕ → TwoWaySearcher → List ℕ → List ℕ → List ℕ
calls_text [] walk haystack needle = state_text walk
calls_text (letter ∷ script) walk haystack needle =
    let call = call_said (call_of letter) walk haystack needle in
    call_text call.result call.counts ++ calls_text script call.walk haystack needle

-- `ok PREPARING RESULT/COMPARISONS/TESTS .. STATE`, or `ref:N`
abbrev pub walk_text : CallTold (Unit {0}) → List ℕ → List ℕ → List ℕ → List ℕ
walk_text p script haystack needle =
    said_text (λ ready. (codes "ok" ++ counts_text (p.counts.preparing ∷ [])) ++ calls_text script p.walk haystack needle) p.answer

-- the answer to a line that is well formed, by what it asks for, its needle and its haystack
abbrev pub answer_text : Asked → List ℕ → List ℕ → List ℕ
answer_text (Asked.Suffix greater) needle haystack = suffix_text (maximal_rule greater needle)
answer_text (Asked.ReverseSuffix known greater) needle haystack = reverse_suffix_text (reverse_rule greater known needle)
answer_text (Asked.Prepare n mode) needle haystack = prepared_text (new_rule needle n mode)
answer_text Asked.Find needle haystack = found_text (find_rule haystack needle)
answer_text Asked.FindBack needle haystack = found_text (rfind_rule haystack needle)
answer_text (Asked.Call call walk) needle haystack = told_text (call_said call walk haystack needle)
answer_text (Asked.Walk mode script) needle haystack = walk_text (new_rule needle (length haystack) mode) script.now haystack needle

-- the answer to a line: that, or `bad line`
abbrev pub IsAnswer : List ℕ → Type 0
IsAnswer text =
    (text ≡ codes "bad line") ⊎ ((asked : Asked) × (needle : List ℕ) × (haystack : List ℕ) × (text ≡ answer_text asked needle haystack))

-- ---- how many bytes it has

-- a walk has `ok PREPARING`, 23 bytes at most, 91 for each call, and 214 for its state; no other answer has more than a call's 304
abbrev pub most_bytes : Asked → ℕ
most_bytes (Asked.Walk mode script) = 237 + 91 * length script.now
most_bytes asked = 304

-- known bytes grow by the answer to a line, of `most` bytes at most
pub record AppendsAnswer (most : ℕ) (old new : Option (List ℕ)) : Type 0 where
  pub text : List ℕ
  pub appends : Appends old new text
  pub answer : IsAnswer text
  pub short : length text ≤ most
