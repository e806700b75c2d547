-- What a text that was printed into a room leaves there, how many bytes an answer has, and what its parts come to.
-- Assumes nothing.
use Prim.Native.Nat.{ℕ, ◌+◌, ◌*◌, ◌^◌, ◌<◌, ◌≤◌}
use mathlib.Core.Path.{◌≡◌, ◌∙◌, refl, ap, sym, subst}
use mathlib.Core.List.{List, [], ◌∷◌, ◌++◌, append_assoc}
use native.Mathlib.Omega.{arith}
use lib.ListN.{length, take, drop, get_or, drop_of_length-le}
use lib.Seq.{drop-cons}
use native.Mathlib.Numerals.{add-one}
use Rattle.std.proofs.Math.Seq.{take-append_seam}
use Rattle.std.proofs.lemmas.List.Edits.{sets-eq}
use Rattle.std.proofs.Common.{inl, inr}
use Rattle.std.specs.Io.KnownBytes.{Appends}
use Rattle.std.proofs.KnownBytes.{Appends-trans}
use Rattle.std.proofs.lemmas.List.{length-append}
use Rattle.std.proofs.lemmas.Fmt.{length-decimal-le}
use Rattle.std.specs.Prelude.{Option, Result, Ok, Err, OnOk, MatchResult, codes}
use Rattle.std.specs.Fmt.{decimal}
use Rattle.limits.specs.declared.Refusal.{Refusal}
use Rattle.limits.specs.declared.Refusal.TheVariants.{HaystackTooLong, NeedleTooLong, EmptyNeedle, StateDoesNotFit, StepOverlapping}
use Rattle.printing.specs.Printing.{Prints}
use Rattle.limits.specs.Said.{said}
use Rattle.record.specs.declared.Counts.{Counts}
use Rattle.searcher.specs.Walk.{StepTerm, CallTold, told as call_told, step_said, stepped_told}
use Rattle.searcher.specs.declared.Called.{Called}
use Rattle.searcher.specs.declared.Step.{Step}
use Rattle.searcher.specs.declared.TwoWaySearcher.{TwoWaySearcher}
use Rattle.states.specs.States.{state_text}
use Rattle.suffix.specs.declared.Suffix.{Suffix}
use Rattle.suffix.specs.declared.ReverseSuffix.{ReverseSuffix}
use Rattle.twoway.specs.Find.{search_told}
use Rattle.twoway.specs.declared.Answer.{Answer}
use Rattle.walk.specs.Answers.{front_text, IsFrontShort, step_front, match_front, place_front, suffix_text, reverse_suffix_text, prepared_text, found_text, told_text, call_text, told_said, answer_text, most_bytes, AppendsAnswer, counts_text, walk_text, Tells, term_front, said_text, said_of, call_of, call_said, calls_text}
use Rattle.walk.specs.declared.call.Call.{Call}
use Rattle.walk.specs.declared.call.Told.{Told}
use Rattle.walk.specs.declared.case.Asked.{Asked}
use Rattle.walk.specs.declared.front.Front.{Front}
use Rattle.walk.specs.declared.front.Front.TheVariants.{At, Match, Reject, Refused}

-- a text that was printed from the start of a room on, and did not fill it, stands before the place behind it
pub whole_printed : (room text after : List ℕ) (r : ℕ) → Prints room 0 text after r → r < length room → take r after ≡ text
whole_printed room text after r p fits =
    let size : r ≡ length text = omega (arith, p.0) in
    let rest = drop (0 + length text) room in
    ap (take r) (p.1 ∙ sets-eq text room 0 (omega (arith, p.0))) ∙ ap (λ (n : ℕ). take n (text ++ rest)) size ∙ take-append_seam text rest

-- a number has at most 20 digits
pub number_size : (n : ℕ) → n < 2 ^ 64 → length (decimal n) ≤ 20
number_size n h = length-decimal-le 20 n (omega arith) (omega arith) h

-- so a front is short
pub at_size : (k : ℕ) → k < 2 ^ 64 → IsFrontShort (At k)
at_size k h = omega (arith, number_size k h)

pub match_size : (a b : ℕ) → a < 2 ^ 64 → b < 2 ^ 64 → IsFrontShort (Match a b)
match_size a b h i = simp length-append (omega (arith, number_size a h, number_size b i))

pub reject_size : (a b : ℕ) → a < 2 ^ 64 → b < 2 ^ 64 → IsFrontShort (Reject a b)
reject_size a b h i = simp length-append (omega (arith, number_size a h, number_size b i))

pub refused_size : (why : Refusal) → length (front_text (Refused why)) ≤ 24
refused_size HaystackTooLong = omega (arith, number_size 1 (omega arith))
refused_size NeedleTooLong = omega (arith, number_size 2 (omega arith))
refused_size EmptyNeedle = omega (arith, number_size 3 (omega arith))
refused_size StateDoesNotFit = omega (arith, number_size 4 (omega arith))
refused_size StepOverlapping = omega (arith, number_size 5 (omega arith))

-- and an answer is: of a maximal suffix, of a whole search, of preparing, and of a call
pub suffix_size : (answer : Result Suffix Refusal) (s : Suffix) → answer ≡ Ok s → s.start < 2 ^ 64 → s.period < 2 ^ 64 → s.rounds < 2 ^ 64
    → length (suffix_text (said answer)) ≤ 65
suffix_size answer s is h i j = rw is (simp length-append (omega (arith, number_size _ h, number_size _ i, number_size _ j)))

pub reverse_suffix_size : (answer : Result ReverseSuffix Refusal) (s : ReverseSuffix) → answer ≡ Ok s → s.start < 2 ^ 64 → s.rounds < 2 ^ 64
    → length (reverse_suffix_text (said answer)) ≤ 44
reverse_suffix_size answer s is h i = rw is (simp length-append (omega (arith, number_size _ h, number_size _ i)))

pub found_size : (r : Answer) (place : Option ℕ) → r.position ≡ Ok place → IsFrontShort (place_front place) → r.counts.preparing < 2 ^ 64
    → r.counts.comparisons < 2 ^ 64 → r.counts.tests < 2 ^ 64
    → length (found_text (search_told r)) ≤ 111
found_size r place is short h i j = rw is (simp length-append (omega (arith, short, number_size _ h, number_size _ i, number_size _ j)))

pub prepared_size : (p : Called (Unit {0})) (ready : Unit {0}) → p.answer ≡ Ok ready → length (state_text p.walk) ≤ 214 → p.counts.preparing < 2 ^ 64
    → length (prepared_text (call_told p)) ≤ 237
prepared_size p ready is state h = rw is (simp length-append (omega (arith, state, number_size _ h)))

pub told_size : (told : Told) → length (state_text told.walk) ≤ 214 → told.counts.comparisons < 2 ^ 64 → told.counts.tests < 2 ^ 64 → IsFrontShort told.front
    → length (told_text (told_said told)) ≤ 304
told_size told state h i short = simp length-append (omega (arith, state, short, number_size _ h, number_size _ i))

pub call_size : (front : Front) (counts : Counts) → counts.comparisons < 2 ^ 64 → counts.tests < 2 ^ 64 → IsFrontShort front
    → length (call_text (front_text front) counts) ≤ 91
call_size front counts h i short = simp length-append (omega (arith, short, number_size _ h, number_size _ i))

-- what is told of a step is what the searcher says of it, and what is told of a next match too
abbrev pub Gives : {A : Type 0} → (A → Front) → A → Front → Type 0
Gives front a result = (result ≡ front a) × IsFrontShort result

pub step_told : (called : Called Step) (told : Told) (rule : CallTold StepTerm) → Tells (Gives step_front) called told → stepped_told called ≡ rule
    → told_said told ≡ said_of term_front rule
step_told called told rule tells is =
    let text = go called.answer tells.front in
    let same : told_said told ≡ said_of term_front (stepped_told called) = cc (text, tells.walk, tells.counts) in
    same ∙ ap (said_of term_front) is where
      go : (answer : Result Step Refusal) → MatchResult answer (λ a. Gives step_front a told.front) (λ why. told.front ≡ Refused why)
          → front_text told.front ≡ said_text (λ a. front_text (term_front a)) (step_said answer)
      go (Ok (Step.Match a b)) fact = ap front_text fact.0
      go (Ok (Step.Reject a b)) fact = ap front_text fact.0
      go (Ok Step.Done) fact = ap front_text fact.0
      go (Err why) fact = ap front_text fact

pub match_told : (called : Called (Option (ℕ × ℕ))) (told : Told) (rule : CallTold (Option (ℕ × ℕ))) → Tells (Gives match_front) called told
    → call_told called ≡ rule
    → told_said told ≡ said_of match_front rule
match_told called told rule tells is =
    let text = go called.answer tells.front in
    let same : told_said told ≡ said_of match_front (call_told called) = cc (text, tells.walk, tells.counts) in
    same ∙ ap (said_of match_front) is where
      go : (answer : Result (Option (ℕ × ℕ)) Refusal) → MatchResult answer (λ a. Gives match_front a told.front) (λ why. told.front ≡ Refused why)
          → front_text told.front ≡ said_text (λ a. front_text (match_front a)) (said answer)
      go (Ok found) fact = ap front_text fact.0
      go (Err why) fact = ap front_text fact

told_short : {A : Type 0} (front : A → Front) (told : Told) (answer : Result A Refusal)
    → MatchResult answer (λ a. Gives front a told.front) (λ why. told.front ≡ Refused why) → IsFrontShort told.front
told_short front told (Ok a) fact = fact.1
told_short front told (Err why) fact = rw fact (omega (arith, refused_size why))

pub step_short : (called : Called Step) (told : Told) → Tells (Gives step_front) called told → IsFrontShort told.front
step_short called told tells = told_short step_front told called.answer tells.front

pub match_short : (called : Called (Option (ℕ × ℕ))) (told : Told) → Tells (Gives match_front) called told → IsFrontShort told.front
match_short called told tells = told_short match_front told called.answer tells.front

-- a fact that holds holds on `Ok`
pub on_ok : {A E P : Type 0} (r : Result A E) → P → OnOk r P
on_ok (Ok a) p = p
on_ok (Err e) p = tt

-- a line is answered by `bad line`, or by what it asks for
pub answers_badly : {E : Type 0} (most : ℕ) (old new : Option (List ℕ)) (r : Result (Unit {0}) E) → 8 ≤ most → OnOk r (Appends old new (codes "bad line"))
    → OnOk r (AppendsAnswer most old new)
answers_badly most old new (Ok done) h appends = record { text = codes "bad line"; appends = appends; answer = inl refl; short = h }
answers_badly most old new (Err e) h appends = tt

pub answers : {E : Type 0} (most : ℕ) (asked : Asked) (needle haystack : List ℕ) (old new : Option (List ℕ)) (r : Result (Unit {0}) E) → most_bytes asked ≤ most
    → OnOk r (Appends old new (answer_text asked needle haystack)) → OnOk r (length (answer_text asked needle haystack) ≤ most_bytes asked) → OnOk r (AppendsAnswer most old new)
answers most asked needle haystack old new (Ok done) h appends short = record {
  text = answer_text asked needle haystack;
  appends = appends;
  answer = inr (asked, needle, haystack, refl);
  short = omega (arith, short, h);
}
answers most asked needle haystack old new (Err e) h appends short = tt

-- of a whole text, `rest` is still to be written, and what was has at most `most` bytes
pub record Begun (whole rest : List ℕ) (most : ℕ) (old new : Option (List ℕ)) : Type 0 where
  pub text : List ℕ
  pub appends : Appends old new text
  pub short : length text ≤ most
  pub joined : text ++ rest ≡ whole

-- a walk begins with `ok PREPARING`
pub walk_begins : (p : Called (Unit {0})) (ready : Unit {0}) (rule : CallTold (Unit {0})) (script haystack needle : List ℕ) (old new : Option (List ℕ))
    → call_told p ≡ rule → p.answer ≡ Ok ready
    → p.counts.preparing < 2 ^ 64 → Appends old new (codes "ok" ++ counts_text (p.counts.preparing ∷ []))
    → Begun (walk_text rule script haystack needle) (calls_text script p.walk haystack needle) 23 old new
walk_begins p ready rule script haystack needle old new is answer h appends = record {
  text = codes "ok" ++ counts_text (p.counts.preparing ∷ []);
  appends = appends;
  short = omega (arith, number_size p.counts.preparing h);
  joined = rw (← is, answer);
}

-- the calls from the next letter on are that of the letter, and those behind it
calls_next : (script : List ℕ) (i : ℕ) (call : Call) (told : Told) (walk : TwoWaySearcher) (haystack needle : List ℕ) → i < length script
    → call ≡ call_of (get_or script i 0)
    → told_said told ≡ call_said call walk haystack needle
    → calls_text (drop i script) walk haystack needle ≡ call_text (front_text told.front) told.counts ++ calls_text (drop (i + 1) script) told.walk haystack needle
unfolding calls_text
calls_next script i call told walk haystack needle h read is = rw (drop-cons script i 0 h, ← read, ← is, add-one i)

-- so it goes on by 91 bytes at most for each
pub walk_goes_on : (whole script : List ℕ) (i : ℕ) (call : Call) (told : Told) (walk : TwoWaySearcher) (haystack needle : List ℕ) (old mid new : Option (List ℕ))
    → i < length script → call ≡ call_of (get_or script i 0)
    → told_said told ≡ call_said call walk haystack needle → Begun whole (calls_text (drop i script) walk haystack needle) (23 + 91 * i) old mid
    → Appends mid new (call_text (front_text told.front) told.counts) → length (call_text (front_text told.front) told.counts) ≤ 91
    → Begun whole (calls_text (drop (i + 1) script) told.walk haystack needle) (23 + 91 * (i + 1)) old new
walk_goes_on whole script i call told walk haystack needle old mid new h read is begun appends short =
    let piece = call_text (front_text told.front) told.counts in
    let next = calls_next script i call told walk haystack needle h read is in
    let both = length-append begun.text piece in
    record {
      text = begun.text ++ piece;
      appends = Appends-trans old mid new begun.text piece begun.appends appends;
      short = omega (arith, begun.short, both);
      joined = append_assoc begun.text piece _ ∙ ap (λ (l : List ℕ). begun.text ++ l) (sym next) ∙ begun.joined;
    }

-- and ends with the last state
pub walk_ends : {E : Type 0} (whole script : List ℕ) (i : ℕ) (walk : TwoWaySearcher) (haystack needle : List ℕ) (old mid new : Option (List ℕ)) (r : Result (Unit {0}) E)
    → length script ≤ i
    → Begun whole (calls_text (drop i script) walk haystack needle) (23 + 91 * i) old mid → OnOk r (Appends mid new (state_text walk)) → OnOk r (Appends old new whole)
unfolding calls_text
walk_ends whole script i walk haystack needle old mid new (Ok done) h begun appends =
    let joined = rw (drop_of_length-le script h) at begun.joined in
    subst (Appends old new) joined (Appends-trans old mid new begun.text (state_text walk) begun.appends appends)
walk_ends whole script i walk haystack needle old mid new (Err e) h begun appends = tt

pub walk_short : (whole script : List ℕ) (i : ℕ) (walk : TwoWaySearcher) (haystack needle : List ℕ) (old mid : Option (List ℕ)) → length script ≤ i
    → i ≤ length script
    → Begun whole (calls_text (drop i script) walk haystack needle) (23 + 91 * i) old mid → length (state_text walk) ≤ 214 → length whole ≤ 237 + 91 * length script
unfolding calls_text
walk_short whole script i walk haystack needle old mid h k begun short =
    let joined = rw (drop_of_length-le script h) at begun.joined in
    omega (arith, begun.short, ap length joined, length-append begun.text (state_text walk))
