-- 01's checked examples P1 to P12, the walks of an empty needle, and those whose matches may overlap, from the rules: one table under one claim.
-- The letters are ASCII: "a" is 97. Assumes nothing.
use Rattle.std.specs.Prelude.{ℕ, zero, suc, ◌+◌, Bool, true, false, List, [], ◌∷◌, ◌++◌, T, length}
use Rattle.std.specs.Prelude.{Option, None, Some}
use Rattle.words.specs.Choice.{first_from}
use Rattle.words.specs.Examples.{Example, same, all_as_stated, aab, gcagagag, banana, nana, acba, xacbaacbxxcba, aa, aaa}
use Rattle.limits.specs.Bounds.{haystack_bound, needle_bound}
use Rattle.limits.specs.Checks.{lengths}
use Rattle.limits.specs.Said.{Said, refused, given}
use Rattle.byteset.specs.Fingerprint.{bit_of, into, fingerprint, has}
use Rattle.compare.specs.Agree.{agreeing, agree}
use Rattle.suffix.specs.Rounds.{round_on, run, rounds}
use Rattle.suffix.specs.Answer.{maximal_rule}
use Rattle.suffix.specs.declared.Suffix.{Suffix}
use Rattle.windows.specs.Window.{forward_window, backward_window}
use Rattle.windows.specs.Search.{forward_search, backward_search}
use Rattle.record.specs.Fits.{fits_short, fits_long, fits, fitting}
use Rattle.record.specs.declared.Memory.{Memory}
use Rattle.record.specs.declared.Memory.TheVariants.{Long, Short}
use Rattle.record.specs.declared.Mode.{Mode}
use Rattle.record.specs.declared.Mode.TheVariants.{NonOverlapping, Overlapping}
use Rattle.empty.specs.Turns.{stepped, turned}
use Rattle.prepare.specs.Prepare.{chosen, forward_rounds, reverse_rounds, prepare_short, prepare_long, five_steps, prepare_rule}
use Rattle.search.specs.Calls.{refusal, forward, backward, forward_call, backward_call}
use Rattle.searcher.specs.Walk.{StepTerm, match, reject, done, CallTold, new_rule, next_rule, next_back_rule, next_match_rule, next_match_back_rule}
use Rattle.searcher.specs.declared.TwoWaySearcher.{TwoWaySearcher}
use Rattle.twoway.specs.Find.{searched, rfind_rule, code_of}

-- the maximal suffix's start and period, or a refusal's number alone
abbrev pub suffix_numbers : Said Suffix → List ℕ
suffix_numbers (given r) = r.start ∷ r.period ∷ []
suffix_numbers (refused number) = number ∷ []

abbrev pub pair : Bool → List ℕ → List ℕ
pair g w = suffix_numbers (maximal_rule g w)

-- Short is written as its two numbers, and Long as the empty list
abbrev pub memory : Memory → List ℕ
memory Long = []
memory (Short ahead behind) = ahead ∷ behind ∷ []

-- what preparing settles: c, b, p and the memory
abbrev pub splits : List ℕ → List ℕ
splits needle =
    let s = (new_rule needle 0 NonOverlapping).walk in
    s.fixed.crit_pos ∷ s.fixed.crit_pos_back ∷ s.fixed.period ∷ memory s.moving.memory

-- a Match is 1 with its two ends, a Reject 2 with its two, Done 3, and a refusal 4 with its number
abbrev pub step : Said StepTerm → List ℕ
step (given (match a b)) = 1 ∷ a ∷ b ∷ []
step (given (reject a b)) = 2 ∷ a ∷ b ∷ []
step (given done) = 3 ∷ []
step (refused number) = 4 ∷ number ∷ []

-- a next match in the same way, and none 3
abbrev pub found : Said (Option (ℕ × ℕ)) → List ℕ
found (given (Some (a, b))) = 1 ∷ a ∷ b ∷ []
found (given None) = 3 ∷ []
found (refused number) = 4 ∷ number ∷ []

-- so many calls in a row
unfoldable pub walk : {A : Type 0} → ℕ → (TwoWaySearcher → CallTold A) → TwoWaySearcher → List (CallTold A)
walk zero rule s = []
walk (suc more) rule s = let r = rule s in r ∷ walk more rule r.walk

abbrev pub ahead : ℕ → List ℕ → List ℕ → List (CallTold StepTerm)
ahead k needle haystack = walk k (next_rule needle haystack) (new_rule needle (length haystack) NonOverlapping).walk

abbrev pub behind : ℕ → List ℕ → List ℕ → List (CallTold StepTerm)
behind k needle haystack = walk k (next_back_rule needle haystack) (new_rule needle (length haystack) NonOverlapping).walk

-- the same of next matches, in a mode
abbrev pub matches : Mode → ℕ → List ℕ → List ℕ → List (CallTold (Option (ℕ × ℕ)))
matches mode k needle haystack = walk k (next_match_rule needle haystack) (new_rule needle (length haystack) mode).walk

abbrev pub matches_back : Mode → ℕ → List ℕ → List ℕ → List (CallTold (Option (ℕ × ℕ)))
matches_back mode k needle haystack = walk k (next_match_back_rule needle haystack) (new_rule needle (length haystack) mode).walk

-- their answers one behind the other
unfoldable pub answers : {A : Type 0} → (Said A → List ℕ) → List (CallTold A) → List ℕ
answers numbers [] = []
answers numbers (r ∷ rs) = numbers r.answer ++ answers numbers rs

-- and the comparisons and the tests that all of them made
unfoldable pub made : {A : Type 0} → List (CallTold A) → ℕ → ℕ → List ℕ
made [] comparisons tests = comparisons ∷ tests ∷ []
made (r ∷ rs) comparisons tests = made rs (comparisons + r.counts.comparisons) (tests + r.counts.tests)

-- "aaaa" and "baabb"
abbrev pub aaaa : List ℕ
aaaa = 97 ∷ aaa

abbrev pub baabb : List ℕ
baabb = 98 ∷ 97 ∷ 97 ∷ 98 ∷ 98 ∷ []

abbrev pub table : List Example
table =
    -- P1, maximal suffix of "aab": "false (2,1), true (0,3)"
    record { computed = pair false aab ++ pair true aab; stated = 2 ∷ 1 ∷ 0 ∷ 3 ∷ [] }
    -- P2, "gcagagag": "false (0,7), true (2,2)"
    ∷ record { computed = pair false gcagagag ++ pair true gcagagag; stated = 0 ∷ 7 ∷ 2 ∷ 2 ∷ [] }
    -- P3, "banana": "false (2,2), true (1,2)"
    ∷ record { computed = pair false banana ++ pair true banana; stated = 2 ∷ 2 ∷ 1 ∷ 2 ∷ [] }
    -- P4, prepare "aabaab": "c 2, b 5, p 3, Short", whose memories are "0 and m"
    ∷ record { computed = splits (97 ∷ 97 ∷ 98 ∷ 97 ∷ 97 ∷ 98 ∷ []); stated = 2 ∷ 5 ∷ 3 ∷ 0 ∷ 6 ∷ [] }
    -- P5, "ababab": "c 1, b 5, p 2, Short"
    ∷ record { computed = splits (97 ∷ 98 ∷ 97 ∷ 98 ∷ 97 ∷ 98 ∷ []); stated = 1 ∷ 5 ∷ 2 ∷ 0 ∷ 6 ∷ [] }
    -- P6, "acba": "c 1, b 2, p 3, Short"
    ∷ record { computed = splits acba; stated = 1 ∷ 2 ∷ 3 ∷ 0 ∷ 4 ∷ [] }
    -- P7, "abdc": "c 2, b 2, p 3, Long"
    ∷ record { computed = splits (97 ∷ 98 ∷ 100 ∷ 99 ∷ []); stated = 2 ∷ 2 ∷ 3 ∷ [] }
    -- P8, "baabb": "c 3, b 3, p 4, Long"
    ∷ record { computed = splits baabb; stated = 3 ∷ 3 ∷ 4 ∷ [] }
    -- P9, "nana" in "banana", forward: "preparing 10; Reject(0,2), Match(2,6), Done; 6 comparisons, 2 tests"
    ∷ record { computed = (new_rule nana 6 NonOverlapping).counts.preparing ∷ []; stated = 10 ∷ [] }
    ∷ record { computed = answers step (ahead 3 nana banana); stated = 2 ∷ 0 ∷ 2 ∷ 1 ∷ 2 ∷ 6 ∷ 3 ∷ [] }
    ∷ record { computed = made (ahead 3 nana banana) 0 0; stated = 6 ∷ 2 ∷ [] }
    -- P10, same, backward: "Match(2,6), Reject(0,2), Done; 4 comparisons, 1 test"
    ∷ record { computed = answers step (behind 3 nana banana); stated = 1 ∷ 2 ∷ 6 ∷ 2 ∷ 0 ∷ 2 ∷ 3 ∷ [] }
    ∷ record { computed = made (behind 3 nana banana) 0 0; stated = 4 ∷ 1 ∷ [] }
    -- P11, "aa" in "aaa": "forward Match(0,2), Reject(2,3); backward Match(1,3), Reject(0,1)"
    ∷ record { computed = answers step (ahead 2 aa aaa); stated = 1 ∷ 0 ∷ 2 ∷ 2 ∷ 2 ∷ 3 ∷ [] }
    ∷ record { computed = answers step (behind 2 aa aaa); stated = 1 ∷ 1 ∷ 3 ∷ 2 ∷ 0 ∷ 1 ∷ [] }
    -- P12, rfind "acba" in "xacbaacbxxcba": "1"
    ∷ record { computed = code_of (rfind_rule xacbaacbxxcba acba).position ∷ []; stated = 1 ∷ [] }
    -- 02 [1], an empty needle in no byte and in "aa", past Done: "forward Match(0,0), Reject(0,1), Match(1,1) up to Match(n,n), then Done"
    ∷ record { computed = answers step (ahead 3 [] []); stated = 1 ∷ 0 ∷ 0 ∷ 3 ∷ 3 ∷ [] }
    ∷ record { computed = answers step (ahead 7 [] aa); stated = 1 ∷ 0 ∷ 0 ∷ 2 ∷ 0 ∷ 1 ∷ 1 ∷ 1 ∷ 1 ∷ 2 ∷ 1 ∷ 2 ∷ 1 ∷ 2 ∷ 2 ∷ 3 ∷ 3 ∷ [] }
    -- "backward the mirror"
    ∷ record { computed = answers step (behind 3 [] []); stated = 1 ∷ 0 ∷ 0 ∷ 3 ∷ 3 ∷ [] }
    ∷ record { computed = answers step (behind 7 [] aa); stated = 1 ∷ 2 ∷ 2 ∷ 2 ∷ 1 ∷ 2 ∷ 1 ∷ 1 ∷ 1 ∷ 2 ∷ 0 ∷ 1 ∷ 1 ∷ 0 ∷ 0 ∷ 3 ∷ 3 ∷ [] }
    -- "all counts are 0"
    ∷ record { computed = (new_rule [] 2 NonOverlapping).counts.preparing ∷ made (ahead 7 [] aa ++ behind 7 [] aa) 0 0; stated = 0 ∷ 0 ∷ 0 ∷ [] }
    -- 02 [3], "aa" in "aaaa": "at 0, 1, 2", and backward; then none. 4 comparisons and 3 tests each way, where 2n-m is 6
    ∷ record { computed = answers found (matches Overlapping 4 aa aaaa); stated = 1 ∷ 0 ∷ 2 ∷ 1 ∷ 1 ∷ 3 ∷ 1 ∷ 2 ∷ 4 ∷ 3 ∷ [] }
    ∷ record { computed = answers found (matches_back Overlapping 4 aa aaaa); stated = 1 ∷ 2 ∷ 4 ∷ 1 ∷ 1 ∷ 3 ∷ 1 ∷ 0 ∷ 2 ∷ 3 ∷ [] }
    ∷ record { computed = made (matches Overlapping 4 aa aaaa) 0 0 ++ made (matches_back Overlapping 4 aa aaaa) 0 0; stated = 4 ∷ 3 ∷ 4 ∷ 3 ∷ [] }
    -- P8's needle twice, the second on the first's last letter: "Long moves by its stored p"
    ∷ record { computed = answers found (matches Overlapping 3 baabb (98 ∷ 97 ∷ 97 ∷ 98 ∷ baabb)); stated = 1 ∷ 0 ∷ 5 ∷ 1 ∷ 4 ∷ 9 ∷ 3 ∷ [] }
    ∷ record { computed = answers found (matches_back Overlapping 3 baabb (98 ∷ 97 ∷ 97 ∷ 98 ∷ baabb)); stated = 1 ∷ 4 ∷ 9 ∷ 1 ∷ 0 ∷ 5 ∷ 3 ∷ [] }
    -- "A step call in this mode is refused with new number 5"
    ∷ record { computed = step (next_rule aa aaaa (new_rule aa 4 Overlapping).walk).answer ++ step (next_back_rule aa aaaa (new_rule aa 4 Overlapping).walk).answer; stated = 4 ∷ 5 ∷ 4 ∷ 5 ∷ [] }
    -- "An empty needle gives the same list in both modes."
    ∷ record { computed = answers found (matches Overlapping 4 [] aa); stated = answers found (matches NonOverlapping 4 [] aa) }
    ∷ record { computed = answers found (matches Overlapping 4 [] aa); stated = 1 ∷ 0 ∷ 0 ∷ 1 ∷ 1 ∷ 1 ∷ 1 ∷ 2 ∷ 2 ∷ 3 ∷ [] }
    ∷ []

pub examples : T (all_as_stated table)
unfolding all_as_stated same first_from haystack_bound needle_bound lengths bit_of into fingerprint has agreeing agree round_on run rounds maximal_rule forward_window backward_window forward_search backward_search fits_short fits_long fits fitting chosen forward_rounds reverse_rounds prepare_short prepare_long five_steps prepare_rule stepped turned refusal forward backward forward_call backward_call searched walk answers made
examples = tt
