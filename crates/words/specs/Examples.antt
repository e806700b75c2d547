-- 01's examples, computed from the definitions of this crate alone: one table under one claim.
-- The letters are ASCII: "a" is 97. Assumes nothing.
use Rattle.std.specs.Prelude.{ℕ, ◌+◌, Bool, true, false, ◌&&◌, List, [], ◌∷◌, map, T, eqb}
use Rattle.words.specs.Word.{front, back, suffix}
use Rattle.words.specs.Choice.{every, first_from}
use Rattle.words.specs.Occurs.{occursb, next_from, leftmost, rightmost}
use Rattle.words.specs.Listed.{passing, occurrences}
use Rattle.words.specs.Period.{periodb, smallest_period, local_repeatb, local_period}
use Rattle.words.specs.Order.{lessb, maximalb, maximal_suffix}

abbrev pub aab : List ℕ
aab = 97 ∷ 97 ∷ 98 ∷ []

abbrev pub gcagagag : List ℕ
gcagagag = 103 ∷ 99 ∷ 97 ∷ 103 ∷ 97 ∷ 103 ∷ 97 ∷ 103 ∷ []

abbrev pub banana : List ℕ
banana = 98 ∷ 97 ∷ 110 ∷ 97 ∷ 110 ∷ 97 ∷ []

abbrev pub nana : List ℕ
nana = 110 ∷ 97 ∷ 110 ∷ 97 ∷ []

abbrev pub aabaab : List ℕ
aabaab = 97 ∷ 97 ∷ 98 ∷ aab

abbrev pub ababab : List ℕ
ababab = 97 ∷ 98 ∷ 97 ∷ 98 ∷ 97 ∷ 98 ∷ []

abbrev pub acba : List ℕ
acba = 97 ∷ 99 ∷ 98 ∷ 97 ∷ []

abbrev pub abdc : List ℕ
abdc = 97 ∷ 98 ∷ 100 ∷ 99 ∷ []

abbrev pub baabb : List ℕ
baabb = 98 ∷ 97 ∷ 97 ∷ 98 ∷ 98 ∷ []

abbrev pub xacbaacbxxcba : List ℕ
xacbaacbxxcba = 120 ∷ 97 ∷ 99 ∷ 98 ∷ 97 ∷ 97 ∷ 99 ∷ 98 ∷ 120 ∷ 120 ∷ 99 ∷ 98 ∷ 97 ∷ []

abbrev pub aa : List ℕ
aa = 97 ∷ 97 ∷ []

abbrev pub aaa : List ℕ
aaa = 97 ∷ aa

-- where the maximal suffix of a word starts, and that suffix's smallest period
abbrev pub split : Bool → List ℕ → List ℕ
split g w = maximal_suffix g (front w) ∷ smallest_period (suffix (front w) (maximal_suffix g (front w))) ∷ []

-- the local periods of a word at its splits, from 0 to its size
abbrev pub locals : List ℕ → List ℕ
locals w = map (local_period (front w)) (passing ((front w).size + 1) 0 (λ i. true))

-- the places that a whole walk lists at a gap, forward and backward
abbrev pub forward_by : ℕ → List ℕ → List ℕ → List ℕ
forward_by gap x h = leftmost 100 (front x) (front h) gap 0

abbrev pub backward_by : ℕ → List ℕ → List ℕ → List ℕ
backward_by gap x h = rightmost 100 (front x) (front h) gap ((front h).size + 1)

-- at the needle's size, so that no two overlap
abbrev pub forward : List ℕ → List ℕ → List ℕ
forward x h = forward_by (front x).size x h

abbrev pub backward : List ℕ → List ℕ → List ℕ
backward x h = backward_by (front x).size x h

-- what the definitions give, beside what 01 says
pub record Example : Type 0 where
  pub computed : List ℕ
  pub stated : List ℕ

abbrev pub table : List Example
table =
    -- P1 to P3: the maximal suffix's start and period, false and true order
    record { computed = split false aab; stated = 2 ∷ 1 ∷ [] }
    ∷ record { computed = split true aab; stated = 0 ∷ 3 ∷ [] }
    ∷ record { computed = split false gcagagag; stated = 0 ∷ 7 ∷ [] }
    ∷ record { computed = split true gcagagag; stated = 2 ∷ 2 ∷ [] }
    ∷ record { computed = split false banana; stated = 2 ∷ 2 ∷ [] }
    ∷ record { computed = split true banana; stated = 1 ∷ 2 ∷ [] }
    -- P4 to P8: the smallest period
    ∷ record { computed = smallest_period (front aabaab) ∷ []; stated = 3 ∷ [] }
    ∷ record { computed = smallest_period (front ababab) ∷ []; stated = 2 ∷ [] }
    ∷ record { computed = smallest_period (front acba) ∷ []; stated = 3 ∷ [] }
    ∷ record { computed = smallest_period (front abdc) ∷ []; stated = 4 ∷ [] }
    ∷ record { computed = smallest_period (front baabb) ∷ []; stated = 4 ∷ [] }
    -- P6: b is m minus the greater of the two reverse starts, so that greater one is 2
    ∷ record { computed = maximal_suffix false (back acba) ∷ maximal_suffix true (back acba) ∷ []; stated = 2 ∷ 0 ∷ [] }
    -- P9 and P10: "nana" in "banana"
    ∷ record { computed = forward nana banana; stated = 2 ∷ [] }
    ∷ record { computed = backward nana banana; stated = 2 ∷ [] }
    -- P11: "aa" in "aaa" from both ends
    ∷ record { computed = forward aa aaa; stated = 0 ∷ [] }
    ∷ record { computed = backward aa aaa; stated = 1 ∷ [] }
    -- P12: "acba" in "xacbaacbxxcba", from the back
    ∷ record { computed = backward acba xacbaacbxxcba; stated = 1 ∷ [] }
    -- a walk lists what does not overlap: "aa" in "aaaa", and "a" in "banana"
    ∷ record { computed = forward aa (97 ∷ aaa); stated = 0 ∷ 2 ∷ [] }
    ∷ record { computed = backward (97 ∷ []) banana; stated = 5 ∷ 3 ∷ 1 ∷ [] }
    -- every occurrence, each place tried by itself: "aa" in "aaaa", and the empty word in "aaa"
    ∷ record { computed = occurrences (front aa) (front (97 ∷ aaa)); stated = 0 ∷ 1 ∷ 2 ∷ [] }
    ∷ record { computed = occurrences (front []) (front aaa); stated = 0 ∷ 1 ∷ 2 ∷ 3 ∷ [] }
    -- at a gap of 1 the greedy list has them all: of the same
    ∷ record { computed = forward_by 1 aa (97 ∷ aaa); stated = 0 ∷ 1 ∷ 2 ∷ [] }
    ∷ record { computed = backward_by 1 aa (97 ∷ aaa); stated = 2 ∷ 1 ∷ 0 ∷ [] }
    ∷ record { computed = forward_by 1 [] aaa; stated = 0 ∷ 1 ∷ 2 ∷ 3 ∷ [] }
    ∷ record { computed = backward_by 1 [] aaa; stated = 3 ∷ 2 ∷ 1 ∷ 0 ∷ [] }
    -- the local period at every split, from 0 on: of the empty word, of "ab", of "banana", and of P4 to P8's needles, for which c and b are critical
    ∷ record { computed = locals []; stated = 1 ∷ [] }
    ∷ record { computed = locals (97 ∷ 98 ∷ []); stated = 1 ∷ 2 ∷ 1 ∷ [] }
    ∷ record { computed = locals banana; stated = 1 ∷ 6 ∷ 6 ∷ 2 ∷ 2 ∷ 2 ∷ 1 ∷ [] }
    ∷ record { computed = locals aabaab; stated = 1 ∷ 1 ∷ 3 ∷ 3 ∷ 1 ∷ 3 ∷ 1 ∷ [] }
    ∷ record { computed = locals ababab; stated = 1 ∷ 2 ∷ 2 ∷ 2 ∷ 2 ∷ 2 ∷ 1 ∷ [] }
    ∷ record { computed = locals acba; stated = 1 ∷ 3 ∷ 3 ∷ 3 ∷ 1 ∷ [] }
    ∷ record { computed = locals abdc; stated = 1 ∷ 4 ∷ 4 ∷ 4 ∷ 1 ∷ [] }
    ∷ record { computed = locals baabb; stated = 1 ∷ 3 ∷ 1 ∷ 4 ∷ 1 ∷ 1 ∷ [] }
    ∷ []

unfoldable pub same : List ℕ → List ℕ → Bool
same [] [] = true
same [] (y ∷ ys) = false
same (x ∷ xs) [] = false
same (x ∷ xs) (y ∷ ys) = eqb x y && same xs ys

unfoldable pub all_as_stated : List Example → Bool
all_as_stated [] = true
all_as_stated (e ∷ es) = same e.computed e.stated && all_as_stated es

pub examples : T (all_as_stated table)
unfolding all_as_stated same passing maximal_suffix maximalb lessb smallest_period periodb local_period local_repeatb leftmost rightmost next_from occursb every first_from
examples = tt
