-- What the two maximal suffix calls answer: the rule, which settles the answer for every word, and what the answer means.
-- Assumes nothing.
use Rattle.std.specs.Prelude.{ℕ, ◌+◌, ◌*◌, ◌<◌, ◌≤◌, ◌≡◌, Bool, cond, List, ltb, length}
use Rattle.std.specs.Prelude.{None, Some}
use Rattle.words.specs.Word.{Word, front, back, suffix}
use Rattle.words.specs.Period.{Period, SmallestPeriod}
use Rattle.words.specs.Order.{MaximalSuffix}
use Rattle.limits.specs.Bounds.{needle_bound}
use Rattle.limits.specs.Said.{Said, refused, given}
use Rattle.suffix.specs.Rounds.{rounds}
use Rattle.suffix.specs.declared.State.{State}
use Rattle.suffix.specs.declared.Suffix.{Suffix}
use Rattle.suffix.specs.declared.ReverseSuffix.{ReverseSuffix}

-- what every state of the loop satisfies
pub record Sound (s : State) : Type 0 where
  pub fits : s.left + s.period ≤ s.right
  pub short : s.offset < s.period

-- "The two maximal suffix calls make only check 2, on their word"; else the rounds of the source decide
unfoldable pub maximal_rule : Bool → List ℕ → Said Suffix
maximal_rule g w = cond (ltb needle_bound (length w)) (refused 2) (given (rounds g (front w) None))

-- "`reverse_maximal_suffix` does the same on the reversed word, gives the start only"
unfoldable pub reverse_rule : Bool → ℕ → List ℕ → Said ReverseSuffix
reverse_rule g known w =
    let r = rounds g (back w) (Some known) in
    cond (ltb needle_bound (length w)) (refused 2) (given (record { start = r.start; rounds = r.rounds }))

-- "`maximal_suffix` gives its start and its smallest period; for an empty word 0 and 1", and the rounds are at most twice the word's length
pub record IsFound (g : Bool) (x : Word) (r : Suffix) : Type 0 where
  pub maximal : MaximalSuffix g x r.start
  pub period : 0 < x.size → SmallestPeriod (suffix x r.start) r.period
  pub empty : x.size ≡ 0 → (r.period ≡ 1) × (r.rounds ≡ 0)
  pub few : r.rounds ≤ 2 * x.size

-- refused exactly if the word is over the bound
abbrev pub MaximalMeaning : Bool → List ℕ → Said Suffix → Type 0
MaximalMeaning g w (given s) = (length w ≤ needle_bound) × IsFound g (front w) s
MaximalMeaning g w (refused number) = (needle_bound < length w) × (number ≡ 2)

-- "With the needle's smallest period as the known one, the start is the true one": any period of the whole word will do
abbrev pub ReverseMeaning : Bool → ℕ → List ℕ → Said ReverseSuffix → Type 0
ReverseMeaning g known w (given s) =
    (length w ≤ needle_bound) × (s.rounds ≤ 2 * length w) × (Period (front w) known → MaximalSuffix g (back w) s.start)
ReverseMeaning g known w (refused number) = (needle_bound < length w) × (number ≡ 2)
