-- The rounds of the source's maximal suffix loop, over a word read in either direction. Executable.
-- Assumes nothing.
use Rattle.std.specs.Prelude.{ℕ, zero, suc, ◌+◌, ◌-◌, ◌*◌, Bool, false, cond, ltb, eqb}
use Rattle.std.specs.Prelude.{Option, None, Some}
use Rattle.words.specs.Word.{Word}
use Rattle.words.specs.Order.{below}
use Rattle.suffix.specs.declared.State.{State}
use Rattle.suffix.specs.declared.Suffix.{Suffix}

-- One round, on the new letter a and the letter b that is expected there:
-- a is lower: "Suffix is smaller, period is entire prefix so far";
-- a is the same: "Advance through repetition of the current period";
-- a is higher: "Suffix is larger, start over from current location".
unfoldable pub round_on : Bool → ℕ → ℕ → State → State
round_on g a b s =
    cond (below g a b)
    (record {
      left = s.left;
      right = s.right + (s.offset + 1);
      offset = 0;
      period = s.right + (s.offset + 1) - s.left;
    })
    (cond (eqb a b)
    (cond (eqb (s.offset + 1) s.period)
    (record { left = s.left; right = s.right + (s.offset + 1); offset = 0; period = s.period })
    (record { left = s.left; right = s.right; offset = s.offset + 1; period = s.period }))
    (record { left = s.right; right = s.right + 1; offset = 0; period = 1 }))

-- the round on the letters of the word x
abbrev pub round : Bool → Word → State → State
round g x s = round_on g (x.letter (s.right + s.offset)) (x.letter (s.left + s.offset)) s

abbrev pub out : State → ℕ → Suffix
out s k = record { start = s.left; period = s.period; rounds = k }

-- whether a round that leaves the period p is the last one: "stops after the first round in which its current period equals the known one"
abbrev pub stops : Option ℕ → ℕ → Bool
stops None p = false
stops (Some known) p = eqb p known

-- the rounds, while the new letter is inside the word, counted from k on; at most as many as the first argument
unfoldable pub run : ℕ → Bool → Word → Option ℕ → State → ℕ → Suffix
run zero g x known s k = out s k
run (suc more) g x known s k =
    let next = round g x s in
    let later = run more g x known next (k + 1) in
    let after = cond (stops known next.period) (out next (k + 1)) later in
    cond (ltb (s.right + s.offset) x.size) after (out s k)

abbrev pub start : State
start = record { left = 0; right = 1; offset = 0; period = 1 }

-- twice the word's size is room for every round
unfoldable pub rounds : Bool → Word → Option ℕ → Suffix
rounds g x known = run (2 * x.size) g x known start 0
