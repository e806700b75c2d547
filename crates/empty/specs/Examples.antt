-- The walk of an empty needle over 0 and over 2 bytes, in one direction and past its end: one table under one claim.
-- Assumes nothing.
use Rattle.std.specs.Prelude.{ℕ, zero, suc, Bool, true, false, cond, List, [], ◌∷◌, T}
use Rattle.words.specs.Examples.{Example, same, all_as_stated}
use Rattle.empty.specs.declared.Side.{Side}
use Rattle.empty.specs.declared.Gives.{Gives}
use Rattle.empty.specs.declared.Gives.TheVariants.{Match, Reject, Nothing}
use Rattle.empty.specs.Turns.{stepped, turned}

-- a Match is 1, a Reject 2, and nothing 3, as in the steps of P9
abbrev pub number : Gives → ℕ
number Match = 1
number Reject = 2
number Nothing = 3

-- so many calls in a row: what each gives, the bytes then ahead, and 1 if a Match is next, else 0
unfoldable pub calls : ℕ → Bool → Side → List ℕ
calls zero stepping s = []
calls (suc more) stepping s =
    let r = turned stepping s in
    number r.gives ∷ r.side.ahead ∷ cond r.side.is_match 1 0 ∷ calls more stepping r.side

-- from preparing on, with n bytes ahead
abbrev pub from_start : ℕ → Bool → ℕ → List ℕ
from_start k stepping n = calls k stepping (record { ahead = n; is_match = true })

abbrev pub table : List Example
table =
    -- steps over no byte, and over two
    record { computed = from_start 3 true 0; stated = 1 ∷ 0 ∷ 0 ∷ 3 ∷ 0 ∷ 0 ∷ 3 ∷ 0 ∷ 0 ∷ [] }
    ∷ record {
      computed = from_start 7 true 2;
      stated = 1 ∷ 2 ∷ 0 ∷ 2 ∷ 1 ∷ 1 ∷ 1 ∷ 1 ∷ 0 ∷ 2 ∷ 0 ∷ 1 ∷ 1 ∷ 0 ∷ 0 ∷ 3 ∷ 0 ∷ 0 ∷ 3 ∷ 0 ∷ 0 ∷ [];
    }
    -- next matches over no byte, and over two
    ∷ record { computed = from_start 2 false 0; stated = 1 ∷ 0 ∷ 0 ∷ 3 ∷ 0 ∷ 0 ∷ [] }
    ∷ record { computed = from_start 4 false 2; stated = 1 ∷ 2 ∷ 0 ∷ 1 ∷ 1 ∷ 0 ∷ 1 ∷ 0 ∷ 0 ∷ 3 ∷ 0 ∷ 0 ∷ [] }
    ∷ []

pub examples : T (all_as_stated table)
unfolding all_as_stated same stepped turned calls
examples = tt
