-- Demand 3: what any mix of calls costs, in each direction: "bounded by 2n-m, n-m+1 and 9m".
-- Assumes nothing.
use Rattle.std.specs.Prelude.{ℕ, ◌*◌, ◌≤◌, List, length}
use Rattle.windows.specs.Bounds.{Bounded}
use Rattle.record.specs.declared.Mode.{Mode}
use Rattle.searcher.specs.Walk.{new_rule}
use Rattle.demands.specs.Reached.{Call, History, reached}

-- Of a needle of m bytes, with k bytes left to walk forward and l backward. Of the tests 01 says: "a whole walk one way makes at most n-m+1 if m <= n, else none".
pub record Costs (m k l : ℕ) (H : History) : Type 0 where
  pub forward : Bounded m k H.forward.comparisons H.forward.tests
  pub backward : Bounded m l H.backward.comparisons H.backward.tests

-- From preparing on, when the whole haystack is left both ways; and the preparing. "Demand 3's 2n-m holds in this mode too." (02 [3])
pub record Demand3 (needle haystack : List ℕ) (mode : Mode) (calls : List Call) : Type 0 where
  pub walking : Costs (length needle) (length haystack) (length haystack) (reached needle haystack mode calls)
  pub preparing : (new_rule needle (length haystack) mode).counts.preparing ≤ 9 * length needle
