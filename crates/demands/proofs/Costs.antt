-- Demand 3: a whole walk one way makes at most 2n-m comparisons and n-m+1 tests, however its calls are mixed with those of the other way.
-- No premise is on the bytes: it holds from every state that fits on, of either kind and in either mode, with n the bytes left. An empty needle costs nothing.
-- Assumes nothing.
use Prim.Native.Nat.{ℕ, ◌-◌}
use mathlib.Core.Path.{◌≡◌}
use mathlib.Core.Bool.{true}
use mathlib.Core.List.{List}
use native.Mathlib.Omega.{arith}
use native.Mathlib.Decide.{ℕ_discrete}
use lib.ListN.{length}
use Rattle.searcher.specs.declared.TwoWaySearcher.{TwoWaySearcher}
use Rattle.searcher.specs.Walk.{new_rule}
use Rattle.record.specs.declared.Kind.TheVariants.{TwoWay}
use Rattle.record.specs.declared.Mode.{Mode}
use Rattle.record.specs.Fits.{fits}
use Rattle.record.proofs.Fitting.{some_two_way, fits_forward, fits_backward}
use Rattle.demands.specs.Allowed.{Allowed}
use Rattle.demands.specs.Reached.{Call, after}
use Rattle.demands.specs.Costs.{Costs, Demand3}
use Rattle.demands.proofs.OneWay.{walked_spent}
use Rattle.demands.proofs.Walks.{walks}
use Rattle.demands.proofs.Places.{places}
use Rattle.demands.proofs.Start.{prepared_ready}

module _ (needle haystack : List ℕ) (ok : Allowed needle haystack) (s₀ : TwoWaySearcher) (fit : fits needle haystack s₀.fixed s₀.moving ≡ true) (calls : List Call) where
  abbrev Cost : Type 0
  Cost = Costs (length needle) (length haystack - s₀.moving.position) s₀.moving.end (after needle haystack s₀ calls)

  two_way_costs : s₀.moving.kind ≡ TwoWay → Cost
  two_way_costs two_way =
      let w = walks needle haystack ok s₀ fit two_way calls in
      let f = fits_forward needle haystack s₀.fixed s₀.moving fit two_way in
      let b = fits_backward needle haystack s₀.fixed s₀.moving fit two_way in
      let spent = walked_spent f.shape f.within f.memory w.ahead in
      let spent' = walked_spent b.shape (omega arith) (omega arith) w.back in
      let left : length haystack - (length haystack - s₀.moving.end) ≡ s₀.moving.end = let within = b.within in omega arith in
      record {
        forward = spent.bounded;
        backward = rw (w.mirrors.comparisons_are, w.mirrors.tests_are) (rw left at spent'.bounded);
      }

  empty_costs : length needle ≡ 0 → Cost
  empty_costs blank =
      let p = places needle haystack ok blank s₀ fit calls in
      let forward = p.forward_free in
      let backward = p.backward_free in
      record { forward = omega arith; backward = omega arith }

  pub costs : Cost
  costs = elim (ℕ_discrete (length needle) 0) [ yes blank ↦ empty_costs blank | no some ↦ two_way_costs (some_two_way needle haystack s₀.fixed s₀.moving fit (omega arith)) ]

pub demand_3 : (needle haystack : List ℕ) (mode : Mode) → Allowed needle haystack → (calls : List Call) → Demand3 needle haystack mode calls
demand_3 needle haystack mode ok calls =
    let n = length haystack in
    let s₀ = (new_rule needle n mode).walk in
    let start = prepared_ready needle haystack mode ok in
    let left : n - s₀.moving.position ≡ n = let e = start.position_is in omega arith in
    record { walking = rw (left, start.end_is) at (costs needle haystack ok s₀ start.fit calls); preparing = start.few }
