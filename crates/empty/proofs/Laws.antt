-- The ways through a step and a next match of an empty walk, and what each return of `turn` has to show.
-- Assumes nothing.
use Prim.Native.Nat.{◌-◌, ◌<◌, ◌≤◌}
use mathlib.Core.Path.{◌≡◌, refl, sym, ap, subst}
use mathlib.Core.Bool.{Bool, true, false, cond, not, ◌&&◌}
use native.Mathlib.Omega.{arith}
use native.Mathlib.Decide.{ℕ_discrete}
use borrow.Author.Tests.{eq-eqb, ne_eqb}
use Rattle.empty.specs.declared.Side.{Side}
use Rattle.empty.specs.declared.Gives.TheVariants.{Match, Reject, Nothing}
use Rattle.empty.specs.declared.Turned.{Turned}
use Rattle.empty.specs.Turns.{gives, rejects, stepped, turned}

-- what a call makes of the step
abbrev without : Bool → Turned → Turned
without stepping r = cond (rejects r.gives && not stepping) (stepped r.side) r

turned_is : (stepping : Bool) (s : Side) {r : Turned} → stepped s ≡ r → turned stepping s ≡ without stepping r
unfolding turned
turned_is stepping s e = ap (without stepping) e

module _ (stepping : Bool) (s : Side) where
  pub turn_match : s.is_match ≡ true → gives Match s.ahead false ≡ turned stepping s
  unfolding stepped
  turn_match e = sym (turned_is stepping s {r = gives Match s.ahead false} (rw e))

  module _ (given : s.is_match ≡ false) where
    pub turn_nothing : s.ahead ≡ 0 → ◌≡◌ {A = Turned} (record { gives = Nothing; side = s }) (turned stepping s)
    unfolding stepped
    turn_nothing z = sym (turned_is stepping s {r = record { gives = Nothing; side = s }} (rw (given, eq-eqb _ _ z)))

    module _ (more : s.ahead ≡ 0 → ⊥) where
      rejected : stepped s ≡ gives Reject (s.ahead - 1) true
      unfolding stepped
      rejected = rw (given, ne_eqb _ _ more)

      pub turn_reject : stepping ≡ true → gives Reject (s.ahead - 1) stepping ≡ turned stepping s
      turn_reject e = rw e (sym (turned_is true s rejected))

      pub turn_next : stepping ≡ false → gives Match (s.ahead - 1) stepping ≡ turned stepping s
      unfolding stepped
      turn_next e = rw e (sym (turned_is false s rejected))

-- what is shown of each way holds of every call
module _ (P : Turned → Type 0) (stepping : Bool) (s : Side) where
  pub by_turn : (s.is_match ≡ true → P (gives Match s.ahead false))
      → (s.is_match ≡ false → s.ahead ≡ 0 → P (record { gives = Nothing; side = s }))
      → (s.is_match ≡ false → 0 < s.ahead → stepping ≡ true → P (gives Reject (s.ahead - 1) true))
      → (s.is_match ≡ false → 0 < s.ahead → stepping ≡ false → P (gives Match (s.ahead - 1) false))
      → P (turned stepping s)
  by_turn given over passed next = go s.is_match refl
    where
      went : (t : Bool) → stepping ≡ t → s.is_match ≡ false → 0 < s.ahead → P (turned stepping s)
      went true e later more = subst P (turn_reject stepping s later (λ z. omega arith) e) (rw e (passed later more e))
      went false e later more = subst P (turn_next stepping s later (λ z. omega arith) e) (rw e (next later more e))

      go : (b : Bool) → s.is_match ≡ b → P (turned stepping s)
      go true e = subst P (turn_match stepping s e) (given e)
      go false e =
          elim (ℕ_discrete s.ahead 0) [
            | yes z ↦ subst P (turn_nothing stepping s e z) (over e z)
            | no k ↦ went stepping refl e (omega arith)
          ]

-- no call goes back
pub turned_ahead : (stepping : Bool) (s : Side) → (turned stepping s).side.ahead ≤ s.ahead
turned_ahead stepping s =
    by_turn (λ r. r.side.ahead ≤ s.ahead) stepping s (λ e. omega arith) (λ e z. omega arith) (λ e m t. omega arith) (λ e m t. omega arith)
