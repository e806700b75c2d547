-- What a round and a run do, as equations that a loop's proof cites.
-- Assumes nothing.
use Prim.Native.Nat.{ℕ, zero, suc, ◌+◌, ◌-◌, ◌*◌, ◌<◌, ◌≤◌}
use mathlib.Core.Path.{◌≡◌, refl, sym, ◌∙◌, ap}
use mathlib.Core.Bool.{Bool, true, false, cond}
use Rattle.std.specs.Prelude.{Option}
use native.Mathlib.Omega.{arith}
use lib.Dec.{ltb, eqb}
use borrow.Author.Tests.{lt-ltb, le-ltb, eqb-false}
use Rattle.words.specs.Word.{Word}
use Rattle.words.specs.Order.{below}
use Rattle.suffix.specs.Rounds.{round, round_on, run, out, stops, start, rounds}
use Rattle.suffix.specs.Answer.{Sound}
use Rattle.suffix.specs.declared.State.{State}
use Rattle.suffix.specs.declared.Suffix.{Suffix}

module _ (g : Bool) (x : Word) (known : Option ℕ) where
  pub run_stop : (f : ℕ) (s : State) (k : ℕ) → x.size ≤ s.right + s.offset → run f g x known s k ≡ out s k
  unfolding run
  run_stop zero s k h = refl
  run_stop (suc f) s k h = rw (le-ltb _ _ h)

  -- with the fuel that is left of N after k rounds: the round that stops, and one that does not
  pub run_last : (N : ℕ) (s t : State) (k : ℕ) {M : Suffix} → s.right + s.offset < x.size → k < N → round g x s ≡ t → stops known t.period ≡ true
      → run (N - k) g x known s k ≡ M → out t (k + 1) ≡ M
  unfolding run
  run_last N s t k h hk e z q =
      let fuel : N - k ≡ suc (N - (k + 1)) = omega arith in
      let stop : stops known (round g x s).period ≡ true = ap (λ (y : State). stops known y.period) e ∙ z in
      let ends : run (suc (N - (k + 1))) g x known s k ≡ out (round g x s) (k + 1) = rw (lt-ltb _ _ h, stop) in
      ap (λ (y : State). out y (k + 1)) (sym e) ∙ sym ends ∙ ap (λ (y : ℕ). run y g x known s k) (sym fuel) ∙ q

  pub run_next : (N : ℕ) (s t : State) (k : ℕ) {M : Suffix} → s.right + s.offset < x.size → k < N → round g x s ≡ t → stops known t.period ≡ false
      → run (N - k) g x known s k ≡ M → run (N - (k + 1)) g x known t (k + 1) ≡ M
  unfolding run
  run_next N s t k h hk e z q =
      let fuel : N - k ≡ suc (N - (k + 1)) = omega arith in
      let on : stops known (round g x s).period ≡ false = ap (λ (y : State). stops known y.period) e ∙ z in
      let goes : run (suc (N - (k + 1))) g x known s k ≡ run (N - (k + 1)) g x known (round g x s) (k + 1) = rw (lt-ltb _ _ h, on) in
      ap (λ (y : State). run (N - (k + 1)) g x known y (k + 1)) (sym e) ∙ sym goes ∙ ap (λ (y : ℕ). run y g x known s k) (sym fuel) ∙ q

-- a number that rises with every round and stays below twice the word's size
abbrev pub potential : State → ℕ
potential s = s.left + s.right + s.offset

pub record Moved (s t : State) : Type 0 where
  pub sound : Sound t
  pub rises : potential s < potential t
  pub far : t.right + t.offset ≤ s.right + s.offset + 1

-- what holds of a round is shown of each state that it can leave, by the tests that lead there: the new letter is lower, it is the same
-- and ends the period, it is the same, it is higher
pub by_round : (P : State → Type 0) (g : Bool) (a b : ℕ) (s : State)
    → (below g a b ≡ true → P (record { left = s.left; right = s.right + (s.offset + 1); offset = 0; period = s.right + (s.offset + 1) - s.left }))
    → (eqb a b ≡ true → eqb (s.offset + 1) s.period ≡ true → P (record { left = s.left; right = s.right + (s.offset + 1); offset = 0; period = s.period }))
    → (eqb a b ≡ true → eqb (s.offset + 1) s.period ≡ false → P (record { left = s.left; right = s.right; offset = s.offset + 1; period = s.period }))
    → (below g a b ≡ false → eqb a b ≡ false → P (record { left = s.right; right = s.right + 1; offset = 0; period = 1 }))
    → P (round_on g a b s)
unfolding round_on
by_round P g a b s lower wrap on higher = go (below g a b) (eqb a b) (eqb (s.offset + 1) s.period) refl refl refl
  where
    go : (t u z : Bool) → below g a b ≡ t → eqb a b ≡ u → eqb (s.offset + 1) s.period ≡ z → P
        (cond t
        (record { left = s.left; right = s.right + (s.offset + 1); offset = 0; period = s.right + (s.offset + 1) - s.left })
        (cond u
        (cond z
        (record { left = s.left; right = s.right + (s.offset + 1); offset = 0; period = s.period })
        (record { left = s.left; right = s.right; offset = s.offset + 1; period = s.period }))
        (record { left = s.right; right = s.right + 1; offset = 0; period = 1 })))
    go true u z et eu ez = lower et
    go false true true et eu ez = wrap eu ez
    go false true false et eu ez = on eu ez
    go false false z et eu ez = higher et eu

pub moved : (g : Bool) (a b : ℕ) (s : State) → Sound s → Moved s (round_on g a b s)
moved g a b s v =
    by_round (Moved s) g a b s
    (λ e. omega arith)
    (λ e z. omega arith)
    (λ e z. let n = eqb-false (s.offset + 1) s.period z in omega arith)
    (λ e u. omega arith)

-- the rounds are at most as many as there is fuel for, and that is twice the word's size
module _ (g : Bool) (x : Word) (known : Option ℕ) where
  run_few : (f : ℕ) (s : State) (k : ℕ) → (run f g x known s k).rounds ≤ k + f
  unfolding run
  run_few zero s k = omega arith
  run_few (suc f) s k = go (ltb (s.right + s.offset) x.size) (stops known (round g x s).period) (run_few f (round g x s) (k + 1))
    where
      go : (b d : Bool) → (run f g x known (round g x s) (k + 1)).rounds ≤ k + 1 + f
          → (cond {A = Suffix} b (cond d (out (round g x s) (k + 1)) (run f g x known (round g x s) (k + 1))) (out s k)).rounds ≤ k + suc f
      go true true h = omega arith
      go true false h = omega arith
      go false d h = omega arith

  pub few_rounds : (rounds g x known).rounds ≤ 2 * x.size
  unfolding rounds
  few_rounds = let h = run_few (2 * x.size) start 0 in omega arith
