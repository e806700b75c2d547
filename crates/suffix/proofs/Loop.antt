-- What the loop keeps while it runs, over a word read from either end, and what each of its rounds and ends shows.
-- Assumes nothing.
use Prim.Native.Nat.{ℕ, ◌+◌, ◌-◌, ◌*◌, ◌<◌, ◌≤◌}
use mathlib.Core.Path.{◌≡◌, refl, sym, ◌∙◌, subst}
use mathlib.Core.Bool.{Bool, true, false, cond}
use mathlib.Core.List.{List}
use lib.ListN.{length}
use Rattle.std.specs.Prelude.{Option, None, Some}
use Rattle.std.specs.Option.{option_eq}
use lib.Dec.{eqb}
use native.Mathlib.Omega.{arith}
use native.Mathlib.Nat.{sub-zero}
use Rattle.words.specs.Word.{Word, front, back}
use Rattle.suffix.specs.Rounds.{round_on, run, out, stops, start, rounds}
use Rattle.suffix.specs.Answer.{Sound}
use Rattle.suffix.specs.declared.State.{State}
use Rattle.suffix.proofs.Steps.{potential, Moved, moved, run_stop, run_last, run_next}

-- after k rounds the loop over the n letters of x stands at s, and what is left of the run from there gives the whole run's outcome
pub record Looping (g : Bool) (x : Word) (n : ℕ) (known : Option ℕ) (s : State) (k : ℕ) : Type 0 where
  pub sized : x.size ≡ n
  pub sound : Sound s
  pub near : s.right + s.offset ≤ n + 1
  pub counted : k + 1 ≤ potential s
  pub rule : run (2 * x.size - k) g x known s k ≡ rounds g x known

-- the code's test of a period
pub stops_is : (known : Option ℕ) (p : ℕ) {b : Bool} → b ≡ option_eq eqb (Some p) known → stops known p ≡ b
stops_is None p e = sym e
stops_is (Some k) p e = sym e

-- a word has as many letters from either end
pub from_either : (backward : Bool) (w : List ℕ) → (cond backward (back w) (front w)).size ≡ length w
from_either true w = refl
from_either false w = refl

module _ {g : Bool} {x : Word} {n : ℕ} {known : Option ℕ} where
  pub loop_first : x.size ≡ n → Looping g x n known start 0
  unfolding rounds
  loop_first e = record { sized = e; sound = omega arith; near = omega arith; counted = omega arith; rule = rw sub-zero }

  pub loop_end : {s : State} {k : ℕ} → Looping g x n known s k → n ≤ s.right + s.offset → rounds g x known ≡ out s k
  loop_end {s} {k} v h = sym v.rule ∙ run_stop g x known (2 * x.size - k) s k (let e = v.sized in omega arith)

  -- a round on the letters a and b, which the code read in the word
  module _ {s t : State} {k a b i j : ℕ} (made : t ≡ round_on g a b s) (v : Looping g x n known s k) (h : s.right + s.offset < n)
      (ea : a ≡ x.letter i) (eb : b ≡ x.letter j) (new : i ≡ s.right + s.offset) (expected : j ≡ s.left + s.offset) where
    inside : s.right + s.offset < x.size
    inside = let e = v.sized in omega arith

    rounded : round_on g (x.letter (s.right + s.offset)) (x.letter (s.left + s.offset)) s ≡ t
    rounded = rw (← new, ← expected, ← ea, ← eb) (sym made)

    went : Moved s t
    went = subst (Moved s) (sym made) (moved g a b s v.sound)

    pub loop_next : stops known t.period ≡ false → Looping g x n known t (k + 1)
    loop_next e =
        let m = went in
        record {
          sized = v.sized;
          sound = m.sound;
          near = omega arith;
          counted = omega arith;
          rule = run_next g x known (2 * x.size) s t k inside (let y = v.sound in omega arith) rounded e v.rule;
        }

    pub loop_last : stops known t.period ≡ true → rounds g x known ≡ out t (k + 1)
    loop_last e = sym (run_last g x known (2 * x.size) s t k inside (let y = v.sound in omega arith) rounded e v.rule)

-- the loop's measure falls
pub loop_falls : (g : Bool) (a b n : ℕ) {s t : State} → t ≡ round_on g a b s → Sound s → s.right + s.offset < n → 2 * n - potential t < 2 * n - potential s
loop_falls g a b n {s} made v h = let m = subst (Moved s) (sym made) (moved g a b s v) in omega arith
