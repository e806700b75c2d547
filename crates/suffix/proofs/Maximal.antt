-- The rounds find the maximal suffix and its smallest period, in at most twice the word's size; and they still do if they stop at a period of the whole word.
-- Assumes nothing.
use Prim.Native.Nat.{ℕ, zero, suc, ◌+◌, ◌*◌, ◌<◌, ◌≤◌}
use mathlib.Core.Path.{◌≡◌, refl, sym, subst}
use mathlib.Core.Bool.{Bool, true, false, cond, false≢true}
use Rattle.std.specs.Prelude.{Option, None, Some}
use native.Mathlib.Omega.{arith}
use native.Mathlib.Decide.{dec_lt}
use lib.Dec.{ltb}
use borrow.Author.Tests.{ltb-true, ltb-false, eqb-true, eqb-false}
use Rattle.words.specs.Word.{Word}
use Rattle.words.specs.Period.{Period}
use Rattle.words.specs.Order.{Below, below}
use Rattle.words.proofs.Decided.{below_decided}
use Rattle.suffix.specs.Rounds.{round, run, out, stops, start, rounds}
use Rattle.suffix.specs.Answer.{IsFound}
use Rattle.suffix.specs.declared.State.{State}
use Rattle.suffix.proofs.Steps.{potential, by_round, run_stop}
use Rattle.suffix.proofs.Invariant.{Inv, first, same_on, same_wrap, lower, higher, later, is_period, smallest}

not_below : (g : Bool) (a b : ℕ) → below g a b ≡ false → (a ≡ b → ⊥) → Below g b a
not_below false a b e z = let h = ltb-false a b e in omega arith
not_below true a b e z = let h = ltb-false b a e in omega arith

module _ (g : Bool) (x : Word) where
  abbrev Holds : State → Type 0
  Holds s = Inv g x s.left s.right s.offset s.period

  -- a round keeps the invariant, and the potential rises
  step : (s : State) → Holds s → s.right + s.offset < x.size → Holds (round g x s) × (potential s < potential (round g x s))
  step s v h =
      let a : ℕ = x.letter (s.right + s.offset) in
      let b : ℕ = x.letter (s.left + s.offset) in
      by_round (λ (t : State). Holds t × (potential s < potential t)) g a b s
      (λ e. (lower _ _ _ _ _ _ v h ((below_decided g a b).sound e), omega arith))
      (λ e z. (same_wrap _ _ _ _ _ _ v h (eqb-true a b e) (eqb-true _ _ z), omega arith))
      (λ e z. (same_on _ _ _ _ _ _ v h (eqb-true a b e) (eqb-false _ _ z), omega arith))
      (λ e u. (higher _ _ _ _ _ _ v h (not_below g a b e (eqb-false a b u)), omega arith))

  -- a state whose period holds up to the end of the word
  stopped : (s : State) (k : ℕ) → 0 < x.size → Holds s → ((i j : ℕ) → s.left ≤ i → j ≡ i + s.period → j < x.size → x.letter i ≡ x.letter j) → k + 1 ≤ potential s → IsFound g x (out s k)
  stopped s k pos v per hk =
      record {
        maximal = record {
          within = omega arith;
          greatest = λ t ht ne. elim (dec_lt t s.left) [ yes a ↦ v.before t a | no a ↦ later _ _ _ _ _ _ v per t t (omega arith) (omega arith) ht ];
        };
        period = λ h. record { holds = is_period _ _ _ _ _ _ v per; none_before = smallest _ _ _ _ _ _ v per };
        empty = λ e. absurd (omega arith);
        few = omega arith;
      }

  at_end : (s : State) (k : ℕ) → 0 < x.size → Holds s → x.size ≤ s.right + s.offset → k + 1 ≤ potential s → IsFound g x (out s k)
  at_end s k pos v h hk = stopped s k pos v (λ i j a b c. v.period i j a b (omega arith)) hk

  -- a state whose period is one of the whole word
  at_known : (s : State) (k : ℕ) → 0 < x.size → Holds s → Period x s.period → k + 1 ≤ potential s → IsFound g x (out s k)
  at_known s k pos v P hk = stopped s k pos v (λ i j a b c. P.repeats i j b c) hk

  module _ (known : Option ℕ) (good : (p : ℕ) → stops known p ≡ true → Period x p) (pos : 0 < x.size) where
    found : (f : ℕ) (s : State) (k : ℕ) → Holds s → k + 1 ≤ potential s → f + k ≡ 2 * x.size → IsFound g x (run f g x known s k)
    unfolding run
    found zero s k v hk e = absurd (omega arith)
    found (suc f) s k v hk e =
        go (ltb (s.right + s.offset) x.size) (stops known (round g x s).period) refl refl
        (λ h. found f (round g x s) (k + 1) (step s v h).0 (let z = (step s v h).1 in omega arith) (omega arith))
      where
        go : (b d : Bool) → ltb (s.right + s.offset) x.size ≡ b → stops known (round g x s).period ≡ d → (s.right + s.offset < x.size → IsFound g x (run f g x known (round g x s) (k + 1)))
            → IsFound g x (cond b (cond d (out (round g x s) (k + 1)) (run f g x known (round g x s) (k + 1))) (out s k))
        go true true et ed rec =
            let h = ltb-true _ _ et in
            at_known (round g x s) (k + 1) pos (step s v h).0 (good (round g x s).period ed) (let z = (step s v h).1 in omega arith)
        go true false et ed rec = rec (ltb-true _ _ et)
        go false d et ed rec = at_end s k pos v (ltb-false _ _ et) hk

  -- the rounds on an empty word: none
  rounds_empty : (known : Option ℕ) → x.size ≡ 0 → rounds g x known ≡ out start 0
  unfolding rounds
  rounds_empty known e = run_stop g x known (2 * x.size) start 0 (omega arith)

  empty_found : x.size ≡ 0 → IsFound g x (out start 0)
  empty_found e =
      record {
        maximal = record { within = omega arith; greatest = λ t ht ne. absurd (omega arith) };
        period = λ h. absurd (omega arith);
        empty = λ y. omega arith;
        few = omega arith;
      }

  -- whatever stops the rounds is a period of the whole word, so what they find is the maximal suffix
  pub rounds_found : (known : Option ℕ) → ((p : ℕ) → stops known p ≡ true → Period x p) → IsFound g x (rounds g x known)
  unfolding rounds
  rounds_found known good =
      elim (dec_lt 0 x.size) [
        | yes h ↦ found known good h (2 * x.size) start 0 (first g x h) (omega arith) (omega arith)
        | no h ↦ rw (rounds_empty known (omega arith)) (empty_found (omega arith))
      ]

  pub plain_found : IsFound g x (rounds g x None)
  plain_found = rounds_found None (λ p e. absurd (false≢true e))

  pub known_found : (c : ℕ) → Period x c → IsFound g x (rounds g x (Some c))
  known_found c P = rounds_found (Some c) (λ p e. subst (Period x) (sym (eqb-true p c e)) P)
