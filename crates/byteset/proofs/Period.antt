-- The fingerprint of the first p letters, where p is a period of the needle, never says no for a letter of the needle.
-- Assumes nothing.
use Prim.Native.Nat.{ℕ, zero, suc, ◌-◌, ◌<◌, ◌≤◌}
use mathlib.Core.Path.{◌≡◌}
use mathlib.Core.Bool.{true}
use mathlib.Core.List.{List}
use native.Mathlib.Omega.{arith}
use native.Mathlib.Decide.{dec_lt}
use lib.ListN.{length, get_or, take}
use lib.Seq.{length-take-le, get_or-take}
use Rattle.words.specs.Word.{front}
use Rattle.words.specs.Period.{Period}
use Rattle.byteset.specs.Fingerprint.{fingerprint, has}
use Rattle.byteset.proofs.Laws.{never_no}

module _ (needle : List ℕ) (p : ℕ) (period : Period (front needle) p) where
  abbrev Said : ℕ → Type 0
  Said i = has (fingerprint (take p needle)) (get_or needle i 0) ≡ true

  among : (i : ℕ) → i < p → Said i
  among i h = rw get_or-take at (never_no (take p needle) i (omega (arith, length-take-le p needle period.within)))

  -- every letter is one of the first p: p is taken off its index until it is below p
  letters : (f i : ℕ) → i ≤ f → i < length needle → Said i
  letters zero i hf h = among i (omega (arith, period.positive))
  letters (suc f) i hf h =
      let rest : p ≤ i → Said (i - p) = λ y. letters f (i - p) (omega (arith, period.positive)) (omega arith) in
      elim (dec_lt i p) [
        | yes y ↦ among i y
        | no y ↦ rw (← period.repeats (i - p) i (omega arith) h) (rest (omega arith))
      ]

  pub period_never_no : (i : ℕ) → i < length needle → has (fingerprint (take p needle)) (get_or needle i 0) ≡ true
  period_never_no i h = letters i i (omega arith) h
