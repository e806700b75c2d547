-- What the first two steps of preparing tell of the needle: the split is the later start of its two maximal suffixes,
-- and the comparison tells whether the period of the part behind it is the whole needle's.
-- Assumes nothing.
use Prim.Native.Nat.{ℕ, ◌+◌, ◌-◌, ◌*◌, ◌<◌, ◌≤◌, min}
use mathlib.Core.Path.{◌≡◌, refl, sym, ◌∙◌}
use mathlib.Core.Bool.{Bool, true, false, cond, not}
use mathlib.Core.Logic.{inl, inr}
use mathlib.Core.List.{List}
use Rattle.std.specs.Prelude.{None, Some}
use native.Mathlib.Omega.{arith}
use lib.Dec.{ltb, eqb}
use lib.ListN.{length, get_or, take, drop, length-drop}
use lib.Seq.{length-take-le, get_or-take, get_or-drop}
use borrow.Author.Tests.{ltb-true, ltb-false, eqb-true, eqb-false, not-true, not-false}
use Rattle.words.specs.Word.{Word, front, back, suffix}
use Rattle.words.specs.Period.{SmallestPeriod}
use Rattle.words.specs.Critical.{LaterStart, Again}
use Rattle.words.proofs.Tests.{First, first_is}
use Rattle.words.proofs.Critical.{later_start, part_fits, short_period, long_period}
use Rattle.suffix.specs.Rounds.{rounds}
use Rattle.suffix.specs.declared.Suffix.{Suffix}
use Rattle.suffix.proofs.Steps.{few_rounds}
use Rattle.suffix.proofs.Maximal.{plain_found}
use Rattle.compare.specs.Agree.{agreeing, agree}
use Rattle.prepare.specs.Prepare.{chosen, agreed, forward_rounds, reverse_rounds}

-- ---- step 1

-- c is the later start, and q the smallest period of the suffix there
pub record IsSplit (x : Word) (c q : ℕ) : Type 0 where
  pub later : LaterStart x c
  pub period : SmallestPeriod (suffix x c) q

module _ (needle : List ℕ) where
  pub chosen_split : 0 < length needle → IsSplit (front needle) (chosen needle).start (chosen needle).period
  unfolding chosen
  chosen_split pos = go (ltb higher.start lower.start) refl
    where
      lower : Suffix
      lower = rounds false (front needle) None

      higher : Suffix
      higher = rounds true (front needle) None

      go : (b : Bool) → ltb higher.start lower.start ≡ b
          → IsSplit (front needle) (cond {A = Suffix} b lower higher).start (cond {A = Suffix} b lower higher).period
      go true e =
          let h = ltb-true higher.start lower.start e in
          record {
            later = later_start (plain_found false (front needle)).maximal (plain_found true (front needle)).maximal (inl (refl, omega arith));
            period = (plain_found false (front needle)).period pos;
          }
      go false e =
          let h = ltb-false higher.start lower.start e in
          record {
            later = later_start (plain_found false (front needle)).maximal (plain_found true (front needle)).maximal (inr (refl, h));
            period = (plain_found true (front needle)).period pos;
          }

  -- no pass makes more than two rounds for each letter
  pub forward_few : forward_rounds needle ≤ 4 * length needle
  unfolding forward_rounds
  forward_few =
      let a = few_rounds false (front needle) None in
      let b = few_rounds true (front needle) None in
      omega arith

  pub reverse_few : (p : ℕ) → reverse_rounds needle p ≤ 4 * length needle
  unfolding reverse_rounds
  reverse_few p =
      let a = few_rounds false (back needle) (Some p) in
      let b = few_rounds true (back needle) (Some p) in
      omega arith

-- ---- step 2: the first c letters, and the c letters from q on

module _ (needle : List ℕ) (c q : ℕ) (fits : q + c ≤ length needle) where
  -- both parts have c letters
  both_long : min (length (take c needle)) (length (take c (drop q needle))) ≡ c
  both_long =
      let left = length-take-le c needle (omega arith) in
      let right = length-take-le c (drop q needle) (omega (arith, length-drop q needle)) in
      omega arith

  right_letter : (i : ℕ) → i < c → get_or (take c (drop q needle)) i 0 ≡ get_or needle (q + i) 0
  right_letter i h = get_or-take c (drop q needle) i 0 h ∙ get_or-drop q needle i 0

  abbrev differ : ℕ → Bool
  differ i = not (eqb (get_or (take c needle) i 0) (get_or (take c (drop q needle)) i 0))

  -- where the comparison stops
  stops_at : First differ c 0 (agreed needle c q)
  unfolding agree agreeing
  stops_at = rw both_long (first_is differ c 0)

  -- it met no difference, so the first c letters stand again at q
  agreed_again : c ≤ agreed needle c q → Again (front needle) c q
  agreed_again h i hi =
      sym (get_or-take c needle i 0 hi) ∙ eqb-true _ _ (not-false _ (stops_at.missed i (omega arith) (omega arith))) ∙ right_letter i hi

  -- it met one, so they do not
  agreed_less : agreed needle c q < c → Again (front needle) c q → ⊥
  agreed_less h again =
      let i = agreed needle c q in
      eqb-false _ _ (not-true _ (stops_at.found (omega arith))) (get_or-take c needle i 0 h ∙ again i h ∙ sym (right_letter i h))

-- ---- both steps, for a needle that is not empty

module _ (needle : List ℕ) (pos : 0 < length needle) where
  abbrev c : ℕ
  c = (chosen needle).start

  abbrev q : ℕ
  q = (chosen needle).period

  -- step 2's part is in range, because q is a period of the part behind the split
  pub chosen_fits : (chosen needle).period + (chosen needle).start ≤ length needle
  chosen_fits = part_fits (front needle) c q (chosen_split needle pos).period

  -- no difference: q is the whole needle's smallest period
  pub chosen_short : (chosen needle).start ≤ agreed needle (chosen needle).start (chosen needle).period → SmallestPeriod (front needle) (chosen needle).period
  chosen_short h = short_period (front needle) c q (chosen_split needle pos).period (agreed_again needle c q chosen_fits h)

  -- a difference: the needle's smallest period is longer than both parts
  pub chosen_long : agreed needle (chosen needle).start (chosen needle).period < (chosen needle).start → {least : ℕ} → SmallestPeriod (front needle) least
      → (0 < (chosen needle).start) × ((chosen needle).start < least) × (length needle - (chosen needle).start < least)
  chosen_long h least =
      long_period (front needle) c q (chosen_split needle pos).period (chosen_split needle pos).later least (agreed_less needle c q chosen_fits h)
