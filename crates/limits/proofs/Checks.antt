-- The checks of the lengths: how the code comes to each answer, and what each answer says.
-- Assumes nothing.
use Prim.Native.Nat.{ℕ}
use mathlib.Core.Path.{◌≡◌, refl, sym, ◌∙◌}
use mathlib.Core.Logic.{inl, inr}
use mathlib.Core.Bool.{Bool, true, false}
use lib.Dec.{ltb}
use Rattle.std.specs.Prelude.{Ok, Err}
use borrow.Author.Tests.{ltb-true, ltb-false, le-ltb}
use Rattle.limits.specs.Bounds.{haystack_bound, needle_bound}
use Rattle.limits.specs.Refusals.{number_of}
use Rattle.limits.specs.Checks.{Check, refuse_if, and_then, lengths, Within, RefusedRightly}
use Rattle.limits.specs.declared.Refusal.{Refusal}
use Rattle.limits.specs.declared.Refusal.TheVariants.{HaystackTooLong, NeedleTooLong}

-- ---- the ways through check_lengths, by the answers of its two tests

module _ (n m : ℕ) {a : Bool} where
  pub haystack_refuses : a ≡ ltb haystack_bound n → a ≡ true → Err HaystackTooLong ≡ lengths n m
  unfolding lengths
  haystack_refuses e p = rw (sym e ∙ p)

  pub needle_refuses : {b : Bool} → a ≡ ltb haystack_bound n → a ≡ false → b ≡ ltb needle_bound m → b ≡ true → Err NeedleTooLong ≡ lengths n m
  unfolding lengths
  needle_refuses e p f q = rw (sym e ∙ p, sym f ∙ q)

  pub both_pass : {b : Bool} → a ≡ ltb haystack_bound n → a ≡ false → b ≡ ltb needle_bound m → b ≡ false → Ok tt ≡ lengths n m
  unfolding lengths
  both_pass e p f q = rw (sym e ∙ p, sym f ∙ q)

-- ---- what the checks say; the premises are what a caller's `match` leaves

-- what an answer of the two checks says
abbrev Says : ℕ → ℕ → Check → Type 0
Says n m (Ok passed) = Within n m
Says n m (Err why) = RefusedRightly n m (number_of why)

lengths_says : (n m : ℕ) → Says n m (lengths n m)
unfolding lengths
lengths_says n m = go (ltb haystack_bound n) (ltb needle_bound m) refl refl
  where
    go : (a b : Bool) → ltb haystack_bound n ≡ a → ltb needle_bound m ≡ b → Says n m (and_then (refuse_if a HaystackTooLong) (refuse_if b NeedleTooLong))
    go true b x y = inl (refl, ltb-true haystack_bound n x)
    go false true x y = inr (refl, ltb-false haystack_bound n x, ltb-true needle_bound m y)
    go false false x y = record { haystack_in = ltb-false haystack_bound n x; needle_in = ltb-false needle_bound m y }

module _ (n m : ℕ) {c : Check} where
  pub lengths_pass : c ≡ lengths n m → c ≡ Ok tt → Within n m
  lengths_pass e p = rw (sym e ∙ p) at (lengths_says n m)

  pub lengths_refuse : {why : Refusal} → c ≡ lengths n m → c ≡ Err why → RefusedRightly n m (number_of why)
  lengths_refuse e p = rw (sym e ∙ p) at (lengths_says n m)

pub within_passes : (n m : ℕ) → Within n m → lengths n m ≡ Ok tt
unfolding lengths
within_passes n m w = rw (le-ltb _ _ w.haystack_in, le-ltb _ _ w.needle_in)
