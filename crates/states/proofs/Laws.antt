-- How long the text of a state is, where each of its numbers fits its type.
-- Assumes nothing.
use Prim.Native.Nat.{ℕ, ◌+◌, ◌*◌, ◌<◌, ◌≤◌, ◌^◌}
use mathlib.Core.Bool.{Bool, true, false}
use mathlib.Core.List.{List, [], ◌∷◌, ◌++◌}
use native.Mathlib.Omega.{arith}
use lib.ListN.{length, length-append}
use Rattle.std.specs.Int.{from_bool}
use Rattle.printing.specs.Printing.{form_text}
use Rattle.printing.proofs.Laws.{Fit, form_size}
use Rattle.record.specs.declared.Memory.{Memory}
use Rattle.record.specs.declared.Memory.TheVariants.{Long, Short}
use Rattle.searcher.specs.declared.TwoWaySearcher.{TwoWaySearcher}
use Rattle.states.specs.States.{letter_of, begin_form, begin_numbers, begin_text, splits_form, splits_numbers, two_way_text, empty_text}

-- what all forms begin with, and one more form behind it
two_forms : (w : TwoWaySearcher) (letter : ℕ) (form numbers : List ℕ) → Fit (begin_numbers w) → Fit numbers
    → length (begin_text w letter ++ form_text form numbers) ≤ 88 + length form + 19 * length numbers
two_forms w letter form numbers first second =
    omega (arith, form_size (begin_form letter (letter_of w.fixed.mode)) (begin_numbers w) first, form_size form numbers second, length-append (begin_text w letter) (form_text form numbers))

-- the numbers of a memory
abbrev memories : Memory → List ℕ
memories Long = []
memories (Short forward backward) = forward ∷ backward ∷ []

-- each number of a walk with this memory fits its type
abbrev pub WalkFits : TwoWaySearcher → Memory → Type 0
WalkFits w memory = Fit (begin_numbers w) × Fit (splits_numbers w.fixed 0 0) × Fit (memories memory)

pub two_way_size : (w : TwoWaySearcher) (memory : Memory) → WalkFits w memory → length (two_way_text w memory) ≤ 214
two_way_size w Long fits = omega (arith, two_forms w 76 splits_form (splits_numbers w.fixed 0 0) fits.0 fits.1)
two_way_size w (Short forward backward) fits =
    let splits = fits.1 in
    two_forms w 83 (splits_form ++ 58 ∷ 35 ∷ 58 ∷ 35 ∷ []) (splits_numbers w.fixed forward backward) fits.0 (splits.0, (splits.1.0, (splits.1.1.0, (splits.1.1.1.0, fits.2))))

flag_fits : (flag : Bool) → from_bool flag < 2 ^ 64
flag_fits true = omega arith
flag_fits false = omega arith

pub empty_size : (w : TwoWaySearcher) (memory : Memory) (forward backward : Bool) → WalkFits w memory → length (empty_text w forward backward) ≤ 214
empty_size w memory forward backward fits =
    omega (arith, two_forms w 69 (58 ∷ 35 ∷ 58 ∷ 35 ∷ []) (from_bool forward ∷ from_bool backward ∷ []) fits.0 (flag_fits forward, (flag_fits backward, tt)))
