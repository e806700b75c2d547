-- What each return of the functions that prepare has to show.
-- Assumes nothing.
use Prim.Native.Nat.{ℕ, ◌+◌, ◌-◌, ◌*◌, ◌<◌, ◌≤◌, min, max}
use mathlib.Core.Path.{◌≡◌, refl, sym, ◌∙◌, ap, subst}
use mathlib.Core.Bool.{Bool, true, false}
use mathlib.Core.List.{List}
use Rattle.std.specs.Prelude.{Result, None, Some, Ok, Err}
use native.Mathlib.Nat.{add-sub_cancel_left}
use native.Mathlib.Omega.{arith}
use mir.Syntax.{w64}
use mir.Val.{Fits}
use lib.ListN.{length, take, drop}
use borrow.Author.Tests.{lt-ltb, le-ltb, eq-eqb, ne_eqb}
use Rattle.words.specs.Word.{front, back}
use Rattle.words.specs.Period.{Period}
use Rattle.words.proofs.Mirror.{period_mirror}
use Rattle.words.proofs.Critical.{part_fits}
use Rattle.limits.specs.Bounds.{needle_bound}
use Rattle.limits.specs.Checks.{lengths}
use Rattle.limits.specs.Said.{given, said}
use Rattle.limits.specs.declared.Refusal.{Refusal}
use Rattle.limits.proofs.Room.{needle_room}
use Rattle.limits.proofs.Checks.{lengths_pass}
use Rattle.byteset.specs.Fingerprint.{fingerprint}
use Rattle.compare.specs.Agree.{agree}
use Rattle.suffix.specs.Rounds.{rounds}
use Rattle.suffix.specs.Answer.{maximal_rule, reverse_rule}
use Rattle.suffix.specs.declared.Suffix.{Suffix}
use Rattle.suffix.specs.declared.ReverseSuffix.{ReverseSuffix}
use Rattle.suffix.proofs.Maximal.{plain_found, known_found}
use Rattle.record.specs.declared.Memory.TheVariants.{Short}
use Rattle.record.specs.declared.Kind.TheVariants.{TwoWay}
use Rattle.record.specs.declared.Mode.{Mode}
use Rattle.prepare.specs.Prepare.{PartsTold, to_reverse, chosen, choice, forward_rounds, reverse_rounds, agreed, prepare_short, prepare_long, ready, five_steps, empty_walk, refuse, prepare_rule, NoState}
use Rattle.prepare.proofs.Chosen.{forward_few, reverse_few, chosen_short}
use Rattle.prepare.proofs.Ready.{refused_fits_nothing}

-- ---- the passes, which refuse nothing within the bound

module _ (g : Bool) (needle : List ℕ) (small : length needle ≤ needle_bound) where
  maximal_is : maximal_rule g needle ≡ given (rounds g (front needle) None)
  unfolding maximal_rule
  maximal_is = rw (le-ltb _ _ small)

  pub maximal_found : {r : Result Suffix Refusal} {s : Suffix} → said r ≡ maximal_rule g needle → r ≡ Ok s → s ≡ rounds g (front needle) None
  maximal_found e f = let q = sym (ap said f) ∙ e ∙ maximal_is in cc

  module _ (known : ℕ) where
    reverse_is : reverse_rule g known needle ≡ given (to_reverse (rounds g (back needle) (Some known)))
    unfolding reverse_rule
    reverse_is = rw (le-ltb _ _ small)

    pub reverse_found : {r : Result ReverseSuffix Refusal} {s : ReverseSuffix} → said r ≡ reverse_rule g known needle → r ≡ Ok s → s ≡ to_reverse (rounds g (back needle) (Some known))
    reverse_found e f = let q = sym (ap said f) ∙ e ∙ reverse_is in cc

-- ---- step 1

-- the period that a pass finds is one of the part from its start on
pub pass_fits : (g : Bool) (needle : List ℕ) {s : Suffix} → 0 < length needle → s ≡ rounds g (front needle) None → s.period + s.start ≤ length needle
pass_fits g needle pos e = rw e (part_fits (front needle) _ _ ((plain_found g (front needle)).period pos))

module _ (needle : List ℕ) {lower higher : Suffix} (a : lower ≡ rounds false (front needle) None) (b : higher ≡ rounds true (front needle) None) where
  pub both_few : lower.rounds + higher.rounds ≤ 4 * length needle
  unfolding forward_rounds
  both_few = rw (a, b) (forward_few needle)

  pub both_fit : length needle ≤ needle_bound → Fits w64 (lower.rounds + higher.rounds)
  both_fit small = record { fits = omega (arith, both_few, needle_room) }

  pub choose_lower : higher.start < lower.start → record { start = lower.start; period = lower.period; rounds = lower.rounds + higher.rounds } ≡ choice needle
  unfolding chosen forward_rounds
  choose_lower h = rw (a, b) (rw (lt-ltb _ _ (rw (a, b) at h)))

  pub choose_higher : lower.start ≤ higher.start → record { start = higher.start; period = higher.period; rounds = lower.rounds + higher.rounds } ≡ choice needle
  unfolding chosen forward_rounds
  choose_higher h = rw (a, b) (rw (le-ltb _ _ (rw (a, b) at h)))

-- ---- step 3

module _ (needle : List ℕ) (p : ℕ) {lower higher : ReverseSuffix} (period : Period (front needle) p) (small : length needle ≤ needle_bound)
    (a : lower ≡ to_reverse (rounds false (back needle) (Some p))) (b : higher ≡ to_reverse (rounds true (back needle) (Some p))) where
  -- with a period of the needle known, a reverse pass finds a suffix, so its start is within the needle
  pub later_in : {later : ℕ} → later ≡ max lower.start higher.start → later ≤ length needle
  later_in e =
      let k = (known_found false (back needle) p (period_mirror (front needle) p period)).maximal.within in
      let l = (known_found true (back needle) p (period_mirror (front needle) p period)).maximal.within in
      rw (e, a, b) (omega arith)

  reverse_both_few : lower.rounds + higher.rounds ≤ 4 * length needle
  unfolding reverse_rounds
  reverse_both_few = rw (a, b) (reverse_few needle p)

  pub reverse_both_fit : Fits w64 (lower.rounds + higher.rounds)
  reverse_both_fit = record { fits = omega (arith, reverse_both_few, needle_room) }

  pub counted_fit : (counted : ℕ) → counted ≤ 5 * length needle → Fits w64 (counted + (lower.rounds + higher.rounds))
  counted_fit counted h = record { fits = omega (arith, reverse_both_few, needle_room) }

  pub short_is : (n : ℕ) (mode : Mode) (c before : ℕ) {later set : ℕ} {bytes : List ℕ} {r : PartsTold}
      → r ≡ ready
      (record {
        needle_len = length needle;
        haystack_len = n;
        mode = mode;
        crit_pos = c;
        crit_pos_back = length needle - later;
        period = p;
        byteset = set;
      })
      (Short 0 (length needle))
      TwoWay
      (before + (lower.rounds + higher.rounds))
      → later ≡ max lower.start higher.start → set ≡ fingerprint bytes → bytes ≡ take p needle
      → r ≡ prepare_short needle n mode c p before
  unfolding prepare_short reverse_rounds
  short_is n mode c before e l f q = e ∙ rw (l, f, q, a, b)

-- ---- the steps together

module _ (needle : List ℕ) {split : Suffix} {k : ℕ} (pos : 0 < length needle) (e : split ≡ choice needle)
    (f : k ≡ agree (take split.start needle) (take (split.period + split.start - split.period) (drop split.period needle))) where
  k_is : k ≡ agreed needle (chosen needle).start (chosen needle).period
  k_is = rw (f, add-sub_cancel_left, e)

  -- no difference: the period of the part from the split on is the needle's
  pub whole_period : split.start ≤ k → Period (front needle) split.period
  whole_period h = rw e (chosen_short needle pos (rw (e, k_is) at h)).holds

  pub steps_long : (n : ℕ) (mode : Mode) {r : PartsTold} → r ≡ prepare_long needle n mode split.start (split.rounds + (k + 1)) → k < split.start → r ≡ five_steps needle n mode
  unfolding five_steps
  steps_long n mode a h =
      let j = agreed needle (chosen needle).start (chosen needle).period in
      let l : j < (chosen needle).start = rw (e, k_is) at h in
      let pairs : min (j + 1) (chosen needle).start ≡ j + 1 = omega arith in
      a ∙ rw (e, k_is, lt-ltb _ _ l, pairs)

  pub steps_short : (n : ℕ) (mode : Mode) {r : PartsTold} → r ≡ prepare_short needle n mode split.start split.period (split.rounds + split.start)
      → split.start ≤ k → r ≡ five_steps needle n mode
  unfolding five_steps
  steps_short n mode a h =
      let j = agreed needle (chosen needle).start (chosen needle).period in
      let l : (chosen needle).start ≤ j = rw (e, k_is) at h in
      let pairs : min (j + 1) (chosen needle).start ≡ (chosen needle).start = omega arith in
      a ∙ rw (e, le-ltb _ _ l, pairs)

-- ---- the whole

module _ (needle : List ℕ) (n : ℕ) where
  pub prepare_refuses : (mode : Mode) {why : Refusal} {r : PartsTold} → r ≡ refuse why → Err why ≡ lengths n (length needle) → r ≡ prepare_rule needle n mode
  unfolding prepare_rule
  prepare_refuses mode q h = q ∙ rw (← h)

  module _ (passed : Ok tt ≡ lengths n (length needle)) where
    pub prepare_empty : (mode : Mode) {r : PartsTold} → r ≡ empty_walk n mode → length needle ≡ 0 → r ≡ prepare_rule needle n mode
    unfolding prepare_rule
    prepare_empty mode q z = q ∙ rw (← passed, eq-eqb _ _ z)

    pub prepare_steps : (mode : Mode) {r : PartsTold} → r ≡ five_steps needle n mode → (length needle ≡ 0 → ⊥) → r ≡ prepare_rule needle n mode
    unfolding prepare_rule
    prepare_steps mode q z = q ∙ rw (← passed, ne_eqb _ _ z)

    pub passed_small : length needle ≤ needle_bound
    passed_small = (lengths_pass n (length needle) passed refl).needle_in

-- what each return of preparing has to show, from the rule's answer alone
pub prepare_settled : (needle : List ℕ) (n : ℕ) (mode : Mode) {r : PartsTold} → r ≡ prepare_rule needle n mode → (r ≡ prepare_rule needle n mode) × NoState r
prepare_settled needle n mode e = (e, subst NoState (sym e) (refused_fits_nothing needle n mode))
