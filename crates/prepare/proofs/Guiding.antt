-- A prepared state guides the walks of its needle in both directions: its splits are critical, its period is the smallest one or below it, and its fingerprint never says no for a letter of the needle.
-- Assumes nothing.
use Prim.Native.Nat.{ℕ, ◌+◌, ◌-◌, ◌<◌, ◌≤◌, max}
use mathlib.Core.Path.{◌≡◌, refl}
use mathlib.Core.Bool.{Bool, true}
use mathlib.Core.List.{List}
use native.Mathlib.Omega.{arith}
use lib.ListN.{length, get_or}
use Rattle.words.specs.Word.{Word, front, back, mirror}
use Rattle.words.specs.Period.{SmallestPeriod}
use Rattle.words.specs.Critical.{Critical, LaterStart}
use Rattle.words.proofs.Critical.{critical_split, split_below, critical_mirror, smallest_mirror}
use Rattle.byteset.specs.Fingerprint.{has}
use Rattle.byteset.proofs.Laws.{never_no}
use Rattle.byteset.proofs.Period.{period_never_no}
use Rattle.windows.specs.declared.Plan.{Plan}
use Rattle.windows.specs.Mirror.{mirrored_plan}
use Rattle.windows.specs.Meaning.{Guides}
use Rattle.windows.proofs.Matches.{Follows, follows_positive, follows_fits, follows_same}
use Rattle.prepare.specs.Prepare.{chosen, prepare_short, prepare_long, five_steps}
use Rattle.record.specs.declared.Memory.TheVariants.{Long, Short}
use Rattle.record.specs.declared.Mode.{Mode}
use Rattle.record.specs.declared.Fixed.{Fixed}
use Rattle.record.specs.Kinds.{forward_plan, backward_plan}
use Rattle.record.proofs.Fitting.{forward_follows, backward_follows}
use Rattle.prepare.proofs.Ready.{reverse_start, by_kind}

-- ---- plans that guide, over a word of either direction

-- what follows a match is either of the two that can follow it
module _ (x : Word) (has : ℕ → Bool) (v : Plan) (pos : 0 < x.size) (never : (i : ℕ) → i < x.size → has (x.letter i) ≡ true) (after : Follows v x.size) where
  -- the period is the smallest one, so what stands before it stands again behind it
  short_guides : LaterStart x v.split → SmallestPeriod x v.period → v.period_memory ≡ x.size - v.period → Guides has v x
  short_guides later least memory =
      let below = split_below later least in
      let within = least.holds.within in
      let fits : v.period_memory + v.period ≤ x.size = omega arith in
      let same : (i j : ℕ) → i < v.period_memory → j ≡ i + v.period → x.letter i ≡ x.letter j = λ i j h e. least.holds.repeats i j e (omega arith) in
      record {
        never_no = never;
        split_inside = omega arith;
        critical = critical_split later;
        smallest = v.period;
        smallest_is = least;
        period_ahead = below;
        period_least = omega arith;
        period_memory_fits = fits;
        period_memory_same = same;
        shift_positive = follows_positive pos below fits same after;
        shift_memory_fits = follows_fits pos below fits same after;
        shift_memory_same = follows_same pos below fits same after;
      }

  -- the period is above both parts and no more than the smallest one, and nothing is remembered
  long_guides : {least : ℕ} → Critical x v.split → SmallestPeriod x least → 0 < v.split → v.split < x.size → v.split < least → x.size - v.split < least
      → v.period ≡ max v.split (x.size - v.split) + 1 → v.period_memory ≡ 0 → Guides has v x
  long_guides {least} critical least_is positive inside ahead back_ahead period memory =
      let above : v.split < v.period = omega arith in
      let fits : v.period_memory + v.period ≤ x.size = omega arith in
      let same : (i j : ℕ) → i < v.period_memory → j ≡ i + v.period → x.letter i ≡ x.letter j = λ i j h. absurd (omega arith) in
      record {
        never_no = never;
        split_inside = inside;
        critical = critical;
        smallest = least;
        smallest_is = least_is;
        period_ahead = above;
        period_least = omega arith;
        period_memory_fits = fits;
        period_memory_same = same;
        shift_positive = follows_positive pos above fits same after;
        shift_memory_fits = follows_fits pos above fits same after;
        shift_memory_same = follows_same pos above fits same after;
      }

-- ---- every prepared state

-- the letters read from the back are the same ones
from_back : (needle : List ℕ) (set : ℕ) → ((i : ℕ) → i < length needle → has set (get_or needle i 0) ≡ true) → (i : ℕ) → i < length needle → has set ((back needle).letter i) ≡ true
from_back needle set never i h = never (length needle - (1 + i)) (omega arith)

module _ (needle : List ℕ) (n : ℕ) (mode : Mode) (pos : 0 < length needle) where
  -- what is fixed, whatever was counted before
  abbrev long_fixed : Fixed
  long_fixed = (prepare_long needle n mode (chosen needle).start 0).fixed

  abbrev short_fixed : Fixed
  short_fixed = (prepare_short needle n mode (chosen needle).start (chosen needle).period 0).fixed

  -- Forward, the split is the later start of the two maximal suffixes, and so critical.
  pub prepared_guides : let r = five_steps needle n mode in Guides (has r.fixed.byteset) (forward_plan (length needle) r.fixed r.moving.memory) (front needle)
  unfolding prepare_short prepare_long
  prepared_guides =
      by_kind needle n mode (λ r. Guides (has r.fixed.byteset) (forward_plan (length needle) r.fixed r.moving.memory) (front needle)) pos
      (λ k. long_guides (front needle) _ _ pos (never_no needle) (forward_follows (length needle) long_fixed Long) (critical_split k.later) k.smallest_is k.positive k.inside k.ahead k.back_ahead refl refl)
      (λ k. short_guides (front needle) _ _ pos (period_never_no needle _ k.smallest_is.holds) (forward_follows (length needle) short_fixed (Short 0 (length needle))) k.later k.smallest_is refl)

  -- Backward, Long has the same split, seen from the other end. Short has its own, which is the later start there.
  pub prepared_guides_back : let r = five_steps needle n mode in Guides (has r.fixed.byteset) (mirrored_plan (length needle) (backward_plan (length needle) r.fixed r.moving.memory)) (mirror (front needle))
  unfolding prepare_short prepare_long
  prepared_guides_back =
      by_kind needle n mode (λ r. Guides (has r.fixed.byteset) (mirrored_plan (length needle) (backward_plan (length needle) r.fixed r.moving.memory)) (mirror (front needle))) pos
      (λ k.
      long_guides (back needle) _ _ pos (from_back needle _ (never_no needle))
      (backward_follows (length needle) long_fixed Long)
      (critical_mirror (front needle) (omega arith) (critical_split k.later))
      (smallest_mirror (front needle) k.smallest_is)
      (omega arith) (omega arith) (omega arith) (omega arith) (omega arith) (omega arith))
      (λ k.
      let within = k.back_later.start.within in
      let d = reverse_start needle (chosen needle).period in
      let from_end : length needle - (length needle - d) ≡ d = omega arith in
      short_guides (back needle) _ _ pos (from_back needle _ (period_never_no needle _ k.smallest_is.holds))
      (backward_follows (length needle) short_fixed (Short 0 (length needle)))
      (rw from_end k.back_later)
      (smallest_mirror (front needle) k.smallest_is)
      refl)
