-- What preparing answers: for every needle that is not refused a state that fits, at the two ends of the haystack, and a count of at most nine for each letter;
-- for one that is refused, a record that fits nothing.
-- Assumes nothing.
use Prim.Native.Nat.{ℕ, ◌+◌, ◌-◌, ◌*◌, ◌<◌, ◌≤◌, min, max}
use mathlib.Core.Path.{◌≡◌, refl}
use mathlib.Core.Bool.{Bool, true, false, cond}
use mathlib.Core.Logic.{inl, inr}
use mathlib.Core.List.{List}
use Rattle.std.specs.Prelude.{Some, Ok, Err}
use native.Mathlib.Omega.{arith}
use native.Mathlib.Decide.{dec_lt}
use lib.Dec.{ltb, eqb}
use lib.ListN.{length}
use borrow.Author.Tests.{ltb-true, ltb-false}
use Rattle.words.specs.Word.{Word, front, back, mirror}
use Rattle.words.specs.Period.{Period, SmallestPeriod, smallest_period}
use Rattle.words.specs.Order.{MaximalSuffix}
use Rattle.words.specs.Critical.{LaterStart}
use Rattle.words.proofs.Decided.{smallest_period_is}
use Rattle.words.proofs.Mirror.{period_mirror}
use Rattle.words.proofs.Critical.{later_start, split_below, smallest_mirror}
use Rattle.limits.specs.Checks.{Check, lengths}
use Rattle.limits.specs.Said.{given}
use Rattle.limits.specs.declared.Refusal.{Refusal}
use Rattle.suffix.specs.Rounds.{rounds}
use Rattle.suffix.proofs.Maximal.{known_found}
use Rattle.record.specs.Fits.{fits}
use Rattle.record.specs.declared.Kind.TheVariants.{TwoWay}
use Rattle.record.specs.declared.Mode.{Mode}
use Rattle.prepare.specs.Prepare.{PartsTold, chosen, agreed, forward_rounds, prepare_short, prepare_long, five_steps, empty_walk, refuse, or_parts, prepare_rule, NoState}
use Rattle.record.specs.Kinds.{forward_cursor, backward_cursor}
use Rattle.prepare.proofs.Chosen.{chosen_split, chosen_fits, chosen_short, chosen_long, forward_few, reverse_few}
use Rattle.record.proofs.Fitting.{StateFits, decides_fits, two_way_splits}

-- ---- the two kinds

-- the later start of the reverse passes
abbrev pub reverse_start : List ℕ → ℕ → ℕ
reverse_start needle p = max (rounds false (back needle) (Some p)).start (rounds true (back needle) (Some p)).start

-- Short: the period p is the word's smallest, and the start d, from the back, is the later one of the word read from the back
pub record IsShort (x : Word) (c p d : ℕ) : Type 0 where
  pub later : LaterStart x c
  pub smallest_is : SmallestPeriod x p
  pub back_later : LaterStart (mirror x) d

-- Long: the smallest period is above both parts
pub record IsLong (x : Word) (c : ℕ) : Type 0 where
  pub later : LaterStart x c
  pub positive : 0 < c
  pub inside : c < x.size
  pub smallest : ℕ
  pub smallest_is : SmallestPeriod x smallest
  pub ahead : c < smallest
  pub back_ahead : x.size - c < smallest

-- with a period of the needle known, both reverse passes find the true start
reverse_later : (needle : List ℕ) (p : ℕ) → Period (front needle) p → LaterStart (back needle) (reverse_start needle p)
reverse_later needle p period =
    later_start lower higher
    (elim (dec_lt (rounds true (back needle) (Some p)).start (rounds false (back needle) (Some p)).start) [
      | yes h ↦ inl (omega arith)
      | no h ↦ inr (omega arith)
    ])
  where
    lower : MaximalSuffix false (back needle) (rounds false (back needle) (Some p)).start
    lower = (known_found false (back needle) p (period_mirror (front needle) p period)).maximal

    higher : MaximalSuffix true (back needle) (rounds true (back needle) (Some p)).start
    higher = (known_found true (back needle) p (period_mirror (front needle) p period)).maximal

module _ (needle : List ℕ) where
  abbrev c : ℕ
  c = (chosen needle).start

  abbrev p : ℕ
  p = (chosen needle).period

  -- the pairs that step 2 compares, the differing one included
  abbrev pairs : ℕ
  pairs = min (agreed needle c p + 1) c

  module _ (pos : 0 < length needle) where
    is_short : c ≤ agreed needle c p → IsShort (front needle) c p (reverse_start needle p)
    is_short h =
        let s = chosen_short needle pos h in
        record { later = (chosen_split needle pos).later; smallest_is = s; back_later = reverse_later needle p s.holds }

    is_long : agreed needle c p < c → IsLong (front needle) c
    is_long h =
        let split = chosen_split needle pos in
        let period = split.period.holds.positive in
        let least = smallest_period_is (front needle) pos in
        let above = chosen_long needle pos h least in
        record {
          later = split.later;
          positive = above.0;
          inside = omega (arith, chosen_fits needle pos);
          smallest = smallest_period (front needle);
          smallest_is = least;
          ahead = above.1;
          back_ahead = above.2;
        }

  -- what is shown of both kinds holds of every prepared state
  pub by_kind : (n : ℕ) (mode : Mode) (P : PartsTold → Type 0) → 0 < length needle
      → (IsLong (front needle) c → P (prepare_long needle n mode c (forward_rounds needle + pairs)))
      → (IsShort (front needle) c p (reverse_start needle p) → P (prepare_short needle n mode c p (forward_rounds needle + pairs)))
      → P (five_steps needle n mode)
  unfolding five_steps
  by_kind n mode P pos long short = go (ltb (agreed needle c p) c) refl
    where
      go : (b : Bool) → ltb (agreed needle c p) c ≡ b
          → P
          (cond b
          (prepare_long needle n mode c (forward_rounds needle + pairs))
          (prepare_short needle n mode c p (forward_rounds needle + pairs)))
      go true e = long (is_long pos (ltb-true _ _ e))
      go false e = short (is_short pos (ltb-false _ _ e))

-- ---- what every prepared state is

module _ (needle : List ℕ) (pos : 0 < length needle) where
  -- 5. "`position` 0, `end` n", and 3. "memories are 0 and m"
  pub prepared_start : (n : ℕ) (mode : Mode) → forward_cursor (five_steps needle n mode).moving ≡ record { at = 0; memory = 0 }
  unfolding prepare_short prepare_long
  prepared_start n mode = by_kind needle n mode (λ r. forward_cursor r.moving ≡ record { at = 0; memory = 0 }) pos (λ k. refl) (λ k. refl)

  pub prepared_start_back : (n : ℕ) (mode : Mode) → backward_cursor (length needle) (five_steps needle n mode).moving ≡ record { at = n; memory = length needle }
  unfolding prepare_short prepare_long
  prepared_start_back n mode =
      by_kind needle n mode (λ r. backward_cursor (length needle) r.moving ≡ record { at = n; memory = length needle }) pos (λ k. refl) (λ k. refl)

  -- Every prepared state fits: a critical split is below the smallest period, in both directions.
  pub prepared_fits : (haystack : List ℕ) (mode : Mode) → let r = five_steps needle (length haystack) mode in fits needle haystack r.fixed r.moving ≡ true
  unfolding prepare_short prepare_long
  prepared_fits haystack mode =
      (decides_fits needle haystack (five_steps needle (length haystack) mode).fixed (five_steps needle (length haystack) mode).moving).complete
      (by_kind needle (length haystack) mode (λ r. StateFits needle haystack r.fixed r.moving) pos
      (λ k. omega arith)
      (λ k.
      let ahead = split_below k.later k.smallest_is in
      let back_ahead = split_below k.back_later (smallest_mirror (front needle) k.smallest_is) in
      let within = k.smallest_is.holds.within in
      record {
        needle_is = refl;
        haystack_is = refl;
        position_in = omega arith;
        end_in = omega arith;
        kind_fits = record {
          ahead = ahead;
          period_in = within;
          back_ahead = omega arith;
          back_in = omega arith;
          forward_is = inl refl;
          backward_is = inl refl;
        };
      }))

  -- It has the mode that was asked for,
  pub prepared_mode : (n : ℕ) (mode : Mode) → (five_steps needle n mode).fixed.mode ≡ mode
  unfolding prepare_short prepare_long
  prepared_mode n mode = by_kind needle n mode (λ r. r.fixed.mode ≡ mode) pos (λ k. refl) (λ k. refl)

  -- and is a two way one
  pub prepared_two_way : (n : ℕ) (mode : Mode) → (five_steps needle n mode).moving.kind ≡ TwoWay
  unfolding prepare_short prepare_long
  prepared_two_way n mode = by_kind needle n mode (λ r. r.moving.kind ≡ TwoWay) pos (λ k. refl) (λ k. refl)

  -- Four passes of at most 2m rounds each, and at most c pairs, which is below m.
  pub preparing_few : (n : ℕ) (mode : Mode) → (five_steps needle n mode).counts.preparing ≤ 9 * length needle
  unfolding prepare_short prepare_long
  preparing_few n mode =
      let a = forward_few needle in
      let b = reverse_few needle (p needle) in
      by_kind needle n mode (λ r. r.counts.preparing ≤ 9 * length needle) pos
      (λ k. omega arith)
      (λ k. omega (arith, chosen_fits needle pos))

-- ---- what is handed back where nothing is prepared

-- It is a two way one, and Long's split is at least 1: so this record fits no needle, the empty one included.
refuse_fits_nothing : (why : Refusal) (needle haystack : List ℕ) → fits needle haystack (refuse why).fixed (refuse why).moving ≡ false
refuse_fits_nothing why needle haystack = go _ refl
  where
    go : (b : Bool) → fits needle haystack (refuse why).fixed (refuse why).moving ≡ b → b ≡ false
    go false e = refl
    go true e =
        let k = two_way_splits needle haystack (refuse why).fixed (refuse why).moving e refl in
        absurd (omega arith)

-- what the five steps give is not refused
pub prepared_ready : (needle : List ℕ) (n : ℕ) (mode : Mode) → (five_steps needle n mode).answer ≡ given tt
unfolding five_steps prepare_short prepare_long
prepared_ready needle n mode = go (ltb (agreed needle (chosen needle).start (chosen needle).period) (chosen needle).start) _ _ refl refl
  where
    go : (b : Bool) (long short : PartsTold) → long.answer ≡ given tt → short.answer ≡ given tt → (cond b long short).answer ≡ given tt
    go true long short l s = l
    go false long short l s = s

pub refused_fits_nothing : (needle : List ℕ) (n : ℕ) (mode : Mode) → NoState (prepare_rule needle n mode)
unfolding prepare_rule
refused_fits_nothing needle n mode = go (lengths n (length needle)) (eqb (length needle) 0)
  where
    go : (c : Check) (b : Bool) → NoState (or_parts c (cond b (empty_walk n mode) (five_steps needle n mode)))
    go (Ok passed) true number e = cc
    go (Ok passed) false number e = let q = prepared_ready needle n mode in cc
    go (Err why) b number e = refuse_fits_nothing why
