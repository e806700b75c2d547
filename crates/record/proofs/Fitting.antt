-- What it says of a state that it fits, and that the walks of a fitting two way state go by plans that fit, in both directions.
-- This holds of every state that fits, prepared or not.
-- Assumes nothing.
use Prim.Native.Nat.{ℕ, ◌+◌, ◌-◌, ◌<◌, ◌≤◌, max}
use mathlib.Core.Path.{◌≡◌, refl, sym, subst}
use mathlib.Core.Bool.{Bool, true, false, cond, false≢true}
use mathlib.Core.Logic.{◌⊎◌, ⊎_elim}
use mathlib.Core.List.{List}
use native.Mathlib.Omega.{arith}
use lib.Dec.{eqb}
use lib.ListN.{length}
use Rattle.words.proofs.Tests.{Decides, decides_eq, decides_lt, decides_le, decides_and, decides_or, decides_iff}
use Rattle.windows.specs.Mirror.{mirrored_plan}
use Rattle.windows.specs.Shape.{Shape, BackShape}
use Rattle.windows.proofs.Matches.{Follows, follows_shape}
use Rattle.record.specs.declared.Memory.{Memory}
use Rattle.record.specs.declared.Memory.TheVariants.{Long, Short}
use Rattle.record.specs.declared.Kind.{Kind}
use Rattle.record.specs.declared.Kind.TheVariants.{TwoWay, Empty}
use Rattle.record.specs.declared.Fixed.{Fixed}
use Rattle.record.specs.declared.Moving.{Moving}
use Rattle.record.specs.Fits.{fits_short, fits_long, fits_splits, fits}
use Rattle.record.specs.Kinds.{flags_of, overlaps, forward_memory, backward_memory, forward_plan, backward_plan, backward_period_memory}

-- the tests of fits_short, fits_long and fits as facts
pub record ShortFits (m c b p forward backward : ℕ) : Type 0 where
  pub ahead : c < p
  pub period_in : p ≤ m
  pub back_ahead : m - p < b
  pub back_in : b ≤ m
  pub forward_is : (forward ≡ 0) ⊎ (forward ≡ m - p)
  pub backward_is : (backward ≡ m) ⊎ (backward ≡ p)

pub record LongFits (m c b p : ℕ) : Type 0 where
  pub positive : 1 ≤ c
  pub inside : c < m
  pub back_is : b ≡ c
  pub period_is : p ≡ max c (m - c) + 1

abbrev pub SplitsFit : ℕ → ℕ → ℕ → ℕ → Memory → Type 0
SplitsFit m c b p (Short forward backward) = ShortFits m c b p forward backward
SplitsFit m c b p Long = LongFits m c b p

abbrev pub KindFits : ℕ → Fixed → Memory → Kind → Type 0
KindFits m f memory TwoWay = SplitsFit m f.crit_pos f.crit_pos_back f.period memory
KindFits m f memory (Empty forward backward) = m ≡ 0

pub record StateFits (needle haystack : List ℕ) (f : Fixed) (s : Moving) : Type 0 where
  pub needle_is : f.needle_len ≡ length needle
  pub haystack_is : f.haystack_len ≡ length haystack
  pub position_in : s.position ≤ length haystack
  pub end_in : s.end ≤ length haystack
  pub kind_fits : KindFits (length needle) f s.memory s.kind

decides_short : (m c b p forward backward : ℕ) → Decides (ShortFits m c b p forward backward) (fits_short m c b p forward backward)
unfolding fits_short
decides_short m c b p forward backward =
    decides_iff
    (λ h. record { ahead = h.0; period_in = h.1.0; back_ahead = h.1.1.0; back_in = h.1.1.1.0; forward_is = h.1.1.1.1.0; backward_is = h.1.1.1.1.1 })
    (λ h. (h.ahead, (h.period_in, (h.back_ahead, (h.back_in, (h.forward_is, h.backward_is))))))
    (decides_and _ _ (decides_lt c p)
    (decides_and _ _ (decides_le p m)
    (decides_and _ _ (decides_lt (m - p) b)
    (decides_and _ _ (decides_le b m)
    (decides_and _ _
    (decides_or _ _ (decides_eq forward 0) (decides_eq forward (m - p)))
    (decides_or _ _ (decides_eq backward m) (decides_eq backward p)))))))

decides_long : (m c b p : ℕ) → Decides (LongFits m c b p) (fits_long m c b p)
unfolding fits_long
decides_long m c b p =
    decides_iff
    (λ h. record { positive = h.0; inside = h.1.0; back_is = h.1.1.0; period_is = h.1.1.1 })
    (λ h. (h.positive, (h.inside, (h.back_is, h.period_is))))
    (decides_and _ _ (decides_le 1 c)
    (decides_and _ _ (decides_lt c m) (decides_and _ _ (decides_eq b c) (decides_eq p (max c (m - c) + 1)))))

decides_splits : (m c b p : ℕ) (memory : Memory) → Decides (SplitsFit m c b p memory) (fits_splits m c b p memory)
decides_splits m c b p (Short forward backward) = decides_short m c b p forward backward
decides_splits m c b p Long = decides_long m c b p

decides_kind : (m : ℕ) (f : Fixed) (memory : Memory) (kind : Kind)
    → Decides (KindFits m f memory kind) (cond (flags_of kind).empty (eqb m 0) (fits_splits m f.crit_pos f.crit_pos_back f.period memory))
decides_kind m f memory TwoWay = decides_splits m f.crit_pos f.crit_pos_back f.period memory
decides_kind m f memory (Empty forward backward) = decides_eq m 0

pub decides_fits : (needle haystack : List ℕ) (f : Fixed) (s : Moving) → Decides (StateFits needle haystack f s) (fits needle haystack f s)
unfolding fits
decides_fits needle haystack f s =
    decides_iff
    (λ h. record { needle_is = h.0; haystack_is = h.1.0; position_in = h.1.1.0; end_in = h.1.1.1.0; kind_fits = h.1.1.1.1 })
    (λ h. (h.needle_is, (h.haystack_is, (h.position_in, (h.end_in, h.kind_fits)))))
    (decides_and _ _ (decides_eq f.needle_len (length needle))
    (decides_and _ _ (decides_eq f.haystack_len (length haystack))
    (decides_and _ _ (decides_le s.position (length haystack))
    (decides_and _ _ (decides_le s.end (length haystack))
    (decides_kind (length needle) f s.memory s.kind)))))

-- what follows a match in each mode
module _ (m : ℕ) (f : Fixed) (memory : Memory) where
  pub forward_follows : Follows (forward_plan m f memory) m
  forward_follows = go (overlaps f.mode) refl
    where
      go : (b : Bool) → overlaps f.mode ≡ b → Follows (forward_plan m f memory) m
      go false e = Follows.past_needle (rw e) (rw e)
      go true e = Follows.by_period (rw e) (rw e)

  pub backward_follows : Follows (mirrored_plan m (backward_plan m f memory)) m
  backward_follows = go (overlaps f.mode) refl
    where
      go : (b : Bool) → overlaps f.mode ≡ b → Follows (mirrored_plan m (backward_plan m f memory)) m
      go false e = Follows.past_needle (rw e) (rw e (omega arith))
      go true e = Follows.by_period (rw e) (rw e)

  -- no number of the backward plan is above m, where those that preparing fixed are not
  back_shape : f.crit_pos_back ≤ m → f.period ≤ m → backward_period_memory m f.period memory ≤ m → BackShape (backward_plan m f memory) m
  back_shape split_in period_in memory_in = go (overlaps f.mode) refl
    where
      go : (b : Bool) → overlaps f.mode ≡ b → BackShape (backward_plan m f memory) m
      go false e = rw e (omega arith)
      go true e = rw e (omega arith)

-- what the walks rest on, for a needle of m letters in a haystack of n
pub record ForwardFits (m n : ℕ) (f : Fixed) (s : Moving) : Type 0 where
  pub shape : Shape (forward_plan m f s.memory) m
  pub memory : forward_memory s.memory ≤ m
  pub within : s.position ≤ n

pub record BackwardFits (m n : ℕ) (f : Fixed) (s : Moving) : Type 0 where
  pub shape : Shape (mirrored_plan m (backward_plan m f s.memory)) m
  pub back : BackShape (backward_plan m f s.memory) m
  pub memory : backward_memory m s.memory ≤ m
  pub within : s.end ≤ n

module _ (m n : ℕ) (f : Fixed) (s : Moving) (here : s.position ≤ n) (there : s.end ≤ n) where
  forward_fits : (memory : Memory) → s.memory ≡ memory → SplitsFit m f.crit_pos f.crit_pos_back f.period memory → ForwardFits m n f s
  forward_fits (Short forward backward) e k =
      record {
        shape = rw e (follows_shape (forward_follows m f (Short forward backward)) (omega arith) (omega arith) (omega arith) (omega arith));
        memory = rw e (⊎_elim (λ h. omega arith) (λ h. omega arith) k.forward_is);
        within = here;
      }
  forward_fits Long e k =
      record {
        shape = rw e (follows_shape (forward_follows m f Long) (omega arith) (omega arith) (omega arith) (omega arith));
        memory = rw e (omega arith);
        within = here;
      }

  backward_fits : (memory : Memory) → s.memory ≡ memory → SplitsFit m f.crit_pos f.crit_pos_back f.period memory → BackwardFits m n f s
  backward_fits (Short forward backward) e k =
      record {
        shape = rw e (follows_shape (backward_follows m f (Short forward backward)) (omega arith) (omega arith) (omega arith) (omega arith));
        back = rw e (back_shape m f (Short forward backward) k.back_in k.period_in k.period_in);
        memory = rw e (⊎_elim (λ h. omega arith) (λ h. omega arith) k.backward_is);
        within = there;
      }
  backward_fits Long e k =
      record {
        shape = rw e (follows_shape (backward_follows m f Long) (omega arith) (omega arith) (omega arith) (omega arith));
        back = rw e (back_shape m f Long (omega arith) (omega arith) (omega arith));
        memory = rw e (omega arith);
        within = there;
      }

-- a walk that is not an empty one is a two way one
pub told_two_way : (kind : Kind) → (flags_of kind).empty ≡ false → kind ≡ TwoWay
told_two_way TwoWay e = refl
told_two_way (Empty forward backward) e = absurd (false≢true (sym e))

splits_some : (m c b p : ℕ) (memory : Memory) → SplitsFit m c b p memory → 0 < m
splits_some m c b p (Short forward backward) k = omega arith
splits_some m c b p Long k = omega arith

module _ (needle haystack : List ℕ) (f : Fixed) (s : Moving) (e : fits needle haystack f s ≡ true) where
  pub state : StateFits needle haystack f s
  state = (decides_fits needle haystack f s).sound e

  -- a needle that is not empty is walked by a two way state
  pub some_two_way : 0 < length needle → s.kind ≡ TwoWay
  some_two_way some = go s.kind state.kind_fits
    where
      go : (kind : Kind) → KindFits (length needle) f s.memory kind → kind ≡ TwoWay
      go TwoWay k = refl
      go (Empty forward backward) k = absurd (omega arith)

  -- Every two way state that fits has what the walks rest on. It fits no empty needle.
  module _ (two_way : s.kind ≡ TwoWay) where
    pub two_way_splits : SplitsFit (length needle) f.crit_pos f.crit_pos_back f.period s.memory
    two_way_splits = subst (KindFits (length needle) f s.memory) two_way state.kind_fits

    pub two_way_some : 0 < length needle
    two_way_some = splits_some (length needle) f.crit_pos f.crit_pos_back f.period s.memory two_way_splits

    pub fits_forward : ForwardFits (length needle) (length haystack) f s
    fits_forward = forward_fits _ _ f s state.position_in state.end_in s.memory refl two_way_splits

    pub fits_backward : BackwardFits (length needle) (length haystack) f s
    fits_backward = backward_fits _ _ f s state.position_in state.end_in s.memory refl two_way_splits
