-- What a two way record that fits is to its two walks, and what it is once one of them has moved. m is the needle's size and n the haystack's.
-- Assumes nothing.
use Prim.Native.Nat.{ℕ, ◌≤◌}
use mathlib.Core.Path.{◌≡◌, refl, sym, subst}
use mathlib.Core.Bool.{true}
use mathlib.Core.List.{List}
use mathlib.Core.Logic.{◌⊎◌, inl, ⊎_elim}
use lib.ListN.{length}
use Rattle.windows.specs.declared.Cursor.{Cursor}
use Rattle.record.specs.declared.Memory.{Memory}
use Rattle.record.specs.declared.Memory.TheVariants.{Long, Short}
use Rattle.record.specs.declared.Kind.TheVariants.{TwoWay}
use Rattle.record.specs.declared.Fixed.{Fixed}
use Rattle.record.specs.declared.Moving.{Moving}
use Rattle.record.specs.Fits.{fits}
use Rattle.record.specs.Kinds.{forward_memory, backward_memory, set_forward, set_backward, forward_period_memory, backward_period_memory, forward_plan, backward_plan, forward_cursor, backward_cursor, moved_forward, moved_backward}
use Rattle.record.proofs.Fitting.{SplitsFit, KindFits, decides_fits, state, two_way_splits}

-- ---- the memory

-- the memories that a fitting state can have, forward and backward
abbrev pub Known : ℕ → ℕ → Memory → ℕ → Type 0
Known m p memory k = (k ≡ 0) ⊎ (k ≡ forward_period_memory m p memory)

abbrev pub KnownBack : ℕ → ℕ → Memory → ℕ → Type 0
KnownBack m p memory k = (k ≡ m) ⊎ (k ≡ backward_period_memory m p memory)

-- the memory that both directions have set
abbrev set_both : ℕ → ℕ → Memory → Memory
set_both k l Long = Long
set_both k l (Short forward backward) = Short k l

-- what the directions then read in it: k and l; the rest is as it was
record Remembers (m c b p : ℕ) (before after : Memory) (k l : ℕ) : Type 0 where
  splits : SplitsFit m c b p after
  forward_is : forward_memory after ≡ k
  backward_is : backward_memory m after ≡ l
  forward_period : forward_period_memory m p after ≡ forward_period_memory m p before
  backward_period : backward_period_memory m p after ≡ backward_period_memory m p before

module _ (m c b p : ℕ) where
  known : (memory : Memory) → SplitsFit m c b p memory → Known m p memory (forward_memory memory)
  known (Short forward backward) f = f.forward_is
  known Long f = inl refl

  known_back : (memory : Memory) → SplitsFit m c b p memory → KnownBack m p memory (backward_memory m memory)
  known_back (Short forward backward) f = f.backward_is
  known_back Long f = inl refl

  set_both_lem : (memory : Memory) (k l : ℕ) → SplitsFit m c b p memory → Known m p memory k → KnownBack m p memory l → Remembers m c b p memory (set_both k l memory) k l
  set_both_lem (Short forward backward) k l f e g =
      record {
        splits = record {
          ahead = f.ahead;
          period_in = f.period_in;
          back_ahead = f.back_ahead;
          back_in = f.back_in;
          forward_is = e;
          backward_is = g;
        };
        forward_is = refl;
        backward_is = refl;
        forward_period = refl;
        backward_period = refl;
      }
  set_both_lem Long k l f e g =
      record { splits = f; forward_is = ⊎_elim sym sym e; backward_is = ⊎_elim sym sym g; forward_period = refl; backward_period = refl }

-- to set one direction's is to set both, the other's as it was
set_forward_lem : (m k : ℕ) (memory : Memory) → set_forward k memory ≡ set_both k (backward_memory m memory) memory
set_forward_lem m k (Short forward backward) = refl
set_forward_lem m k Long = refl

set_backward_lem : (l : ℕ) (memory : Memory) → set_backward l memory ≡ set_both (forward_memory memory) l memory
set_backward_lem l (Short forward backward) = refl
set_backward_lem l Long = refl

-- ---- the record

abbrev moved_both : Moving → Cursor → Cursor → Moving
moved_both s k l = record { position = k.at; end = l.at; memory = set_both k.memory l.memory s.memory; kind = s.kind }

-- The record fits with s' in place of s, its walks go by the same plans, and they stand at k and l.
pub record Goes (needle haystack : List ℕ) (f : Fixed) (s s' : Moving) (k l : Cursor) : Type 0 where
  pub fit : fits needle haystack f s' ≡ true
  pub kind : s'.kind ≡ s.kind
  pub plan : forward_plan (length needle) f s'.memory ≡ forward_plan (length needle) f s.memory
  pub back_plan : backward_plan (length needle) f s'.memory ≡ backward_plan (length needle) f s.memory
  pub cursor : forward_cursor s' ≡ k
  pub back_cursor : backward_cursor (length needle) s' ≡ l

module _ (needle haystack : List ℕ) (f : Fixed) (s : Moving) (e : fits needle haystack f s ≡ true) (two_way : s.kind ≡ TwoWay) where
  abbrev m : ℕ
  m = length needle

  abbrev n : ℕ
  n = length haystack

  splits : SplitsFit m f.crit_pos f.crit_pos_back f.period s.memory
  splits = two_way_splits needle haystack f s e two_way

  moved_both_lem : (k l : Cursor) → k.at ≤ n → l.at ≤ n → Known m f.period s.memory k.memory → KnownBack m f.period s.memory l.memory
      → Goes needle haystack f s (moved_both s k l) k l
  moved_both_lem k l inside inside' known known' =
      let was = state needle haystack f s e in
      let set = set_both_lem m f.crit_pos f.crit_pos_back f.period s.memory k.memory l.memory splits known known' in
      record {
        fit = (decides_fits needle haystack f (moved_both s k l)).complete
            (record {
              needle_is = was.needle_is;
              haystack_is = was.haystack_is;
              position_in = inside;
              end_in = inside';
              kind_fits = subst (KindFits m f (set_both k.memory l.memory s.memory)) (sym two_way) set.splits;
            });
        kind = refl;
        plan = rw set.forward_period;
        back_plan = rw set.backward_period;
        cursor = rw set.forward_is;
        back_cursor = rw set.backward_is;
      }

  pub known_now : Known m f.period s.memory (forward_memory s.memory)
  known_now = known m f.crit_pos f.crit_pos_back f.period s.memory splits

  pub known_back_now : KnownBack m f.period s.memory (backward_memory m s.memory)
  known_back_now = known_back m f.crit_pos f.crit_pos_back f.period s.memory splits

  pub moved_forward_lem : (k : Cursor) → k.at ≤ n → Known m f.period s.memory k.memory → Goes needle haystack f s (moved_forward s k) k (backward_cursor m s)
  moved_forward_lem k inside known = rw (set_forward_lem m k.memory s.memory) (moved_both_lem k (backward_cursor m s) inside (state needle haystack f s e).end_in known known_back_now)

  pub moved_backward_lem : (l : Cursor) → l.at ≤ n → KnownBack m f.period s.memory l.memory → Goes needle haystack f s (moved_backward s l) (forward_cursor s) l
  moved_backward_lem l inside known = rw (set_backward_lem l.memory s.memory) (moved_both_lem (forward_cursor s) l (state needle haystack f s e).position_in inside known_now known)
