-- When a state fits: 01's "The record of a walk".
-- Assumes nothing.
use Rattle.std.specs.Prelude.{ℕ, ◌+◌, ◌-◌, max, Bool, cond, ◌&&◌, ◌||◌, List, leb, ltb, eqb, length, Ok, Err}
use Rattle.limits.specs.Checks.{Check}
use Rattle.limits.specs.declared.Refusal.TheVariants.{StateDoesNotFit}
use Rattle.record.specs.declared.Memory.{Memory}
use Rattle.record.specs.declared.Memory.TheVariants.{Long, Short}
use Rattle.record.specs.declared.Fixed.{Fixed}
use Rattle.record.specs.declared.Moving.{Moving}
use Rattle.record.specs.Kinds.{flags_of}

-- "if Short, c < p, p at most m, b above m-p and at most m, forward memory 0 or m-p, backward memory m or p"
unfoldable pub fits_short : ℕ → ℕ → ℕ → ℕ → ℕ → ℕ → Bool
fits_short m c b p forward backward =
    ltb c p && (leb p m && (ltb (m - p) b && (leb b m && ((eqb forward 0 || eqb forward (m - p)) && (eqb backward m || eqb backward p)))))

-- "if Long, 1 <= c < m, b = c, p = max(c, m-c)+1"
unfoldable pub fits_long : ℕ → ℕ → ℕ → ℕ → Bool
fits_long m c b p = leb 1 c && (ltb c m && (eqb b c && eqb p (max c (m - c) + 1)))

abbrev pub fits_splits : ℕ → ℕ → ℕ → ℕ → Memory → Bool
fits_splits m c b p (Short forward backward) = fits_short m c b p forward backward
fits_splits m c b p Long = fits_long m c b p

-- "A state fits a needle and haystack when all hold: both stored lengths are theirs; `position` and `end` are at most n; .. Any `byteset` fits."
-- "An empty walk's state fits an empty needle only, .. flags as they may be." (02 [1]) Either mode fits.
unfoldable pub fits : List ℕ → List ℕ → Fixed → Moving → Bool
fits needle haystack f s =
    eqb f.needle_len (length needle)
    && (eqb f.haystack_len (length haystack)
    && (leb s.position (length haystack)
    && (leb s.end (length haystack)
    && cond (flags_of s.kind).empty (eqb (length needle) 0) (fits_splits (length needle) f.crit_pos f.crit_pos_back f.period s.memory))))

-- check 4: "a handed-in state doesn't fit"
unfoldable pub fitting : List ℕ → List ℕ → Fixed → Moving → Check
fitting needle haystack f s = cond (fits needle haystack f s) (Ok tt) (Err StateDoesNotFit)
