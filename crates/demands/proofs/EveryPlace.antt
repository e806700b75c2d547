-- What demand 2 says of an empty needle, in numbers: the greedy lists of an empty word are all places in order, and no other list is one.
-- Assumes nothing.
use Prim.Native.Nat.{ℕ, zero, suc, ◌+◌, ◌-◌, ◌≤◌}
use mathlib.Core.Path.{◌≡◌, refl, subst}
use mathlib.Core.Bool.{Bool, true, false, cond}
use mathlib.Core.List.{List, [], ◌∷◌}
use native.Mathlib.Omega.{arith}
use native.Mathlib.Decide.{dec_lt}
use lib.ListN.{length}
use Rattle.words.specs.Word.{Word, front}
use Rattle.words.specs.Choice.{Nowhere}
use Rattle.words.specs.Occurs.{OccursBelow, Leftmost, Rightmost}
use Rattle.record.specs.declared.Fixed.{Fixed}
use Rattle.record.specs.declared.Moving.{Moving}
use Rattle.record.specs.declared.Mode.{Mode}
use Rattle.record.specs.Fits.{fits}
use Rattle.record.proofs.Fitting.{state}
use Rattle.searcher.specs.Walk.{new_rule}
use Rattle.demands.specs.Open.{given_here, given_here_back, open_from, open_below}
use Rattle.demands.specs.Allowed.{Allowed}
use Rattle.demands.specs.Reached.{Call, reached}
use Rattle.demands.specs.Means.{gap_of, rising, falling, EveryPlace}
use Rattle.demands.proofs.Turns.{stands, none_past, leftmost_on, rightmost_on}
use Rattle.demands.proofs.Places.{places}
use Rattle.demands.proofs.Start.{prepared_ready}
use Rattle.demands.proofs.Meaning.{gap_one, demand_2}

module _ (x h : Word) (blank : x.size ≡ 0) where
  nothing_low : Nowhere (OccursBelow x h 0)
  nothing_low j o = let hi = o.0 in omega arith

  -- the places from a on, and those below b, are such a list
  rising_lists : (k a : ℕ) → k + a ≡ h.size + 1 → Leftmost x h 1 a (rising k a)
  unfolding rising
  rising_lists zero a e = Leftmost.over (none_past x h blank a (omega arith))
  rising_lists (suc k) a e = leftmost_on x h blank a (omega arith) (rising_lists k (a + 1) (omega arith))

  falling_lists : (b : ℕ) → b ≤ h.size + 1 → Rightmost x h 1 b (falling b)
  unfolding falling
  falling_lists zero inside = Rightmost.over nothing_low
  falling_lists (suc b) inside = subst (λ c. Rightmost x h 1 c (b ∷ falling b)) (omega arith) (rightmost_on x h blank b (omega arith) (falling_lists b (omega arith)))

  -- and the only one
  is_rising : (k a : ℕ) (ks : List ℕ) → k + a ≡ h.size + 1 → Leftmost x h 1 a ks → ks ≡ rising k a
  unfolding rising
  is_rising zero a [] e l = refl
  is_rising zero a (j ∷ ks) e (Leftmost.hit l rest) = let lo = l.holds.0 in let fits = l.holds.1.fits in absurd (omega arith)
  is_rising (suc k) a [] e (Leftmost.over nothing) = absurd (nothing a (omega arith, stands x h blank a (omega arith)))
  is_rising (suc k) a (j ∷ ks) e (Leftmost.hit l rest) =
      elim (dec_lt a j) [
        | yes lt ↦ absurd (l.none_before a lt (omega arith, stands x h blank a (omega arith)))
        | no ge ↦
            let from = l.holds.0 in
            let same : j ≡ a = omega arith in
            let later : j + 1 ≡ a + 1 = omega arith in
            rw (same, is_rising k (a + 1) ks (omega arith) (rw later at rest))
      ]

  is_falling : (b : ℕ) (ks : List ℕ) → b ≤ h.size + 1 → Rightmost x h 1 b ks → ks ≡ falling b
  unfolding falling
  is_falling zero [] inside l = refl
  is_falling zero (j ∷ ks) inside (Rightmost.hit g rest) = let hi = g.holds.0 in absurd (omega arith)
  is_falling (suc b) [] inside (Rightmost.over nothing) = absurd (nothing b (omega arith, stands x h blank b (omega arith)))
  is_falling (suc b) (j ∷ ks) inside (Rightmost.hit g rest) =
      elim (dec_lt j b) [
        | yes lt ↦ absurd (g.none_after b lt (omega arith, stands x h blank b (omega arith)))
        | no ge ↦
            let below = g.holds.0 in
            let same : j ≡ b = omega arith in
            let later : j + 1 - 1 ≡ b = omega arith in
            rw (same, is_falling b ks (omega arith) (rw later at rest))
      ]

-- the places still open are among them
by_flag : (b : Bool) {c d n : ℕ} → c ≤ n → d ≤ n → cond b c d ≤ n
by_flag true l r = l
by_flag false l r = r

open_inside : (needle haystack : List ℕ) (f : Fixed) (s : Moving) → fits needle haystack f s ≡ true
    → (open_from s ≤ length haystack + 1) × (open_below (length needle) s ≤ length haystack + 1)
open_inside needle haystack f s fit =
    let position = (state needle haystack f s fit).position_in in
    let end = (state needle haystack f s fit).end_in in
    (by_flag (given_here s) (omega arith) (omega arith), by_flag (given_here_back s) (omega arith) (omega arith))

pub every_place : (needle haystack : List ℕ) (mode : Mode) → Allowed needle haystack → length needle ≡ 0 → (calls : List Call) → EveryPlace needle haystack mode calls
every_place needle haystack mode ok blank calls =
    let x = front needle in
    let h = front haystack in
    let H = reached needle haystack mode calls in
    let d = demand_2 needle haystack mode ok calls in
    let one = gap_one needle haystack mode ok calls blank in
    let start = prepared_ready needle haystack mode ok in
    let p = places needle haystack ok blank (new_rule needle (length haystack) mode).walk start.fit calls in
    let open_in = open_inside needle haystack _ _ p.fit in
    let a = open_from H.walk.moving in
    let b = open_below (length needle) H.walk.moving in
    let ahead : Leftmost x h (gap_of mode needle) a (rising (length haystack + 1 - a) a) = rw one (rising_lists x h blank (length haystack + 1 - a) a (omega arith)) in
    let behind : Rightmost x h (gap_of mode needle) b (falling b) = rw one (falling_lists x h blank b (omega arith)) in
    record {
      forward = is_rising x h blank (length haystack + 1) 0 _ (omega arith) (rw one at (d.forward_list _ ahead));
      backward = is_falling x h blank (length haystack + 1) _ (omega arith) (rw one at (d.backward_list _ behind));
    }
