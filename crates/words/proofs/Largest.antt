-- Every word has a maximal suffix in each order, and so a critical split before its smallest period: the largest of its local periods is its smallest period.
-- Assumes nothing.
use Prim.Native.Nat.{ℕ, zero, suc, ◌+◌, ◌<◌, ◌≤◌, min}
use mathlib.Core.Path.{◌≡◌, refl, sym}
use mathlib.Core.Bool.{Bool, true, false}
use mathlib.Core.Logic.{◌⊎◌, inl, inr, ⊎_elim}
use native.Mathlib.Omega.{arith}
use native.Mathlib.Decide.{dec_lt, dec_le, ℕ_discrete}
use Rattle.words.specs.Word.{Word, suffix}
use Rattle.words.specs.Choice.{Greatest}
use Rattle.words.specs.Period.{SmallestPeriod}
use Rattle.words.specs.Order.{Below, Less, MaximalSuffix}
use Rattle.words.specs.Critical.{LocalSomewhere, LaterStart}
use Rattle.words.proofs.Order.{less_trans}
use Rattle.words.proofs.Critical.{later_start, critical_split, split_below, local_below}

-- of two numbers that differ, one is less
lower : (a b : ℕ) → (a ≡ b → ⊥) → (a < b) ⊎ (b < a)
lower a b ne = elim (dec_lt a b) [ yes h ↦ inl h | no h ↦ elim (ℕ_discrete a b) [ yes e ↦ absurd (ne e) | no e ↦ inr (omega arith) ] ]

-- and of two letters, in either order, one is below the other
below_total : (g : Bool) (a b : ℕ) → (a ≡ b → ⊥) → Below g a b ⊎ Below g b a
below_total false a b ne = lower a b ne
below_total true a b ne = lower b a (λ e. ne (sym e))

-- Of two words of different sizes one is less than the other. They agree up to k, and have f letters more to be looked at.
module _ (g : Bool) (u v : Word) (sizes : u.size ≡ v.size → ⊥) where
  shorter_less : (a b : Word) → ((i : ℕ) → i < a.size → a.letter i ≡ b.letter i) → a.size < b.size → Less g a b
  shorter_less a b same h = record { k = a.size; same = same; more = h; parts = inr refl }

  less_from : (f k : ℕ) → f + k ≡ min u.size v.size → ((i : ℕ) → i < k → u.letter i ≡ v.letter i) → Less g u v ⊎ Less g v u
  less_from zero k e same =
      ⊎_elim
      (λ h. inl (shorter_less u v (λ i hi. same i (omega arith)) h))
      (λ h. inr (shorter_less v u (λ i hi. sym (same i (omega arith))) h))
      (lower u.size v.size sizes)
  less_from (suc f) k e same =
      elim (ℕ_discrete (u.letter k) (v.letter k)) [
        | yes y ↦ less_from f (k + 1) (omega arith) (λ i hi. elim (ℕ_discrete i k) [ yes z ↦ rw z y | no z ↦ same i (omega arith) ])
        | no y ↦ ⊎_elim
            (λ b. inl (record { k = k; same = same; more = omega arith; parts = inl (omega arith, b) }))
            (λ b. inr (record { k = k; same = λ i hi. sym (same i hi); more = omega arith; parts = inl (omega arith, b) }))
            (below_total g (u.letter k) (v.letter k) y)
      ]

  less_total : Less g u v ⊎ Less g v u
  less_total = less_from (min u.size v.size) 0 (omega arith) (λ i hi. absurd (omega arith))

-- the greatest of the suffixes that start at k or before
record MaximalUpTo (g : Bool) (x : Word) (k : ℕ) : Type 0 where
  start : ℕ
  within : start ≤ k
  greatest : (t : ℕ) → t ≤ k → (t ≡ start → ⊥) → Less g (suffix x t) (suffix x start)

module _ (g : Bool) (x : Word) where
  -- one suffix more: it is the greatest now, or the greatest before it stays so
  one_more : {k : ℕ} → suc k ≤ x.size → MaximalUpTo g x k → MaximalUpTo g x (suc k)
  one_more {k} h m =
      let s = m.start in
      let w = m.within in
      ⊎_elim
      (λ l. record {
        start = s;
        within = omega arith;
        greatest = λ t ht ne. elim (ℕ_discrete t (suc k)) [ yes e ↦ rw e l | no e ↦ m.greatest t (omega arith) ne ];
      })
      (λ l. record {
        start = suc k;
        within = omega arith;
        greatest = λ t ht ne. elim (ℕ_discrete t s) [
          | yes e ↦ rw e l
          | no e ↦ less_trans g (suffix x t) (suffix x s) (suffix x (suc k)) (m.greatest t (omega arith) e) l
        ];
      })
      (less_total g (suffix x (suc k)) (suffix x s) (λ e. absurd (omega arith)))

  up_to : (k : ℕ) → k ≤ x.size → MaximalUpTo g x k
  up_to zero h = record { start = 0; within = omega arith; greatest = λ t ht ne. absurd (ne (omega arith)) }
  up_to (suc k) h = one_more h (up_to k (omega arith))

  whole : MaximalUpTo g x x.size
  whole = up_to x.size (omega arith)

  maximal_start : MaximalSuffix g x whole.start
  maximal_start = record { within = whole.within; greatest = whole.greatest }

-- the later of the two starts
record Later (x : Word) : Type 0 where
  split : ℕ
  is_later : LaterStart x split

later_exists : (x : Word) → Later x
later_exists x =
    let s = (whole false x).start in
    let t = (whole true x).start in
    let a = maximal_start false x in
    let b = maximal_start true x in
    elim (dec_le t s) [
      | yes h ↦ record { split = s; is_later = later_start a b (inl (refl, h)) }
      | no h ↦ record { split = t; is_later = later_start a b (inr (refl, omega arith)) }
    ]

-- the critical factorisation theorem, said of all splits: a local period is at most the smallest period, and at the later start it is that period
pub largest_local : {x : Word} {p : ℕ} → SmallestPeriod x p → Greatest (LocalSomewhere x) p
largest_local {x} {p} s =
    let later = later_exists x in
    let low = split_below later.is_later s in
    let w = s.holds.within in
    record {
      holds = record { split = later.split; inside = omega arith; local_is = (critical_split later.is_later).local_is p s };
      none_after = λ r h l. let le = local_below l.local_is s in omega arith;
    }
