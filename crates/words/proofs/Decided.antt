-- The executable forms of specs/ agree with the properties beside which they stand, so that what they compute on an example is so.
-- Assumes nothing.
use Prim.Native.Nat.{ℕ, zero, suc, ◌+◌, ◌-◌, ◌<◌, ◌≤◌, min}
use mathlib.Core.Path.{◌≡◌, refl, sym, ◌∙◌, ap}
use mathlib.Core.Bool.{Bool, true, false, cond, not, ◌&&◌, ◌||◌}
use mathlib.Core.Logic.{◌⊎◌, inl, inr, ⊎_elim}
use mathlib.Core.List.{List, [], ◌∷◌}
use native.Mathlib.Omega.{arith}
use native.Mathlib.Decide.{dec_lt, dec_le, ℕ_discrete}
use lib.Dec.{ltb, leb, eqb}
use borrow.Author.Tests.{ltb-true, ltb-false, leb-true, leb-false, eqb-true, lt-ltb, le-ltb, eq-eqb, ne_eqb, not-false}
use Rattle.words.specs.Word.{Word, mirror, suffix}
use Rattle.words.specs.Choice.{Least, Nowhere, every, least}
use Rattle.words.specs.Occurs.{Occurs, occursb, OccursFrom, OccursBelow, Leftmost, Rightmost, next_from, leftmost, rightmost}
use Rattle.words.specs.Period.{Period, SmallestPeriod, periodb, smallest_period, LocalRepeat, LocalPeriod, local_repeatb, local_period}
use Rattle.words.specs.Order.{Below, below, Less, lessb, MaximalSuffix, maximalb}
use Rattle.words.proofs.Tests.{Decides, First, first_is, refutes, least_at, least_none, decides_eq, decides_lt, decides_le, decides_and, decides_or, decides_iff, decides_every, least_is, least_misses, least_alone, greatest_alone}
use Rattle.words.proofs.Mirror.{rightmost_mirror}

module _ (x h : Word) where
  pub occurs_decided : (k : ℕ) → Decides (Occurs x h k) (occursb x h k)
  unfolding occursb
  occurs_decided k =
      decides_iff
      (λ p. record { fits = p.0; same = λ i j hi e. p.1 i hi ∙ ap h.letter (sym e) })
      (λ o. (o.fits, λ i hi. o.same i (k + i) hi refl))
      (decides_and (leb (k + x.size) h.size) (every x.size (λ i. eqb (x.letter i) (h.letter (k + i))))
      (decides_le (k + x.size) h.size)
      (decides_every (λ i. x.letter i ≡ h.letter (k + i)) (λ i. eqb (x.letter i) (h.letter (k + i))) x.size (λ i hi. decides_eq (x.letter i) (h.letter (k + i)))))

  next_low : (a : ℕ) → a ≤ next_from x h a
  unfolding next_from
  next_low a = (first_is (occursb x h) (h.size + 1 - a) a).low

  next_found : (a : ℕ) → next_from x h a ≤ h.size → Least (OccursFrom x h a) (next_from x h a)
  unfolding next_from
  next_found a hk =
      let r = first_is (occursb x h) (h.size + 1 - a) a in
      let lo = r.low in
      record {
        holds = (lo, (occurs_decided (next_from x h a)).sound (r.found (omega arith)));
        none_before = λ j hj o. refutes (occurs_decided j) (r.missed j o.0 hj) o.1;
      }

  next_none : (a : ℕ) → h.size < next_from x h a → Nowhere (OccursFrom x h a)
  unfolding next_from
  next_none a hk j o =
      let r = first_is (occursb x h) (h.size + 1 - a) a in
      let f = o.1.fits in
      refutes (occurs_decided j) (r.missed j o.0 (omega arith)) o.1

  -- the computed list is the greedy one, where there is a gap and room for every hit
  pub leftmost_is : (most gap a : ℕ) → 0 < gap → h.size < most + a + x.size → Leftmost x h gap a (leftmost most x h gap a)
  unfolding leftmost
  leftmost_is zero gap a pg room =
      let past : Nowhere (OccursFrom x h a) = λ j o. let f = o.1.fits in let s = o.0 in absurd (omega arith) in
      Leftmost.over past
  leftmost_is (suc most) gap a pg room = go (leb k h.size) refl (λ low. leftmost_is most gap (k + gap) pg (omega arith))
    where
      k : ℕ
      k = next_from x h a

      go : (b : Bool) → leb k h.size ≡ b → (a ≤ k → Leftmost x h gap (k + gap) (leftmost most x h gap (k + gap)))
          → Leftmost x h gap a (cond b (k ∷ leftmost most x h gap (k + gap)) [])
      go true e rest = Leftmost.hit (next_found a (leb-true _ _ e)) (rest (next_low a))
      go false e rest = Leftmost.over (next_none a (leb-false _ _ e))

  -- no second list is the greedy one
  pub leftmost_alone : (gap a : ℕ) (ks ls : List ℕ) → Leftmost x h gap a ks → Leftmost x h gap a ls → ks ≡ ls
  leftmost_alone gap a [] [] (Leftmost.over m) (Leftmost.over n) = refl
  leftmost_alone gap a [] (l ∷ ls) (Leftmost.over m) (Leftmost.hit o r) = absurd (m l o.holds)
  leftmost_alone gap a (k ∷ ks) [] (Leftmost.hit o r) (Leftmost.over m) = absurd (m k o.holds)
  leftmost_alone gap a (k ∷ ks) (l ∷ ls) (Leftmost.hit o r) (Leftmost.hit p q) =
      let e = least_alone (OccursFrom x h a) k l o p in
      let rest = leftmost_alone gap (k + gap) ks ls r (rw (← e) at q) in
      cc

-- the same of the rightmost list
module _ (x h : Word) where
  pub rightmost_is : (most gap b : ℕ) → 0 < gap → b ≤ most → Rightmost x h gap b (rightmost most x h gap b)
  unfolding rightmost
  rightmost_is most gap b pg room =
      let a = h.size + 1 - (x.size + b) in
      rightmost_mirror x h gap b a (leftmost most (mirror x) (mirror h) gap a) (λ k k' e. omega arith)
      (leftmost_is (mirror x) (mirror h) most gap a pg (omega arith))

  pub rightmost_alone : (gap b : ℕ) (ks ls : List ℕ) → Rightmost x h gap b ks → Rightmost x h gap b ls → ks ≡ ls
  rightmost_alone gap b [] [] (Rightmost.over m) (Rightmost.over n) = refl
  rightmost_alone gap b [] (l ∷ ls) (Rightmost.over m) (Rightmost.hit o r) = absurd (m l o.holds)
  rightmost_alone gap b (k ∷ ks) [] (Rightmost.hit o r) (Rightmost.over m) = absurd (m k o.holds)
  rightmost_alone gap b (k ∷ ks) (l ∷ ls) (Rightmost.hit o r) (Rightmost.hit p q) =
      let e = greatest_alone (OccursBelow x h b) k l o p in
      let rest = rightmost_alone gap (k + 1 - gap) ks ls r (rw (← e) at q) in
      cc

module _ (x : Word) where
  pub period_decided : (r : ℕ) → Decides (Period x r) (periodb x r)
  unfolding periodb
  period_decided r =
      decides_iff
      (λ p. record {
        positive = p.0.0;
        within = p.0.1;
        repeats = λ i j e hj. p.1 i (omega arith) ∙ ap x.letter (sym e);
      })
      (λ p. ((p.positive, p.within), λ i hi. p.repeats i (i + r) refl (omega arith)))
      (decides_and (ltb 0 r && leb r x.size) (every (x.size - r) (λ i. eqb (x.letter i) (x.letter (i + r))))
      (decides_and (ltb 0 r) (leb r x.size) (decides_lt 0 r) (decides_le r x.size))
      (decides_every (λ i. x.letter i ≡ x.letter (i + r)) (λ i. eqb (x.letter i) (x.letter (i + r))) (x.size - r) (λ i hi. decides_eq (x.letter i) (x.letter (i + r)))))

  -- a word that is not empty has a period, its size
  pub whole_period : 0 < x.size → Period x x.size
  whole_period h = record { positive = h; within = omega arith; repeats = λ i j e hj. absurd (omega arith) }

  pub smallest_period_is : 0 < x.size → SmallestPeriod x (smallest_period x)
  unfolding smallest_period
  smallest_period_is h =
      elim (dec_lt (least (x.size + 1) (periodb x)) (x.size + 1)) [
        | yes y ↦ least_is (Period x) (periodb x) (x.size + 1) (λ i hi. period_decided i) y
        | no y ↦ absurd (least_misses (Period x) (periodb x) (x.size + 1) (λ i hi. period_decided i) (omega arith) x.size (omega arith) (whole_period h))
      ]

  -- what the sentence asks of r at the index i before a split c: one of its two exceptions, or the equation
  abbrev AtIndex : ℕ → ℕ → ℕ → Type 0
  AtIndex c r i = ((i + r < c) ⊎ (x.size ≤ i + r)) ⊎ (x.letter i ≡ x.letter (i + r))

  at_index : (c r i : ℕ) → Decides (AtIndex c r i) (ltb (i + r) c || leb x.size (i + r) || eqb (x.letter i) (x.letter (i + r)))
  at_index c r i =
      decides_or (ltb (i + r) c || leb x.size (i + r)) (eqb (x.letter i) (x.letter (i + r)))
      (decides_or (ltb (i + r) c) (leb x.size (i + r)) (decides_lt (i + r) c) (decides_le x.size (i + r)))
      (decides_eq (x.letter i) (x.letter (i + r)))

  -- the equation at an index that is none of the exceptions, and the other way round
  asked : (c r i : ℕ) → AtIndex c r i → c ≤ i + r → i + r < x.size → x.letter i ≡ x.letter (i + r)
  asked c r i v hc hr = ⊎_elim (λ y. ⊎_elim (λ z. absurd (omega arith)) (λ z. absurd (omega arith)) y) (λ y. y) v

  answers : (c r i : ℕ) → (c ≤ i + r → i + r < x.size → x.letter i ≡ x.letter (i + r)) → AtIndex c r i
  answers c r i v =
      elim (dec_lt (i + r) c) [
        | yes y ↦ inl (inl y)
        | no y ↦ elim (dec_le x.size (i + r)) [ yes w ↦ inl (inr w) | no w ↦ inr (v (omega arith) (omega arith)) ]
      ]

  pub local_decided : (c r : ℕ) → Decides (LocalRepeat x c r) (local_repeatb x c r)
  unfolding local_repeatb
  local_decided c r =
      decides_iff
      (λ p. record {
        positive = p.0;
        repeats = λ i j hi hj e hs. asked c r i (p.1 i hi) (omega arith) (omega arith) ∙ ap x.letter (sym e);
      })
      (λ l. (l.positive, λ i hi. answers c r i (λ hc hr. l.repeats i (i + r) hi (omega arith) refl hr)))
      (decides_and (ltb 0 r) (every c (λ i. ltb (i + r) c || leb x.size (i + r) || eqb (x.letter i) (x.letter (i + r))))
      (decides_lt 0 r)
      (decides_every (AtIndex c r) (λ i. ltb (i + r) c || leb x.size (i + r) || eqb (x.letter i) (x.letter (i + r))) c (λ i hi. at_index c r i)))

  pub local_period_is : (c : ℕ) → LocalPeriod x c (local_period x c)
  unfolding local_period
  local_period_is c =
      elim (dec_lt (least (x.size + 2) (local_repeatb x c)) (x.size + 2)) [
        | yes y ↦ least_is (LocalRepeat x c) (local_repeatb x c) (x.size + 2) (λ i hi. local_decided c i) y
        | no y ↦ absurd (least_misses (LocalRepeat x c) (local_repeatb x c) (x.size + 2) (λ i hi. local_decided c i) (omega arith) (x.size + 1) (omega arith)
            (record { positive = omega arith; repeats = λ i j hi hj e hs. absurd (omega arith) }))
      ]

pub below_decided : (g : Bool) (a b : ℕ) → Decides (Below g a b) (below g a b)
below_decided false a b = decides_lt a b
below_decided true a b = decides_lt b a

module _ (g : Bool) (u v : Word) where
  differ : ℕ → Bool
  differ i = not (eqb (u.letter i) (v.letter i))

  agree : (i : ℕ) → differ i ≡ false → u.letter i ≡ v.letter i
  unfolding differ
  agree i e = eqb-true (u.letter i) (v.letter i) (not-false (eqb (u.letter i) (v.letter i)) e)

  same_letters : (k : ℕ) → ((i : ℕ) → i < k → u.letter i ≡ v.letter i) → (i : ℕ) → i < k → differ i ≡ false
  unfolding differ
  same_letters k same i hi = rw (eq-eqb _ _ (same i hi))

  apart : (i : ℕ) → (u.letter i ≡ v.letter i → ⊥) → differ i ≡ true
  unfolding differ
  apart i ne = rw (ne_eqb _ _ ne)

  -- the index at which the test parts the two words
  abbrev fork : ℕ
  fork = least (min u.size v.size) differ

  pub below_apart : (a b : ℕ) → Below g a b → a ≡ b → ⊥
  below_apart a b h e = go g h
    where
      go : (o : Bool) → Below o a b → ⊥
      go false y = omega arith
      go true y = omega arith

  less_sound : lessb g u v ≡ true → Less g u v
  unfolding lessb differ
  less_sound = go (ltb fork (min u.size v.size)) refl
    where
      parted : First differ (min u.size v.size) 0 fork
      parted = first_is differ (min u.size v.size) 0

      go : (b : Bool) → ltb fork (min u.size v.size) ≡ b → cond b (below g (u.letter fork) (v.letter fork)) (ltb u.size v.size) ≡ true → Less g u v
      go true e t =
          let inside = ltb-true fork (min u.size v.size) e in
          record {
            k = fork;
            same = λ i hi. agree i (parted.missed i (omega arith) hi);
            more = omega arith;
            parts = inl (omega arith, (below_decided g (u.letter fork) (v.letter fork)).sound t);
          }
      go false e t =
          let outside = ltb-false fork (min u.size v.size) e in
          let longer = ltb-true u.size v.size t in
          record {
            k = u.size;
            same = λ i hi. agree i (parted.missed i (omega arith) (omega arith));
            more = longer;
            parts = inr refl;
          }

  less_complete : Less g u v → lessb g u v ≡ true
  unfolding lessb differ
  less_complete l = ⊎_elim by_letter by_end l.parts
    where
      by_letter : (l.k < u.size) × Below g (u.letter l.k) (v.letter l.k) → lessb g u v ≡ true
      by_letter p =
          let m = l.more in
          let q = p.0 in
          let inside : l.k < min u.size v.size = omega arith in
          let e : fork ≡ l.k = least_at differ (min u.size v.size) l.k inside (apart l.k (below_apart _ _ p.1)) (same_letters l.k l.same) in
          rw (e, lt-ltb _ _ inside) ((below_decided g (u.letter l.k) (v.letter l.k)).complete p.1)

      by_end : l.k ≡ u.size → lessb g u v ≡ true
      by_end q =
          let m = l.more in
          let s : min u.size v.size ≡ l.k = omega arith in
          let e : fork ≡ min u.size v.size = least_none differ (min u.size v.size) (λ j hj. same_letters l.k l.same j (omega arith)) in
          rw (e, le-ltb (min u.size v.size) (min u.size v.size) (omega arith)) (lt-ltb u.size v.size (omega arith))

  pub less_decided : Decides (Less g u v) (lessb g u v)
  less_decided = record { sound = less_sound; complete = less_complete }

module _ (g : Bool) (x : Word) where
  abbrev AtStart : ℕ → ℕ → Type 0
  AtStart s t = (t ≡ s) ⊎ Less g (suffix x t) (suffix x s)

  pub maximal_decided : (s : ℕ) → s ≤ x.size → Decides (MaximalSuffix g x s) (maximalb g x s)
  unfolding maximalb
  maximal_decided s hs =
      decides_iff
      (λ p. record {
        within = hs;
        greatest = λ t ht ne. ⊎_elim (λ e. absurd (ne e)) (λ y. y) (p t (omega arith));
      })
      (λ m t ht. elim (ℕ_discrete t s) [ yes e ↦ inl e | no e ↦ inr (m.greatest t (omega arith) e) ])
      (decides_every (AtStart s) (λ t. eqb t s || lessb g (suffix x t) (suffix x s)) (x.size + 1)
      (λ t ht. decides_or (eqb t s) (lessb g (suffix x t) (suffix x s)) (decides_eq t s) (less_decided g (suffix x t) (suffix x s))))
