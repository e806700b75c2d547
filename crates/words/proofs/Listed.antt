-- Lists that leave nothing out: the computed list is one and there is no second one, the greedy lists at a gap of 1 are such lists,
-- and so is the front of one whose rest is known.
-- Assumes nothing.
use Prim.Native.Nat.{ℕ, zero, suc, ◌+◌, ◌-◌, ◌<◌, ◌≤◌}
use mathlib.Core.Path.{◌≡◌, refl, sym, subst}
use mathlib.Core.Bool.{Bool, true, false, cond}
use mathlib.Core.Logic.{◌⊎◌, inl, inr, ⊎_elim}
use mathlib.Core.List.{List, [], ◌∷◌, ◌++◌}
use native.Mathlib.Omega.{arith}
use native.Mathlib.Decide.{ℕ_discrete, dec_lt}
use Rattle.words.specs.Word.{Word}
use Rattle.words.specs.Choice.{Nowhere}
use Rattle.words.specs.Occurs.{Occurs, occursb, OccursFrom, OccursBelow, Leftmost, Rightmost}
use Rattle.words.specs.Listed.{In, Ordered, Lists, Rising, Falling, passing, occurrences}
use Rattle.words.proofs.Tests.{Decides, refutes}
use Rattle.words.proofs.Decided.{occurs_decided}

nowhere : {k : ℕ} → In k [] → ⊥
nowhere = elim [ ]

-- ---- a list, made from its end

module _ {before : ℕ → ℕ → Type 0} {P : ℕ → Type 0} where
  lists_none : Nowhere P → Lists before P []
  lists_none none = record { every = λ k p. absurd (none k p); only = λ k i. absurd (nowhere i); ordered = Ordered.over }

  -- k, and behind it those that have Q: all others that have P, and k comes before them
  lists_first : {Q : ℕ → Type 0} {k : ℕ} {ks : List ℕ} → P k → ((j : ℕ) → P j → (j ≡ k) ⊎ Q j) → ((j : ℕ) → Q j → P j × before k j) → Lists before Q ks
      → Lists before P (k ∷ ks)
  lists_first {Q} {k} {ks} here rest back l =
      record {
        every = λ j p. ⊎_elim (λ e. subst (λ i. In i (k ∷ ks)) (sym e) In.here) (λ q. In.later (l.every j q)) (rest j p);
        only = only;
        ordered = Ordered.first (λ j i. (back j (l.only j i)).1) l.ordered;
      }
    where
      only : (j : ℕ) → In j (k ∷ ks) → P j
      only j In.here = here
      only j (In.later i) = (back j (l.only j i)).0

-- ---- a list in two parts

module _ (ks : List ℕ) where
  in_front : {k : ℕ} {ms : List ℕ} → In k ms → In k (ms ++ ks)
  in_front In.here = In.here
  in_front (In.later i) = In.later (in_front i)

  in_back : {k : ℕ} (ms : List ℕ) → In k ks → In k (ms ++ ks)
  in_back [] i = i
  in_back (m ∷ ms) i = In.later (in_back ms i)

  in_either : {k : ℕ} (ms : List ℕ) → In k (ms ++ ks) → In k ms ⊎ In k ks
  in_either [] i = inr i
  in_either (m ∷ ms) In.here = inl In.here
  in_either (m ∷ ms) (In.later i) = ⊎_elim (λ f. inl (In.later f)) inr (in_either ms i)

  module _ {before : ℕ → ℕ → Type 0} where
    ordered_front : (ms : List ℕ) → Ordered before (ms ++ ks) → Ordered before ms
    ordered_front [] o = Ordered.over
    ordered_front (m ∷ ms) (Ordered.first f o) = Ordered.first (λ j i. f j (in_front i)) (ordered_front ms o)

    across : {a b : ℕ} (ms : List ℕ) → Ordered before (ms ++ ks) → In a ms → In b ks → before a b
    across [] o i j = elim i [ ]
    across (m ∷ ms) (Ordered.first f o) In.here j = f _ (in_back ms j)
    across (m ∷ ms) (Ordered.first f o) (In.later i) j = across ms o i j

    -- What the rest does not have, the front has: nothing stands in both, since nothing comes before itself.
    pub lists_front : {P Q : ℕ → Type 0} (ms : List ℕ) → ((k : ℕ) → before k k → ⊥) → Lists before P (ms ++ ks) → Lists before Q ks
        → Lists before (λ k. P k × (Q k → ⊥)) ms
    lists_front ms apart all rest =
        record {
          every = λ k p. ⊎_elim (λ i. i) (λ i. absurd (p.1 (rest.only k i))) (in_either ms (all.every k p.0));
          only = λ k i. (all.only k (in_front i), λ q. apart k (across ms all.ordered i (rest.every k q)));
          ordered = ordered_front ms all.ordered;
        }

-- where P and Q hold of the same numbers
pub lists_same : {before : ℕ → ℕ → Type 0} {P Q : ℕ → Type 0} {ks : List ℕ} → ((k : ℕ) → P k → Q k) → ((k : ℕ) → Q k → P k) → Lists before P ks → Lists before Q ks
lists_same to from l = record { every = λ k q. l.every k (from k q); only = λ k i. to k (l.only k i); ordered = l.ordered }

-- ---- no second list has the same numbers in the same order

in_first : {k l : ℕ} {ls : List ℕ} → In k (l ∷ ls) → (k ≡ l) ⊎ In k ls
in_first In.here = inl refl
in_first (In.later i) = inr i

comes_first : {before : ℕ → ℕ → Type 0} {k : ℕ} {ks : List ℕ} → Ordered before (k ∷ ks) → ((j : ℕ) → In j ks → before k j) × Ordered before ks
comes_first (Ordered.first f o) = (f, o)

module _ {before : ℕ → ℕ → Type 0} (apart : (j k : ℕ) → before j k → before k j → ⊥) where
  -- behind the first number stand those that it comes before
  lists_rest : {P : ℕ → Type 0} {k : ℕ} {ks : List ℕ} → Lists before P (k ∷ ks) → Lists before (λ j. P j × before k j) ks
  lists_rest {k = k} l =
      let o = comes_first l.ordered in
      record {
        every = λ j p. ⊎_elim (λ e. let b = subst (before k) e p.1 in absurd (apart k k b b)) (λ i. i) (in_first (l.every j p.0));
        only = λ j i. (l.only j (In.later i), o.0 j i);
        ordered = o.1;
      }

  -- the first number is the same, since else each of the two would come before the other
  same_first : {P : ℕ → Type 0} {k l : ℕ} {ks ls : List ℕ} → Lists before P (k ∷ ks) → Lists before P (l ∷ ls) → k ≡ l
  same_first {k = k} {l} a b =
      ⊎_elim (λ e. e)
      (λ i. ⊎_elim sym (λ j. absurd (apart k l ((comes_first a.ordered).0 l j) ((comes_first b.ordered).0 k i))) (in_first (a.every l (b.only l In.here))))
      (in_first (b.every k (a.only k In.here)))

  pub lists_alone : {P : ℕ → Type 0} (ks ls : List ℕ) → Lists before P ks → Lists before P ls → ks ≡ ls
  lists_alone {P = P} [] [] a b = refl
  lists_alone {P = P} [] (l ∷ ls) a b = absurd (nowhere (a.every l (b.only l In.here)))
  lists_alone {P = P} (k ∷ ks) [] a b = absurd (nowhere (b.every k (a.only k In.here)))
  lists_alone {P = P} (k ∷ ks) (l ∷ ls) a b =
      let e = same_first a b in
      let rest = lists_alone {P = λ j. P j × before k j} ks ls (lists_rest a) (subst (λ j. Lists before (λ i. P i × before j i) ls) (sym e) (lists_rest b)) in
      rw (e, rest)

-- ---- the computed list

module _ (P : ℕ → Type 0) (f : ℕ → Bool) (decides : (k : ℕ) → Decides (P k) (f k)) where
  pub passing_lists : (n i : ℕ) → Rising (λ k. (i ≤ k) × (k < i + n) × P k) (passing n i f)
  unfolding passing
  passing_lists zero i = lists_none (λ k p. let lo = p.0 in let hi = p.1 in omega arith)
  passing_lists (suc n) i = go (f i) refl (passing_lists n (i + 1))
    where
      go : (b : Bool) → f i ≡ b → Rising (λ k. (i + 1 ≤ k) × (k < i + 1 + n) × P k) (passing n (i + 1) f)
          → Rising (λ k. (i ≤ k) × (k < i + suc n) × P k) (cond b (i ∷ passing n (i + 1) f) (passing n (i + 1) f))
      go true e rest =
          lists_first (omega arith, omega arith, (decides i).sound e)
          (λ j p. let lo = p.0 in let hi = p.1 in elim (ℕ_discrete j i) [ yes q ↦ inl q | no q ↦ inr (omega arith, omega arith, p.2) ])
          (λ j p. let lo = p.0 in let hi = p.1 in ((omega arith, omega arith, p.2), omega arith))
          rest
      go false e rest =
          lists_same
          (λ k p. let lo = p.0 in let hi = p.1 in (omega arith, omega arith, p.2))
          (λ k p. let lo = p.0 in let hi = p.1 in elim (ℕ_discrete k i) [ yes q ↦ absurd (refutes (decides i) e (subst P q p.2)) | no q ↦ (omega arith, omega arith, p.2) ])
          rest

pub occurrences_are : (x h : Word) → Rising (Occurs x h) (occurrences x h)
occurrences_are x h =
    lists_same (λ k p. p.2) (λ k o. let inside = o.fits in (omega arith, omega arith, o))
    (passing_lists (Occurs x h) (occursb x h) (occurs_decided x h) (h.size + 1) 0)

-- ---- the greedy lists at a gap of 1

module _ (x h : Word) where
  pub leftmost_every : {a : ℕ} {ks : List ℕ} → Leftmost x h 1 a ks → Rising (OccursFrom x h a) ks
  leftmost_every (Leftmost.over none) = lists_none none
  leftmost_every {a} (Leftmost.hit {k = k} l rest) =
      let from = l.holds.0 in
      lists_first l.holds
      (λ j o. elim (ℕ_discrete j k) [ yes e ↦ inl e | no e ↦ inr (later j o e, o.1) ])
      (λ j o. let lo = o.0 in ((omega arith, o.1), omega arith))
      (leftmost_every rest)
    where
      later : (j : ℕ) → OccursFrom x h a j → (j ≡ k → ⊥) → k + 1 ≤ j
      later j o e = elim (dec_lt j k) [ yes y ↦ absurd (l.none_before j y o) | no y ↦ omega arith ]

  pub rightmost_every : {b : ℕ} {ks : List ℕ} → Rightmost x h 1 b ks → Falling (OccursBelow x h b) ks
  rightmost_every (Rightmost.over none) = lists_none none
  rightmost_every {b} (Rightmost.hit {k = k} g rest) =
      let from = g.holds.0 in
      lists_first g.holds
      (λ j o. elim (ℕ_discrete j k) [ yes e ↦ inl e | no e ↦ inr (sooner j o e, o.1) ])
      (λ j o. let hi = o.0 in ((omega arith, o.1), omega arith))
      (rightmost_every rest)
    where
      sooner : (j : ℕ) → OccursBelow x h b j → (j ≡ k → ⊥) → j < k + 1 - 1
      sooner j o e = elim (dec_lt k j) [ yes y ↦ absurd (g.none_after j y o) | no y ↦ omega arith ]
