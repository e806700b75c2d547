-- The order on words is transitive and irreflexive, so only one suffix is maximal.
-- Assumes nothing.
use Prim.Native.Nat.{ℕ, ◌+◌, ◌<◌, ◌≤◌}
use mathlib.Core.Path.{◌≡◌, refl, sym, ◌∙◌, subst, subst₂}
use mathlib.Core.Bool.{Bool, true, false}
use mathlib.Core.Logic.{inl, inr, ⊎_elim}
use native.Mathlib.Omega.{arith}
use native.Mathlib.Decide.{dec_lt, ℕ_discrete}
use Rattle.words.specs.Word.{Word, suffix}
use Rattle.words.specs.Order.{Below, Less, MaximalSuffix, maximalb, maximal_suffix}
use Rattle.words.proofs.Tests.{refuted, least_at}
use Rattle.words.proofs.Decided.{maximal_decided}

pub below_trans : (g : Bool) (a b c : ℕ) → Below g a b → Below g b c → Below g a c
below_trans false a b c h k = omega arith
below_trans true a b c h k = omega arith

pub below_irrefl : (g : Bool) (a b : ℕ) → a ≡ b → Below g a b → ⊥
below_irrefl false a b e h = omega arith
below_irrefl true a b e h = omega arith

pub below_eq : (g : Bool) {a b a' b' : ℕ} → a ≡ a' → b ≡ b' → Below g a b → Below g a' b'
below_eq g e f h = subst₂ (Below g) e f h

-- where u is less than v, it parts from v at its own end at the latest
pub less_within : (g : Bool) (u v : Word) (l : Less g u v) → l.k ≤ u.size
less_within g u v l = ⊎_elim (λ p. let h = p.0 in omega arith) (λ e. omega arith) l.parts

pub less_irrefl : (g : Bool) (u : Word) → Less g u u → ⊥
less_irrefl g u l = let m = l.more in ⊎_elim (λ p. below_irrefl g _ _ refl p.1) (λ e. omega arith) l.parts

module _ (g : Bool) (u v w : Word) (a : Less g u v) (b : Less g v w) where
  both : (i : ℕ) → i < a.k → i < b.k → u.letter i ≡ w.letter i
  both i p q = a.same i p ∙ b.same i q

  -- the first difference of u and v comes first
  first_early : a.k < b.k → Less g u w
  first_early h =
      let mb = b.more in
      record {
        k = a.k;
        same = λ i hi. both i hi (omega arith);
        more = omega arith;
        parts = ⊎_elim (λ p. inl (p.0, below_eq g refl (b.same a.k h) p.1)) (λ e. inr e) a.parts;
      }

  -- that of v and w comes first
  first_late : b.k < a.k → Less g u w
  first_late h =
      let within = less_within g u v a in
      let ma = a.more in
      record {
        k = b.k;
        same = λ i hi. both i (omega arith) hi;
        more = b.more;
        parts = ⊎_elim (λ p. inl (omega arith, below_eq g (sym (a.same b.k h)) refl p.1)) (λ e. absurd (omega arith)) b.parts;
      }

  first_same : a.k ≡ b.k → Less g u w
  first_same e =
      let ma = a.more in
      record {
        k = b.k;
        same = λ i hi. both i (omega arith) hi;
        more = b.more;
        parts = ⊎_elim
            (λ p. ⊎_elim
            (λ q. inl (let h = p.0 in omega arith, below_trans g _ _ _ (subst (λ (i : ℕ). Below g (u.letter i) (v.letter i)) e p.1) q.1))
            (λ q. absurd (omega arith))
            b.parts)
            (λ p. inr (omega arith))
            a.parts;
      }

  pub less_trans : Less g u w
  less_trans =
      elim (dec_lt a.k b.k) [
        | yes h ↦ first_early h
        | no h ↦ elim (dec_lt b.k a.k) [ yes y ↦ first_late y | no y ↦ first_same (omega arith) ]
      ]

module _ (g : Bool) (x : Word) where
  -- no second suffix is maximal
  pub maximal_alone : (s t : ℕ) → MaximalSuffix g x s → MaximalSuffix g x t → s ≡ t
  maximal_alone s t a b =
      elim (ℕ_discrete s t) [
        | yes e ↦ e
        | no e ↦ absurd (less_irrefl g (suffix x s) (less_trans g (suffix x s) (suffix x t) (suffix x s) (b.greatest s a.within e) (a.greatest t b.within (λ y. e (sym y)))))
      ]

  -- the computed start is the maximal suffix's
  pub maximal_suffix_is : (s : ℕ) → MaximalSuffix g x s → maximal_suffix g x ≡ s
  unfolding maximal_suffix
  maximal_suffix_is s m =
      let w = m.within in
      least_at (maximalb g x) (x.size + 1) s (omega arith) ((maximal_decided g x s w).complete m)
      (λ j hj. refuted (maximalb g x j) (maximal_decided g x j (omega arith)) (λ other. let e = maximal_alone j s other m in absurd (omega arith)))
