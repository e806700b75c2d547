-- What the executable tests say: `every` and `first_from` of specs/Choice, over any property that a test decides.
-- Assumes nothing.
use Prim.Native.Nat.{ℕ, zero, suc, ◌+◌, ◌-◌, ◌<◌, ◌≤◌}
use mathlib.Core.Path.{◌≡◌, refl, sym, ◌∙◌, ap, subst}
use mathlib.Core.Bool.{Bool, true, false, cond, ◌&&◌, ◌||◌, true≢false, false≢true}
use mathlib.Core.Logic.{◌⊎◌, inl, inr, ⊎_elim}
use native.Mathlib.Omega.{arith}
use native.Mathlib.Decide.{dec_lt}
use lib.Dec.{ltb, leb, eqb}
use borrow.Author.Tests.{ltb-true, leb-true, eqb-true, lt-ltb, le-leb, eq-eqb}
use Rattle.words.specs.Choice.{Least, Greatest, every, first_from, least}

-- the test b is true exactly if P holds
pub record Decides (P : Type 0) (b : Bool) : Type 0 where
  pub sound : b ≡ true → P
  pub complete : P → b ≡ true

pub decides_eq : (a b : ℕ) → Decides (a ≡ b) (eqb a b)
decides_eq a b = record { sound = eqb-true a b; complete = eq-eqb a b }

pub decides_lt : (a b : ℕ) → Decides (a < b) (ltb a b)
decides_lt a b = record { sound = ltb-true a b; complete = lt-ltb a b }

pub decides_le : (a b : ℕ) → Decides (a ≤ b) (leb a b)
decides_le a b = record { sound = leb-true a b; complete = le-leb a b }

-- a test that is not true refutes what it decides
pub refutes : {P : Type 0} {b : Bool} → Decides P b → b ≡ false → P → ⊥
refutes d e p = true≢false (sym (d.complete p) ∙ e)

-- what is refuted has a test that is false
pub refuted : {P : Type 0} (b : Bool) → Decides P b → (P → ⊥) → b ≡ false
refuted true d no_p = absurd (no_p (d.sound refl))
refuted false d no_p = refl

pub decides_and : {P Q : Type 0} (a b : Bool) → Decides P a → Decides Q b → Decides (P × Q) (a && b)
decides_and true b p q = record { sound = λ e. (p.sound refl, q.sound e); complete = λ h. q.complete h.1 }
decides_and false b p q =
    record { sound = λ e. absurd (false≢true e); complete = λ h. absurd (false≢true (p.complete h.0)) }

pub decides_or : {P Q : Type 0} (a b : Bool) → Decides P a → Decides Q b → Decides (P ⊎ Q) (a || b)
decides_or true b p q = record { sound = λ e. inl (p.sound refl); complete = λ h. refl }
decides_or false b p q =
    record {
      sound = λ e. inr (q.sound e);
      complete = λ h. ⊎_elim (λ y. absurd (false≢true (p.complete y))) q.complete h;
    }

-- the same test decides what is equivalent
pub decides_iff : {P Q : Type 0} {b : Bool} → (P → Q) → (Q → P) → Decides P b → Decides Q b
decides_iff to from d = record { sound = λ e. to (d.sound e); complete = λ q. d.complete (from q) }

-- P holds of every number below n
abbrev pub Below-all : (ℕ → Type 0) → ℕ → Type 0
Below-all P n = (i : ℕ) → i < n → P i

module _ (P : ℕ → Type 0) (f : ℕ → Bool) where
  pub decides_every : (n : ℕ) → ((i : ℕ) → i < n → Decides (P i) (f i)) → Decides (Below-all P n) (every n f)
  unfolding every
  decides_every zero d = record { sound = λ e i h. absurd (omega arith); complete = λ h. refl }
  decides_every (suc n) d =
      decides_iff
      (λ h i hi. elim (dec_lt i n) [ yes y ↦ h.0 i y | no y ↦ subst P (omega arith) h.1 ])
      (λ h. (λ i hi. h i (omega arith), h n (omega arith)))
      (decides_and (every n f) (f n) (decides_every n (λ i hi. d i (omega arith))) (d n (omega arith)))

-- where the first number from i on stands, of n, at which f holds
pub record First (f : ℕ → Bool) (n i k : ℕ) : Type 0 where
  pub low : i ≤ k
  pub high : k ≤ i + n
  pub found : k < i + n → f k ≡ true
  pub missed : (j : ℕ) → i ≤ j → j < k → f j ≡ false

module _ (f : ℕ → Bool) where
  pub first_is : (n i : ℕ) → First f n i (first_from n i f)
  unfolding first_from
  first_is zero i =
      record {
        low = omega arith;
        high = omega arith;
        found = λ h. absurd (omega arith);
        missed = λ j a b. absurd (omega arith);
      }
  first_is (suc n) i = go (f i) refl (first_is n (i + 1))
    where
      go : (b : Bool) → f i ≡ b → First f n (i + 1) (first_from n (i + 1) f) → First f (suc n) i (cond b i (first_from n (i + 1) f))
      go true e r =
          record {
            low = omega arith;
            high = omega arith;
            found = λ h. e;
            missed = λ j a b. absurd (omega arith);
          }
      go false e r =
          record {
            low = omega arith;
            high = omega arith;
            found = λ h. r.found (omega arith);
            missed = λ j a b. elim (dec_lt i j) [ yes y ↦ r.missed j (omega arith) b | no y ↦ ap f (omega arith) ∙ e ];
          }

  -- no second number is the first
  pub first_alone : (n i k l : ℕ) → First f n i k → First f n i l → k ≡ l
  first_alone n i k l a b =
      elim (dec_lt k l) [
        | yes y ↦ absurd (true≢false (sym (a.found (let h = b.high in omega arith)) ∙ b.missed k a.low y))
        | no y ↦ elim (dec_lt l k) [
          | yes z ↦ absurd (true≢false (sym (b.found (let h = a.high in omega arith)) ∙ a.missed l b.low z))
          | no z ↦ omega arith
        ]
      ]

  -- what a search that passed every number from i up to k shows of k
  pub first_at : (n i k : ℕ) → i ≤ k → k < i + n → f k ≡ true → ((j : ℕ) → i ≤ j → j < k → f j ≡ false) → first_from n i f ≡ k
  first_at n i k l h e m =
      first_alone n i (first_from n i f) k (first_is n i) (record { low = l; high = omega arith; found = λ y. e; missed = m })

  pub first_none : (n i : ℕ) → ((j : ℕ) → i ≤ j → j < i + n → f j ≡ false) → first_from n i f ≡ i + n
  first_none n i m =
      first_alone n i (first_from n i f) (i + n) (first_is n i)
      (record { low = omega arith; high = omega arith; found = λ y. absurd (omega arith); missed = m })

  pub least_at : (n k : ℕ) → k < n → f k ≡ true → ((j : ℕ) → j < k → f j ≡ false) → least n f ≡ k
  least_at n k h e m = first_at n 0 k (omega arith) (omega arith) e (λ j l. m j)

  pub least_none : (n : ℕ) → ((j : ℕ) → j < n → f j ≡ false) → least n f ≡ n
  least_none n m = first_none n 0 (λ j l h. m j (omega arith)) ∙ omega arith

-- a search from i on and one from i' on that meet the same answers end equally far on
pub first_moved : (f f' : ℕ → Bool) (n n' i i' : ℕ) → n ≡ n' → ((j j' : ℕ) → i ≤ j → j < i + n → j + i' ≡ j' + i → f j ≡ f' j')
    → first_from n i f + i' ≡ first_from n' i' f' + i
first_moved f f' n n' i i' e same =
    let k = first_from n i f in
    let k' = k - i + i' in
    let r = first_is f n i in
    let moved : First f' n' i' k' =
    record {
      low = omega arith;
      high = omega arith;
      found = λ h. sym (same k k' r.low (omega arith) (omega arith)) ∙ r.found (omega arith);
      missed = λ j a b. sym (same (j - i' + i) j (omega arith) (omega arith) (omega arith)) ∙ r.missed (j - i' + i) (omega arith) (omega arith);
    } in
    let alone = first_alone f' n' i' k' (first_from n' i' f') moved (first_is f' n' i') in
    omega arith

-- of two least numbers, or two greatest, there is only one
pub least_alone : (P : ℕ → Type 0) (a b : ℕ) → Least P a → Least P b → a ≡ b
least_alone P a b x y =
    elim (dec_lt a b) [
      | yes h ↦ absurd (y.none_before a h x.holds)
      | no h ↦ elim (dec_lt b a) [ yes z ↦ absurd (x.none_before b z y.holds) | no z ↦ omega arith ]
    ]

pub greatest_alone : (P : ℕ → Type 0) (a b : ℕ) → Greatest P a → Greatest P b → a ≡ b
greatest_alone P a b x y =
    elim (dec_lt a b) [
      | yes h ↦ absurd (x.none_after b h y.holds)
      | no h ↦ elim (dec_lt b a) [ yes z ↦ absurd (y.none_after a z x.holds) | no z ↦ omega arith ]
    ]

-- two properties that hold of the same numbers have the same least one, and the same greatest
pub least_same : {P Q : ℕ → Type 0} {k : ℕ} → ((j : ℕ) → P j → Q j) → ((j : ℕ) → Q j → P j) → Least P k → Least Q k
least_same {k = k} to from l = record { holds = to k l.holds; none_before = λ j hj q. l.none_before j hj (from j q) }

pub greatest_same : {P Q : ℕ → Type 0} {k : ℕ} → ((j : ℕ) → P j → Q j) → ((j : ℕ) → Q j → P j) → Greatest P k → Greatest Q k
greatest_same {k = k} to from g = record { holds = to k g.holds; none_after = λ j hj q. g.none_after j hj (from j q) }

-- the computed least number is the least at which P holds, where the test decides P below n and P holds of no other number
module _ (P : ℕ → Type 0) (f : ℕ → Bool) (n : ℕ) (d : (i : ℕ) → i < n → Decides (P i) (f i)) where
  pub least_is : least n f < n → Least P (least n f)
  least_is h =
      let r = first_is f n 0 in
      record {
        holds = (d (least n f) h).sound (r.found (omega arith));
        none_before = λ j hj. refutes (d j (omega arith)) (r.missed j (omega arith) hj);
      }

  pub least_misses : n ≤ least n f → (j : ℕ) → j < n → P j → ⊥
  least_misses h j hj = refutes (d j hj) ((first_is f n 0).missed j (omega arith) (omega arith))
