-- The later start of the two maximal suffixes is a critical split, and what a critical split tells of the word's periods.
-- Assumes nothing.
use Prim.Native.Nat.{ℕ, zero, suc, ◌+◌, ◌-◌, ◌<◌, ◌≤◌}
use mathlib.Core.Path.{◌≡◌, refl, sym, ◌∙◌, ap}
use mathlib.Core.Bool.{Bool, true, false, not}
use mathlib.Core.Logic.{◌⊎◌, inl, inr, ⊎_elim}
use native.Mathlib.Omega.{arith}
use native.Mathlib.Decide.{dec_lt, dec_le}
use Rattle.words.specs.Word.{Word, mirror, suffix}
use Rattle.words.specs.Choice.{Least}
use Rattle.words.specs.Period.{Period, SmallestPeriod, LocalRepeat, LocalPeriod}
use Rattle.words.specs.Order.{Below, Less, MaximalSuffix}
use Rattle.words.specs.Critical.{Critical, LaterStart, Again}
use Rattle.words.proofs.Mirror.{Same, mirror_mirror, period_mirror}
use Rattle.words.proofs.Order.{below_irrefl, below_eq, less_irrefl, less_trans}

-- a period repeats across every split
pub period_repeat : {x : Word} {c r : ℕ} → Period x r → LocalRepeat x c r
period_repeat p = record { positive = p.positive; repeats = λ i j hi hj e h. p.repeats i j e h }

-- nothing of which a property holds is below the smallest: no period, and nothing that repeats across a split below the local period
pub smallest_le : {P : ℕ → Type 0} {k j : ℕ} → Least P k → P j → k ≤ j
smallest_le {P} {k} {j} s q =
    elim (dec_le k j) [ yes h ↦ h | no h ↦ absurd (s.none_before j (omega arith) q) ]

-- so a local period is at most the smallest period
pub local_below : {x : Word} {c r p : ℕ} → LocalPeriod x c r → SmallestPeriod x p → r ≤ p
local_below l s = smallest_le l (period_repeat s.holds)

-- where the letters from c on repeat at q, what repeats across c does so at a distance that is less by q too
shorter : {x : Word} {c k q : ℕ} → LocalRepeat x c k → c + k ≤ x.size → q < k
    → ((i j : ℕ) → c ≤ i → j ≡ i + q → j < x.size → x.letter i ≡ x.letter j) → LocalRepeat x c (k - q)
shorter {x} {c} {k} {q} r fits h after =
    record {
      positive = omega arith;
      repeats = λ i j hi hj e hs. r.repeats i (j + q) hi (omega arith) (omega arith) (omega arith) ∙ sym (after j (j + q) hj refl (omega arith));
    }

-- What repeats across a critical split, and fits behind it, repeats in the whole word.
-- It is a multiple of the smallest period p, so p is taken off until it alone is left.
module _ {x : Word} {c p : ℕ} (v : Critical x c) (s : SmallestPeriod x p) where
  less_by_period : {k : ℕ} → LocalRepeat x c k → c + k ≤ x.size → p < k → LocalRepeat x c (k - p)
  less_by_period r fits h = shorter r fits h (λ i j hi. s.holds.repeats i j)

  shift : (f k : ℕ) → k ≤ f → LocalRepeat x c k → c + k ≤ x.size → (i j : ℕ) → j ≡ i + k → j < x.size → x.letter i ≡ x.letter j
  shift zero k hf r fits i j e h = absurd (omega arith)
  shift (suc f) k hf r fits i j e h =
      let rest : p < k → x.letter i ≡ x.letter (j - p) = λ y. shift f (k - p) (omega arith) (less_by_period r fits y) (omega arith) i (j - p) (omega arith) (omega arith) in
      elim (dec_lt p k) [
        | yes y ↦ rest y ∙ s.holds.repeats (j - p) j (omega arith) h
        | no y ↦ let le = smallest_le (v.local_is p s) r in s.holds.repeats i j (omega arith) h
      ]

  pub critical_shift : {k : ℕ} → LocalRepeat x c k → c + k ≤ x.size → (i j : ℕ) → j ≡ i + k → j < x.size → x.letter i ≡ x.letter j
  critical_shift {k} = shift k k (omega arith)

-- One suffix is less than another, and both begin with the same r letters: then what follows these in the one is less than what follows in the other.
-- The suffixes start at s and t, and what follows at a and b.
module _ (g : Bool) (x : Word) (s t r a b : ℕ) (ea : a ≡ s + r) (eb : b ≡ t + r) (fits : a ≤ x.size)
    (same : (i j : ℕ) → s ≤ i → i < a → j + s ≡ i + t → j < x.size → x.letter i ≡ x.letter j) (l : Less g (suffix x s) (suffix x t)) where
  -- no letter among those r can part them, nor can the first suffix end there
  parts_behind : r ≤ l.k
  parts_behind =
      elim (dec_le r l.k) [
        | yes h ↦ h
        | no h ↦
            let m = l.more in
            absurd (⊎_elim (λ p. below_irrefl g _ _ (same (s + l.k) (t + l.k) (omega arith) (omega arith) (omega arith) (omega arith)) p.1) (λ e. omega arith) l.parts)
      ]

  behind : Less g (suffix x a) (suffix x b)
  behind =
      let h = parts_behind in
      let m = l.more in
      record {
        k = l.k - r;
        same = λ i hi. ap x.letter (omega arith) ∙ l.same (r + i) (omega arith) ∙ ap x.letter (omega arith);
        more = omega arith;
        parts = ⊎_elim
            (λ p. inl (let f = p.0 in omega arith, below_eq g (ap x.letter (omega arith)) (ap x.letter (omega arith)) p.1))
            (λ e. inr (omega arith))
            l.parts;
      }

-- no letter is below another in both orders
below_both : (g : Bool) (a b : ℕ) → Below g a b → Below (not g) a b → ⊥
below_both false a b h k = omega arith
below_both true a b h k = omega arith

-- a word that is less than v in both orders is a prefix of v
module _ (g : Bool) (u v : Word) (a : Less g u v) (b : Less (not g) u v) where
  -- at the first letter at which they differed, it would be below v's in both orders
  no_letter : Below g (u.letter a.k) (v.letter a.k) → Below (not g) (u.letter b.k) (v.letter b.k) → ⊥
  no_letter p q =
      elim (dec_lt a.k b.k) [
        | yes h ↦ below_irrefl g _ _ (b.same a.k h) p
        | no h ↦ elim (dec_lt b.k a.k) [
          | yes y ↦ below_irrefl (not g) _ _ (a.same b.k y) q
          | no y ↦
              let e : a.k ≡ b.k = omega arith in
              below_both g _ _ (below_eq g (ap u.letter e) (ap v.letter e) p) q
        ]
      ]

  begins : (i : ℕ) → i < u.size → u.letter i ≡ v.letter i
  begins i h =
      ⊎_elim
      (λ p. ⊎_elim (λ q. absurd (no_letter p.1 q.1)) (λ e. b.same i (omega arith)) b.parts)
      (λ e. a.same i (omega arith))
      a.parts

-- What repeats across the later start of the two maximal suffixes, at a distance r.
module _ {x : Word} {c r : ℕ} (l : LaterStart x c) (rep : LocalRepeat x c r) where
  -- the suffix at c + r is less than the one at c, which is maximal
  down : c + r ≤ x.size → Less l.order (suffix x (c + r)) (suffix x c)
  down h = l.start.greatest (c + r) h (omega arith)

  -- The letters from c - r up to c stand again at c. The suffix at c - r is less than the one at c; without these letters, that one is less than the one at c + r.
  up : r ≤ c → Less l.order (suffix x c) (suffix x (c + r))
  up h =
      let w = l.start.within in
      behind l.order x (c - r) c r c (c + r) (omega arith) refl w
      (λ i j hi ha e hj. rep.repeats i j ha (omega arith) (omega arith) hj)
      (l.start.greatest (c - r) (omega arith) (omega arith))

  -- so r is above c: otherwise the suffix at c + r would be both above the one at c and below it
  pub repeat_above : c < r
  repeat_above =
      elim (dec_lt c r) [
        | yes h ↦ h
        | no h ↦
            let u = up (omega arith) in
            let m = u.more in
            absurd (less_irrefl l.order (suffix x c) (less_trans l.order (suffix x c) (suffix x (c + r)) (suffix x c) u (down (omega arith))))
      ]

  -- In the other order the suffix at c + r is less as well: the letters from the other start up to c stand again before c + r,
  -- and the suffix that begins with them there is less than the other maximal one.
  other_down : c + r ≤ x.size → Less (not l.order) (suffix x (c + r)) (suffix x c)
  other_down h =
      let a = repeat_above in
      let o = l.other in
      let n = l.not_after in
      behind (not l.order) x (o + r) o (c - o) (c + r) c (omega arith) (omega arith) h
      (λ i j hi ha e hj. sym (rep.repeats j i (omega arith) (omega arith) (omega arith) (omega arith)))
      (l.other_start.greatest (o + r) (omega arith) (omega arith))

  -- so it is a prefix of the suffix at c
  after : (i j : ℕ) → c ≤ i → j ≡ i + r → j < x.size → x.letter i ≡ x.letter j
  after i j hi e hj =
      let prefix = begins l.order (suffix x (c + r)) (suffix x c) (down (omega arith)) (other_down (omega arith)) in
      ap x.letter (omega arith) ∙ sym (prefix (i - c) (omega arith)) ∙ ap x.letter (omega arith)

  -- letters before c repeat across the split, as r is above c, and those from c on by that prefix
  pub repeat_period : r ≤ x.size → Period x r
  repeat_period w =
      let h = repeat_above in
      record {
        positive = rep.positive;
        within = w;
        repeats = λ i j e hj. elim (dec_lt i c) [ yes y ↦ rep.repeats i j y (omega arith) e hj | no y ↦ after i j (omega arith) e hj ];
      }

-- of the starts in the two orders, the one that is not before the other
pub later_start : {x : Word} {s t c : ℕ} → MaximalSuffix false x s → MaximalSuffix true x t → ((c ≡ s) × (t ≤ c)) ⊎ ((c ≡ t) × (s ≤ c)) → LaterStart x c
later_start {x} {s} {t} {c} a b which =
    ⊎_elim
    (λ e. record { order = false; start = rw e.0 a; other = t; other_start = b; not_after = e.1 })
    (λ e. record { order = true; start = rw e.0 b; other = s; other_start = a; not_after = e.1 })
    which

-- the critical factorisation theorem: what repeats across the later start is a period, or longer than the word, so the local period there is the smallest period
pub critical_split : {x : Word} {c : ℕ} → LaterStart x c → Critical x c
critical_split {x} {c} l =
    record {
      local_is = λ p s. record {
        holds = period_repeat s.holds;
        none_before = λ r h rep. let w = s.holds.within in s.none_before r h (repeat_period l rep (omega arith));
      };
    }

-- the smallest period repeats across the later start too, so it is above it
pub split_below : {x : Word} {c p : ℕ} → LaterStart x c → SmallestPeriod x p → c < p
split_below l s = repeat_above l (period_repeat s.holds)

-- a period of the word that fits behind c is one of the suffix there
suffix_period : (x : Word) (c r : ℕ) → Period x r → r + c ≤ x.size → Period (suffix x c) r
suffix_period x c r p h =
    record {
      positive = p.positive;
      within = omega arith;
      repeats = λ i j e hj. p.repeats (c + i) (c + j) (omega arith) (omega arith);
    }

-- q is the smallest period of the suffix at c
module _ (x : Word) (c q : ℕ) (s : SmallestPeriod (suffix x c) q) where
  pub part_fits : q + c ≤ x.size
  part_fits = let p = s.holds.positive in let w = s.holds.within in omega arith

  -- the suffix's period, said of the word's letters
  from_split : (i j : ℕ) → c ≤ i → j ≡ i + q → j < x.size → x.letter i ≡ x.letter j
  from_split i j hi e hj =
      ap x.letter (omega arith) ∙ s.holds.repeats (i - c) (j - c) (omega arith) (omega arith) ∙ ap x.letter (omega arith)

  -- it is the word's too, if the letters before c repeat at it
  pub short_period : Again x c q → SmallestPeriod x q
  short_period again =
      let f = part_fits in
      record {
        holds = record {
          positive = s.holds.positive;
          within = omega arith;
          repeats = λ i j e hj. elim (dec_lt i c) [ yes y ↦ again i y ∙ ap x.letter (omega arith) | no y ↦ from_split i j (omega arith) e hj ];
        };
        none_before = λ j hj p. s.none_before j hj (suffix_period x c j p (omega arith));
      }

  -- Otherwise the word's smallest period p is longer than both parts. If it fitted behind c, it would be a period of the suffix, and so at least q.
  -- It is not q, at which the letters before c do not repeat; and if it were above q, then p - q would repeat across c, which is critical.
  pub long_period : {p : ℕ} → LaterStart x c → SmallestPeriod x p → (Again x c q → ⊥) → (0 < c) × (c < p) × (x.size - c < p)
  long_period {p} l w differ = (inner, split_below l w, outer)
    where
      inner : 0 < c
      inner = elim (dec_lt 0 c) [ yes h ↦ h | no h ↦ absurd (differ (λ i hi. absurd (omega arith))) ]

      above : p + c ≤ x.size → q < p
      above h =
          let le = smallest_le s (suffix_period x c p w.holds h) in
          elim (dec_lt q p) [
            | yes y ↦ y
            | no y ↦ absurd (differ (λ i hi. w.holds.repeats i (q + i) (omega arith) (omega arith)))
          ]

      outer : x.size - c < p
      outer =
          elim (dec_lt (x.size - c) p) [
            | yes h ↦ h
            | no h ↦
                let f = part_fits in
                let y = above (omega arith) in
                let le = smallest_le ((critical_split l).local_is p w) (shorter (period_repeat w.holds) (omega arith) y from_split) in
                let pos = s.holds.positive in
                absurd (omega arith)
          ]

-- repetitions and periods are those of the letters
repeat_same : {x y : Word} {c r : ℕ} → Same x y → LocalRepeat x c r → LocalRepeat y c r
repeat_same a p =
    let n = a.size in
    record {
      positive = p.positive;
      repeats = λ i j hi hj e h. sym (a.letters i (omega arith)) ∙ p.repeats i j hi hj e (omega arith) ∙ a.letters j (omega arith);
    }

period_same : {x y : Word} {r : ℕ} → Same x y → Period x r → Period y r
period_same a p =
    let n = a.size in
    record {
      positive = p.positive;
      within = omega arith;
      repeats = λ i j e h. sym (a.letters i (omega arith)) ∙ p.repeats i j e (omega arith) ∙ a.letters j (omega arith);
    }

-- The word read from the back. A split with c letters before it and d behind it has d before it there.
module _ (x : Word) where
  pub mirror_period : {r : ℕ} → Period (mirror x) r → Period x r
  mirror_period {r} p = period_same (mirror_mirror x) (period_mirror (mirror x) r p)

  pub smallest_mirror : {p : ℕ} → SmallestPeriod x p → SmallestPeriod (mirror x) p
  smallest_mirror {p} s =
      record { holds = period_mirror x p s.holds; none_before = λ j hj q. s.none_before j hj (mirror_period q) }

  pub mirror_smallest : {p : ℕ} → SmallestPeriod (mirror x) p → SmallestPeriod x p
  mirror_smallest {p} s =
      record { holds = mirror_period s.holds; none_before = λ j hj q. s.none_before j hj (period_mirror x j q) }

  pub repeat_mirror : {c d r : ℕ} → c + d ≡ x.size → LocalRepeat x c r → LocalRepeat (mirror x) d r
  repeat_mirror e p =
      record {
        positive = p.positive;
        repeats = λ i j hi hj f h. sym (p.repeats (x.size - (1 + j)) (x.size - (1 + i)) (omega arith) (omega arith) (omega arith) (omega arith));
      }

module _ (x : Word) where
  pub mirror_repeat : {c d r : ℕ} → c + d ≡ x.size → LocalRepeat (mirror x) c r → LocalRepeat x d r
  mirror_repeat e p = repeat_same (mirror_mirror x) (repeat_mirror (mirror x) e p)

  -- "local_period(u, v) = local_period(reverse(v), reverse(u))"
  pub local_mirror : {c d r : ℕ} → c + d ≡ x.size → LocalPeriod x c r → LocalPeriod (mirror x) d r
  local_mirror e l =
      record { holds = repeat_mirror x e l.holds; none_before = λ j hj q. l.none_before j hj (mirror_repeat (omega arith) q) }

  pub critical_mirror : {c d : ℕ} → c + d ≡ x.size → Critical x c → Critical (mirror x) d
  critical_mirror e v =
      record { local_is = λ p s. local_mirror e (v.local_is p (mirror_smallest x s)) }
