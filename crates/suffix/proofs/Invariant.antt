-- What the loop keeps: the suffix at `left` is above every earlier one; the word from `left` on repeats with the period so far;
-- and the first period's letters, the root, are above each of their own proper suffixes inside themselves.
-- (That `left` starts the maximal suffix of what was read is not so right after a restart; this speaks of the whole word.)
-- Facts on letters are stated over any two places i and j that are related by an equation, so that a use needs no rewriting.
-- Assumes nothing.
use Prim.Native.Nat.{ℕ, zero, suc, ◌+◌, ◌-◌, ◌<◌, ◌≤◌}
use mathlib.Core.Path.{◌≡◌, refl, sym, ◌∙◌, ap}
use mathlib.Core.Bool.{Bool}
use mathlib.Core.Logic.{inl, inr, ⊎_elim}
use native.Mathlib.Omega.{arith}
use native.Mathlib.Decide.{dec_lt}
use Rattle.words.specs.Word.{Word, suffix}
use Rattle.words.specs.Period.{Period}
use Rattle.words.specs.Order.{Below, Less}
use Rattle.words.proofs.Order.{below_trans, below_irrefl, below_eq, less_trans}

-- the suffix at l + j of the root at l, of length p, is below the root: they part after t letters
pub record Above (g : Bool) (x : Word) (l p j : ℕ) : Type 0 where
  pub t : ℕ
  pub fits : j + t < p
  pub same : (a b : ℕ) → l ≤ a → a < l + t → b ≡ a + j → x.letter a ≡ x.letter b
  pub low : (a b : ℕ) → a ≡ l + t → b ≡ a + j → Below g (x.letter b) (x.letter a)

pub record Inv (g : Bool) (x : Word) (l r o p : ℕ) : Type 0 where
  pub before : (s : ℕ) → s < l → Less g (suffix x s) (suffix x l)
  pub fits : l + p ≤ r
  pub short : o < p
  pub inside : r + o ≤ x.size
  pub copy : (i j : ℕ) → l ≤ i → i < l + p → j + (l + p) ≡ i + r → x.letter i ≡ x.letter j
  pub period : (i j : ℕ) → l ≤ i → j ≡ i + p → j < r + o → x.letter i ≡ x.letter j
  pub root : (j : ℕ) → 0 < j → j < p → Above g x l p j

-- the first state, of a word that is not empty
pub first : (g : Bool) (x : Word) → 0 < x.size → Inv g x 0 1 0 1
first g x h =
    record {
      before = λ s l. absurd (omega arith);
      fits = omega arith;
      short = omega arith;
      inside = omega arith;
      copy = λ i j a b e. ap x.letter (omega arith);
      period = λ i j a b e. absurd (omega arith);
      root = λ j a b. absurd (omega arith);
    }

-- the suffix at s is below the suffix at r, by a letter among the first o + 1
pub record Beats (g : Bool) (x : Word) (r o s : ℕ) : Type 0 where
  pub k : ℕ
  pub early : k ≤ o
  pub same : (i a b : ℕ) → i < k → a ≡ s + i → b ≡ r + i → x.letter a ≡ x.letter b
  pub low : (a b : ℕ) → a ≡ s + k → b ≡ r + k → Below g (x.letter a) (x.letter b)

module _ (g : Bool) (x : Word) (l r o p : ℕ) (v : Inv g x l r o p) (h : r + o < x.size) where
  -- the new letter is the expected one: the period holds one letter further
  longer : x.letter (r + o) ≡ x.letter (l + o) → (i j : ℕ) → l ≤ i → j ≡ i + p → j ≤ r + o → x.letter i ≡ x.letter j
  longer e i j a b c =
      elim (dec_lt j (r + o)) [
        | yes d ↦ v.period i j a b d
        | no d ↦ sym (v.copy (l + o) i (omega arith) (omega arith) (omega arith)) ∙ sym e ∙ ap x.letter (omega arith)
      ]

  pub same_on : x.letter (r + o) ≡ x.letter (l + o) → (o + 1 ≡ p → ⊥) → Inv g x l r (o + 1) p
  same_on e z =
      record {
        before = v.before;
        fits = v.fits;
        short = omega arith;
        inside = omega arith;
        copy = v.copy;
        period = λ i j a b c. longer e i j a b (omega arith);
        root = v.root;
      }

  pub same_wrap : x.letter (r + o) ≡ x.letter (l + o) → o + 1 ≡ p → Inv g x l (r + (o + 1)) 0 p
  same_wrap e z =
      record {
        before = v.before;
        fits = omega arith;
        short = omega arith;
        inside = omega arith;
        copy = λ i j a b c. v.copy i (j - p) a b (omega arith) ∙ longer e (j - p) j (omega arith) (omega arith) (omega arith);
        period = λ i j a b c. longer e i j a b (omega arith);
        root = v.root;
      }

  -- the new letter is below the expected one
  module _ (d : Below g (x.letter (r + o)) (x.letter (l + o))) where
    new_low : (a b : ℕ) → b ≡ r + o → a + p ≡ r + o → Below g (x.letter b) (x.letter a)
    new_low a b e f =
        below_eq g (ap x.letter (sym e)) (v.copy (l + o) a (omega arith) (omega arith) (omega arith)) d

    beyond : (j : ℕ) → j < r + (o + 1) - l → p < j → Above g x l (r + (o + 1) - l) (j - p) → Above g x l (r + (o + 1) - l) j
    beyond j hj pj B =
        elim (dec_lt (l + j + B.t) (r + o)) [
          | yes w ↦ record {
            t = B.t;
            fits = omega arith;
            same = λ a b la at e. B.same a (b - p) la at (omega arith) ∙ v.period (b - p) b (omega arith) (omega arith) (omega arith);
            low = λ a b ea eb. below_eq g (v.period (b - p) b (omega arith) (omega arith) (omega arith)) refl (B.low a (b - p) ea (omega arith));
          }
          | no w ↦ record {
            t = r + o - (l + j);
            fits = omega arith;
            same = λ a b la at e. B.same a (b - p) la (omega arith) (omega arith) ∙ v.period (b - p) b (omega arith) (omega arith) (omega arith);
            low = λ a b ea eb. elim (dec_lt (r + o - (l + j)) B.t) [
              | yes y ↦ below_eq g refl (sym (B.same a (b - p) (omega arith) (omega arith) (omega arith))) (new_low (b - p) b (omega arith) (omega arith))
              | no y ↦ below_trans g (x.letter b) (x.letter (b - p)) (x.letter a) (new_low (b - p) b (omega arith) (omega arith)) (B.low a (b - p) (omega arith) (omega arith))
            ];
          }
        ]

    root_at : (f j : ℕ) → j ≤ f → 0 < j → j < r + (o + 1) - l → Above g x l (r + (o + 1) - l) j
    root_at zero j hf zj hj = absurd (omega arith)
    root_at (suc f) j hf zj hj =
        let rec : p < j → Above g x l (r + (o + 1) - l) (j - p) = λ pj. root_at f (j - p) (omega arith) (omega arith) (omega arith) in
        elim (dec_lt j p) [
          | yes a ↦ let A = v.root j zj a in record { t = A.t; fits = omega arith; same = A.same; low = A.low }
          | no a ↦ elim (dec_lt p j) [
            | yes b ↦ beyond j hj b (rec b)
            | no b ↦ record {
              t = r + o - (l + p);
              fits = omega arith;
              same = λ c e lc ct ce. v.period c e lc (omega arith) (omega arith);
              low = λ c e ec ee. new_low c e (omega arith) (omega arith);
            }
          ]
        ]

    pub lower : Inv g x l (r + (o + 1)) 0 (r + (o + 1) - l)
    lower =
        record {
          before = v.before;
          fits = omega arith;
          short = omega arith;
          inside = omega arith;
          copy = λ i j a b c. ap x.letter (omega arith);
          period = λ i j a b c. absurd (omega arith);
          root = λ j a b. root_at j j (omega arith) a b;
        }

  -- the letters from r on are those from l on, up to the new one
  mirror : (i j : ℕ) → l ≤ i → i < l + o → j + l ≡ i + r → x.letter i ≡ x.letter j
  mirror i j a b c =
      v.copy i (j - p) a (omega arith) (omega arith) ∙ v.period (j - p) j (omega arith) (omega arith) (omega arith)

  -- the new letter is above the expected one
  module _ (d : Below g (x.letter (l + o)) (x.letter (r + o))) where
    high : (a b : ℕ) → a ≡ l + o → b ≡ r + o → Below g (x.letter a) (x.letter b)
    high a b e f = below_eq g (ap x.letter (sym e)) (ap x.letter (sym f)) d

    in_root : (s : ℕ) → l < s → s < l + p → Beats g x r o s
    in_root s a b =
        let A = v.root (s - l) (omega arith) (omega arith) in
        elim (dec_lt A.t o) [
          | yes w ↦ record {
            k = A.t;
            early = omega arith;
            same = λ i c e hi ec ee. sym (A.same (l + i) c (omega arith) (omega arith) (omega arith)) ∙ mirror (l + i) e (omega arith) (omega arith) (omega arith);
            low = λ c e ec ee. below_eq g refl (mirror (l + A.t) e (omega arith) (omega arith) (omega arith)) (A.low (l + A.t) c refl (omega arith));
          }
          | no w ↦ record {
            k = o;
            early = omega arith;
            same = λ i c e hi ec ee. sym (A.same (l + i) c (omega arith) (omega arith) (omega arith)) ∙ mirror (l + i) e (omega arith) (omega arith) (omega arith);
            low = λ c e ec ee. elim (dec_lt o A.t) [
              | yes y ↦ below_eq g (A.same (l + o) c (omega arith) (omega arith) (omega arith)) refl (high (l + o) e refl ee)
              | no y ↦ below_trans g (x.letter c) (x.letter (l + o)) (x.letter e) (A.low (l + o) c (omega arith) (omega arith)) (high (l + o) e refl ee)
            ];
          }
        ]

    beats : (f s : ℕ) → s ≤ f → l ≤ s → s < r → Beats g x r o s
    beats zero s hf a b =
        record {
          k = o;
          early = omega arith;
          same = λ i c e hi ec ee. mirror c e (omega arith) (omega arith) (omega arith);
          low = λ c e ec ee. high c e (omega arith) ee;
        }
    beats (suc f) s hf a b =
        let rec : l + p ≤ s → Beats g x r o (s - p) = λ ps. beats f (s - p) (omega arith) (omega arith) (omega arith) in
        elim (dec_lt s (l + p)) [
          | yes w ↦ elim (dec_lt l s) [
            | yes y ↦ in_root s y w
            | no y ↦ record {
              k = o;
              early = omega arith;
              same = λ i c e hi ec ee. mirror c e (omega arith) (omega arith) (omega arith);
              low = λ c e ec ee. high c e (omega arith) ee;
            }
          ]
          | no w ↦
              let B = rec (omega arith) in
              record {
                k = B.k;
                early = B.early;
                same = λ i c e hi ec ee. sym (v.period (c - p) c (omega arith) (omega arith) (omega arith)) ∙ B.same i (c - p) e hi (omega arith) ee;
                low = λ c e ec ee. below_eq g (v.period (c - p) c (omega arith) (omega arith) (omega arith)) refl (B.low (c - p) e (omega arith) ee);
              }
        ]

    beaten : (s : ℕ) → l ≤ s → s < r → Less g (suffix x s) (suffix x r)
    beaten s a b =
        let B = beats s s (omega arith) a b in
        record {
          k = B.k;
          same = λ i hi. B.same i (s + i) (r + i) hi refl refl;
          more = omega arith;
          parts = inl (omega arith, B.low (s + B.k) (r + B.k) refl refl);
        }

module _ (g : Bool) (x : Word) (l r o p : ℕ) (v : Inv g x l r o p) where
  pub higher : r + o < x.size → Below g (x.letter (l + o)) (x.letter (r + o)) → Inv g x r (r + 1) 0 1
  higher h d =
      record {
        before = λ s a. elim (dec_lt s l) [
          | yes w ↦ less_trans g (suffix x s) (suffix x l) (suffix x r) (v.before s w) (beaten g x l r o p v h d l (omega arith) (omega arith))
          | no w ↦ beaten g x l r o p v h d s (omega arith) a
        ];
        fits = omega arith;
        short = omega arith;
        inside = omega arith;
        copy = λ i j a b c. ap x.letter (omega arith);
        period = λ i j a b c. absurd (omega arith);
        root = λ j a b. absurd (omega arith);
      }

  -- where the period holds up to the end, each later suffix is less, and no smaller period is one
  module _ (per : (i j : ℕ) → l ≤ i → j ≡ i + p → j < x.size → x.letter i ≡ x.letter j) where
    -- a suffix that is less stays so p letters further on
    further : (s : ℕ) → l + p < s → s ≤ x.size → Less g (suffix x (s - p)) (suffix x l) → Less g (suffix x s) (suffix x l)
    further s c b B =
        elim (dec_lt (s + B.k) x.size) [
          | yes e ↦ record {
            k = B.k;
            same = λ i hi. sym (per (s - p + i) (s + i) (omega arith) (omega arith) (omega arith)) ∙ B.same i hi;
            more = B.more;
            parts = ⊎_elim (λ t. inl (omega arith, below_eq g (per (s - p + B.k) (s + B.k) (omega arith) (omega arith) (omega arith)) refl t.1)) (λ t. absurd (omega arith)) B.parts;
          }
          | no e ↦ record {
            k = x.size - s;
            same = λ i hi. sym (per (s - p + i) (s + i) (omega arith) (omega arith) (omega arith)) ∙ B.same i (omega arith);
            more = omega arith;
            parts = inr (omega arith);
          }
        ]

    pub later : (f s : ℕ) → s ≤ f → l < s → s ≤ x.size → Less g (suffix x s) (suffix x l)
    later zero s hf a b = absurd (omega arith)
    later (suc f) s hf a b =
        let rec : l + p < s → Less g (suffix x (s - p)) (suffix x l) = λ ps. later f (s - p) (omega arith) (omega arith) (omega arith) in
        elim (dec_lt s (l + p)) [
          | yes w ↦
              let A = v.root (s - l) (omega arith) (omega arith) in
              record {
                k = A.t;
                same = λ i hi. sym (A.same (l + i) (s + i) (omega arith) (omega arith) (omega arith));
                more = omega arith;
                parts = inl (omega arith, A.low (l + A.t) (s + A.t) refl (omega arith));
              }
          | no w ↦ elim (dec_lt (l + p) s) [
            | yes c ↦ further s c b (rec c)
            | no c ↦ record {
              k = x.size - s;
              same = λ i hi. sym (per (l + i) (s + i) (omega arith) (omega arith) (omega arith));
              more = omega arith;
              parts = inr (omega arith);
            }
          ]
        ]

    pub is_period : Period (suffix x l) p
    is_period =
        record {
          positive = omega arith;
          within = omega arith;
          repeats = λ i j e h. per (l + i) (l + j) (omega arith) (omega arith) (omega arith);
        }

    pub smallest : (q : ℕ) → q < p → Period (suffix x l) q → ⊥
    smallest q w P =
        let A = v.root q P.positive w in
        below_irrefl g (x.letter (l + A.t + q)) (x.letter (l + A.t))
        (ap x.letter (omega arith) ∙ sym (P.repeats A.t (A.t + q) refl (omega arith)))
        (A.low (l + A.t) (l + A.t + q) refl refl)
