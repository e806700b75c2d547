-- The four ways through a forward window, each with what it showed of the letters.
-- Assumes nothing.
use Prim.Native.Nat.{ℕ, ◌+◌, ◌-◌, ◌<◌, ◌≤◌, max}
use mathlib.Core.Path.{◌≡◌, refl, sym, ◌∙◌, ap}
use mathlib.Core.Bool.{Bool, true, false, cond}
use native.Mathlib.Omega.{arith}
use lib.Dec.{ltb, eqb}
use borrow.Author.Tests.{ltb-true, ltb-false, eqb-true, eqb-false, not-true, not-false}
use Rattle.words.specs.Word.{Word}
use Rattle.words.specs.Choice.{first_from, least}
use Rattle.words.proofs.Tests.{First, first_is}
use Rattle.windows.specs.declared.Plan.{Plan}
use Rattle.windows.specs.declared.Cursor.{Cursor}
use Rattle.windows.specs.declared.Outcome.{Outcome}
use Rattle.windows.specs.Window.{outcome, differs, forward_window}

-- the needle's letters from a up to b are those of the window at k
abbrev pub Agree : Word → Word → ℕ → ℕ → ℕ → Type 0
Agree x h k a b = (i j : ℕ) → a ≤ i → i < b → j ≡ k + i → x.letter i ≡ h.letter j

pub agree_at : (x h : Word) (k i : ℕ) → differs x h k i ≡ false → x.letter i ≡ h.letter (k + i)
agree_at x h k i e = eqb-true (x.letter i) (h.letter (k + i)) (not-false (eqb (x.letter i) (h.letter (k + i))) e)

pub differ_at : (x h : Word) (k i : ℕ) → differs x h k i ≡ true → x.letter i ≡ h.letter (k + i) → ⊥
differ_at x h k i e = eqb-false (x.letter i) (h.letter (k + i)) (not-true (eqb (x.letter i) (h.letter (k + i))) e)

pub data Way (has : ℕ → Bool) (v : Plan) (x h : Word) (s : Cursor) : Outcome → Type 0 where
  -- the window's last letter is not in the set
  absent : has (h.letter (s.at + (x.size - 1))) ≡ false → Way has v x h s (outcome false (s.at + x.size) 0 0)
  -- a difference at i in the right part
  right : (i : ℕ) → max v.split s.memory ≤ i → i < x.size → Agree x h s.at (max v.split s.memory) i → (x.letter i ≡ h.letter (s.at + i) → ⊥)
      → Way has v x h s (outcome false (s.at + (i - v.split + 1)) 0 (i + 1 - max v.split s.memory))
  -- a difference in the left part, after `agreed` letters that agree
  left : (agreed : ℕ) → agreed < v.split - s.memory → Agree x h s.at (max v.split s.memory) x.size
      → (x.letter (v.split - (1 + agreed)) ≡ h.letter (s.at + (v.split - (1 + agreed))) → ⊥)
      → Way has v x h s (outcome false (s.at + v.period) v.period_memory (x.size - max v.split s.memory + (agreed + 1)))
  -- no difference
  whole : Agree x h s.at (max v.split s.memory) x.size → Agree x h s.at s.memory v.split
      → Way has v x h s (outcome true (s.at + v.shift) v.shift_memory (x.size - max v.split s.memory + (v.split - s.memory)))

module _ (has : ℕ → Bool) (v : Plan) (x h : Word) (s : Cursor) where
  abbrev from : ℕ
  from = max v.split s.memory

  abbrev low : ℕ
  low = v.split - s.memory

  abbrev right_at : ℕ
  right_at = first_from (x.size - from) from (differs x h s.at)

  abbrev agreed : ℕ
  agreed = least low (λ d. differs x h s.at (v.split - (1 + d)))

  right_first : First (differs x h s.at) (x.size - from) from right_at
  right_first = first_is (differs x h s.at) (x.size - from) from

  left_first : First (λ d. differs x h s.at (v.split - (1 + d))) low 0 agreed
  left_first = first_is (λ d. differs x h s.at (v.split - (1 + d))) low 0

  -- the letters before the first difference agree
  right_agree : (i : ℕ) → i ≤ right_at → Agree x h s.at from i
  right_agree i hi a j lo hi' e = agree_at x h s.at a (right_first.missed a lo (omega arith)) ∙ ap h.letter (sym e)

  left_agree : low ≤ agreed → Agree x h s.at s.memory v.split
  left_agree hl a j lo hi e =
      let d = v.split - (1 + a) in
      let back : v.split - (1 + d) ≡ a = omega arith in
      agree_at x h s.at a (ap (differs x h s.at) (sym back) ∙ left_first.missed d (omega arith) (omega arith)) ∙ ap h.letter (sym e)

  by_left : x.size ≤ right_at → (b : Bool) → ltb agreed low ≡ b
      → Way has v x h s
      (cond b
      (outcome false (s.at + v.period) v.period_memory (x.size - from + (agreed + 1)))
      (outcome true (s.at + v.shift) v.shift_memory (x.size - from + low)))
  by_left hr true e =
      let inside = ltb-true agreed low e in
      Way.left agreed inside (right_agree x.size hr) (differ_at x h s.at (v.split - (1 + agreed)) (left_first.found (omega arith)))
  by_left hr false e = Way.whole (right_agree x.size hr) (left_agree (ltb-false agreed low e))

  by_right : (b : Bool) → ltb right_at x.size ≡ b
      → Way has v x h s
      (cond b
      (outcome false (s.at + (right_at - v.split + 1)) 0 (right_at + 1 - from))
      (cond (ltb agreed low)
      (outcome false (s.at + v.period) v.period_memory (x.size - from + (agreed + 1)))
      (outcome true (s.at + v.shift) v.shift_memory (x.size - from + low))))
  by_right true e =
      let inside = ltb-true right_at x.size e in
      let lo = right_first.low in
      Way.right right_at lo inside (right_agree right_at (omega arith)) (differ_at x h s.at right_at (right_first.found (omega arith)))
  by_right false e = by_left (ltb-false right_at x.size e) (ltb agreed low) refl

  by_test : (b : Bool) → has (h.letter (s.at + (x.size - 1))) ≡ b
      → Way has v x h s
      (cond b
      (cond (ltb right_at x.size)
      (outcome false (s.at + (right_at - v.split + 1)) 0 (right_at + 1 - from))
      (cond (ltb agreed low)
      (outcome false (s.at + v.period) v.period_memory (x.size - from + (agreed + 1)))
      (outcome true (s.at + v.shift) v.shift_memory (x.size - from + low))))
      (outcome false (s.at + x.size) 0 0))
  by_test true e = by_right (ltb right_at x.size) refl
  by_test false e = Way.absent e

  pub forward_way : Way has v x h s (forward_window has v x h s)
  unfolding forward_window
  forward_way = by_test (has (h.letter (s.at + (x.size - 1)))) refl
