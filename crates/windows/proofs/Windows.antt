-- What one forward window means, for a plan that guides it: a match is an occurrence, a move passes over none, and the memory stays true.
-- Assumes nothing.
use Prim.Native.Nat.{ℕ, ◌+◌, ◌-◌, ◌<◌, ◌≤◌, min, max}
use mathlib.Core.Path.{◌≡◌, refl, sym, ◌∙◌, ap}
use mathlib.Core.Bool.{Bool, true, false, true≢false, false≢true}
use native.Mathlib.Omega.{arith}
use native.Mathlib.Decide.{dec_lt}
use Rattle.words.specs.Word.{Word}
use Rattle.words.specs.Occurs.{Occurs}
use Rattle.words.specs.Period.{LocalRepeat}
use Rattle.words.proofs.Critical.{smallest_le, critical_shift}
use Rattle.windows.specs.declared.Plan.{Plan}
use Rattle.windows.specs.declared.Cursor.{Cursor}
use Rattle.windows.specs.declared.Outcome.{Outcome}
use Rattle.windows.specs.Window.{outcome, forward_window}
use Rattle.windows.specs.Meaning.{Guides}
use Rattle.windows.proofs.Ways.{Agree, Way, forward_way}

-- The memory's letters agree with the window at the cursor. Where there is no room for a window, nothing is claimed: a walk that ran out keeps its last memory.
abbrev pub Remembers : Word → Word → Cursor → Type 0
Remembers x h s = s.at + x.size ≤ h.size → Agree x h s.at 0 s.memory

-- what holds of a walk's cursor between any two windows
pub record Sound (x h : Word) (s : Cursor) : Type 0 where
  pub inside : s.at ≤ h.size
  pub memory_fits : s.memory ≤ x.size
  pub remembers : Remembers x h s

-- a cursor that remembers nothing: where a walk starts
pub sound_start : (x h : Word) (a : ℕ) → a ≤ h.size → Sound x h (record { at = a; memory = 0 })
sound_start x h a inside =
    record { inside = inside; memory_fits = omega arith; remembers = λ room i j lo hi e. absurd (omega arith) }

-- no occurrence starts from a on and before b
abbrev pub Skips : Word → Word → ℕ → ℕ → Type 0
Skips x h a b = (j : ℕ) → a ≤ j → j < b → Occurs x h j → ⊥

-- what the outcome w of the window at s means
pub record WindowMeans (v : Plan) (x h : Word) (s : Cursor) (w : Outcome) : Type 0 where
  pub occurs : w.matched ≡ true → Occurs x h s.at
  pub shifts : w.matched ≡ true → w.next.at ≡ s.at + v.shift
  pub skips : w.matched ≡ false → Skips x h s.at w.next.at
  pub onward : s.at < w.next.at
  pub sound : Sound x h w.next

module _ {has : ℕ → Bool} {v : Plan} {x : Word} (g : Guides has v x) (h : Word) (s : Cursor) (room : s.at + x.size ≤ h.size) (known : Remembers x h s) where
  abbrev c : ℕ
  c = v.split

  -- What was compared in the right part starts at the split or at the memory's end, whichever is later. The memory has the letters before that.
  from_split : {b : ℕ} → Agree x h s.at (max c s.memory) b → Agree x h s.at c b
  from_split compared i j lo hi e =
      elim (dec_lt i s.memory) [ yes y ↦ known room i j (omega arith) y e | no y ↦ compared i j (omega arith) hi e ]

  -- where the left part was compared as well, down to the memory's end, all letters agree
  from_start : Agree x h s.at c x.size → Agree x h s.at s.memory c → Agree x h s.at 0 x.size
  from_start right left i j lo hi e =
      elim (dec_lt i c) [
        | no y ↦ right i j (omega arith) hi e
        | yes y ↦ elim (dec_lt i s.memory) [ yes z ↦ known room i j lo z e | no z ↦ left i j (omega arith) y e ]
      ]

  -- Where the letters from the split up to b agree, an occurrence d places later makes the needle repeat across the split: it reads the same letters of h.
  repeat_across : {j b : ℕ} (d : ℕ) → Agree x h s.at c b → Occurs x h j → j ≡ s.at + d → 0 < d → min (c + d) x.size ≤ b → LocalRepeat x c d
  repeat_across d agree o e pos reach =
      record {
        positive = pos;
        repeats = λ i l hi hl f hs. o.same i (s.at + l) (omega arith) (omega arith) ∙ sym (agree l (s.at + l) hl (omega arith) refl);
      }

  -- an occurrence that covers the window's last letter contains that letter, and of such the test never says no
  absent_skips : has (h.letter (s.at + (x.size - 1))) ≡ false → Skips x h s.at (s.at + x.size)
  absent_skips e j lo hi o =
      let i = s.at + (x.size - 1) - j in
      true≢false (sym (g.never_no i (omega arith)) ∙ ap has (o.same i (s.at + (x.size - 1)) (omega arith) (omega arith)) ∙ e)

  -- A difference at i in the right part. An occurrence d places later, its split not past i, makes the needle repeat at d across the split and so in the whole:
  -- what the occurrence has at i is then the needle's own letter there, and h has another.
  right_skips : (i : ℕ) → c ≤ i → i < x.size → Agree x h s.at c i → (x.letter i ≡ h.letter (s.at + i) → ⊥) → Skips x h s.at (s.at + (i - c + 1))
  right_skips i hc hi agree differ j lo hj o =
      elim (dec_lt s.at j) [
        | no y ↦ differ (o.same i (s.at + i) hi (omega arith))
        | yes y ↦
            let d = j - s.at in
            let rep = repeat_across d agree o (omega arith) (omega arith) (omega arith) in
            differ (sym (critical_shift g.critical g.smallest_is rep (omega arith) (i - d) i (omega arith) hi) ∙ o.same (i - d) (s.at + i) (omega arith) (omega arith))
      ]

  -- A difference at i in the left part. The right part agrees, so an occurrence d places later makes the needle repeat across the split, which is critical: d is no less than the smallest period.
  left_skips : (i : ℕ) → i < c → Agree x h s.at c x.size → (x.letter i ≡ h.letter (s.at + i) → ⊥) → Skips x h s.at (s.at + v.period)
  left_skips i hi agree differ j lo hj o =
      let inside = g.split_inside in
      elim (dec_lt s.at j) [
        | no y ↦ differ (o.same i (s.at + i) (omega arith) (omega arith))
        | yes y ↦
            let d = j - s.at in
            let far = smallest_le (g.critical.local_is g.smallest g.smallest_is) (repeat_across d agree o (omega arith) (omega arith) (omega arith)) in
            let least = g.period_least in
            omega arith
      ]

  -- Letters from a on agree, and the needle's first `memory` letters stand again d places later, among those: so they agree with the window d places later.
  moved_agree : {a : ℕ} (d memory : ℕ) → Agree x h s.at a x.size → a ≤ d → memory + d ≤ x.size
      → ((i j : ℕ) → i < memory → j ≡ i + d → x.letter i ≡ x.letter j) → Agree x h (s.at + d) 0 memory
  moved_agree d memory agree ha hb same i j lo hi e =
      same i (i + d) hi refl ∙ agree (i + d) j (omega arith) (omega arith) (omega arith)

  -- a window without a match that moves by d
  no_match : (d memory comparisons : ℕ) → Skips x h s.at (s.at + d) → 0 < d → memory + d ≤ x.size → Agree x h (s.at + d) 0 memory
      → WindowMeans v x h s (outcome false (s.at + d) memory comparisons)
  no_match d memory comparisons skips pos fits agree =
      record {
        occurs = λ e. absurd (false≢true e);
        shifts = λ e. absurd (false≢true e);
        skips = λ e. skips;
        onward = omega arith;
        sound = record { inside = omega arith; memory_fits = omega arith; remembers = λ r. agree };
      }

  by_way : (w : Outcome) → Way has v x h s w → WindowMeans v x h s w
  by_way w (Way.absent e) =
      let inside = g.split_inside in
      no_match x.size 0 0 (absent_skips e) (omega arith) (omega arith) (λ i j lo hi f. absurd (omega arith))
  by_way w (Way.right i lo hi agree differ) =
      no_match (i - c + 1) 0 _ (right_skips i (omega arith) hi (from_split agree) differ) (omega arith) (omega arith) (λ a j la ha f. absurd (omega arith))
  by_way w (Way.left agreed fewer agree differ) =
      let ahead = g.period_ahead in
      let right = from_split agree in
      no_match v.period v.period_memory _ (left_skips (c - (1 + agreed)) (omega arith) right differ) (omega arith) g.period_memory_fits
      (moved_agree v.period v.period_memory right (omega arith) g.period_memory_fits g.period_memory_same)
  by_way w (Way.whole right left) =
      let pos = g.shift_positive in
      let fits = g.shift_memory_fits in
      let agree = from_start (from_split right) left in
      record {
        occurs = λ e. record { fits = room; same = λ i j hi f. agree i j (omega arith) hi f };
        shifts = λ e. refl;
        skips = λ e. absurd (true≢false e);
        onward = omega arith;
        sound = record {
          inside = omega arith;
          memory_fits = omega arith;
          remembers = λ r. moved_agree v.shift v.shift_memory agree (omega arith) fits g.shift_memory_same;
        };
      }

  -- where there is room for the window and the memory is true
  pub window_means : WindowMeans v x h s (forward_window has v x h s)
  window_means = by_way (forward_window has v x h s) (forward_way has v x h s)
