-- What a search's loop keeps, and what its passes and its ends show, in either direction.
-- Assumes nothing.
use Rattle.std.proofs.Common.{◌≡◌, ℕ, suc, ◌+◌, ◌-◌, ◌*◌, ◌^◌, ◌<◌, ◌≤◌, Bool, true, false, cond, not, ◌&&◌, ◌⊎◌, ⊎_elim, eqb, eq-eqb, ne_eqb, sym, refl, ◌∙◌, arith}
use Rattle.words.specs.Word.{Word, mirror}
use Rattle.windows.specs.declared.Plan.{Plan}
use Rattle.windows.specs.declared.Cursor.{Cursor}
use Rattle.windows.specs.declared.Outcome.{Outcome}
use Rattle.windows.specs.declared.Stop.{Stop}
use Rattle.windows.specs.declared.Searched.{Searched}
use Rattle.windows.specs.Window.{forward_window, backward_window}
use Rattle.windows.specs.Search.{ended, moved_to, forward_search, backward_search}
use Rattle.windows.specs.Mirror.{mirrored_plan, mirrored_cursor}
use Rattle.windows.specs.Shape.{Shape, BackShape}
use Rattle.windows.proofs.Counts.{Spent, spent_window}
use Rattle.windows.proofs.Mirror.{MirroredCursor, MirroredOutcome, mirrored_cursor_is, window_mirrored}
use Rattle.search.specs.Code.{window_of, has_room, window_at, far_end, plan_seen, Start, Room}

-- a step ends its search once it has passed a part, and not before
pub part_passed : (stepping : Bool) (now start : ℕ) → stepping ≡ true → (now ≡ start → ⊥) → (stepping && not (eqb now start)) ≡ true
part_passed stepping now start asked moved = rw (asked, ne_eqb now start moved)

pub no_part_passed : (stepping : Bool) (now start : ℕ) → ((stepping ≡ true) × (now ≡ start)) ⊎ (stepping ≡ false) → (stepping && not (eqb now start)) ≡ false
no_part_passed stepping now start either = ⊎_elim (λ w. rw (w.0, eq-eqb now start w.1)) (λ w. rw w) either

-- a search with fuel left, in a direction, from a cursor, with the comparisons and the tests so far
abbrev pub searching : Bool → ℕ → Bool → (ℕ → Bool) → Plan → Word → Word → ℕ → Cursor → ℕ → ℕ → Searched
searching backward fuel stepping has v x h old s d t =
    cond backward (backward_search fuel stepping has v x h old s d t) (forward_search fuel stepping has v x h old s d t)

-- How it goes on: by whether there is room for a window, whether a part has been passed (and the search is to stop at that), and what the window comes to.
goes : (backward : Bool) (fuel : ℕ) (stepping : Bool) (has : ℕ → Bool) (v : Plan) (x h : Word) (old : ℕ) (s : Cursor) (d t : ℕ)
    → searching backward (suc fuel) stepping has v x h old s d t
    ≡ (let w = window_of backward has v x h s in
    cond (has_room backward s.at x.size h.size)
    (cond (stepping && not (eqb s.at old))
    (ended Stop.Passed s d t)
    (cond w.matched
    (ended (Stop.Hit (window_at backward s.at x.size)) w.next (d + w.comparisons) (t + 1))
    (searching backward fuel stepping has v x h old w.next (d + w.comparisons) (t + 1))))
    (ended Stop.Out (moved_to (far_end backward h.size) s) d t))
unfolding forward_search backward_search
goes true fuel stepping has v x h old s d t = refl
goes false fuel stepping has v x h old s d t = refl

-- the cursor of the walk in the mirror, where that is the forward one
abbrev pub cursor_seen : Bool → ℕ → ℕ → Cursor → Cursor
cursor_seen backward m n s = cond backward (mirrored_cursor m n s) s

-- What the numbers keep, with a needle of m letters and a haystack of n, at s after d comparisons and t tests:
-- they are those of a forward walk that came from where `start` is seen and stands where s is.
pub record Keeps (backward : Bool) (v : Plan) (m n : ℕ) (start s : Cursor) (d t : ℕ) : Type 0 where
  pub within : s.at ≤ n
  pub memory : s.memory ≤ m
  pub spent : Spent (plan_seen backward m v) m n (cursor_seen backward m n start).at (cursor_seen backward m n s) d t

-- and what is left of the search from there gives the whole search's result
pub record Looping (backward stepping : Bool) (has : ℕ → Bool) (v : Plan) (x h : Word) (start s : Cursor) (d t : ℕ) : Type 0 where
  pub keeps : Keeps backward v x.size h.size start s d t
  pub rule : searching backward (h.size + 1 - t) stepping has v x h start.at s d t ≡ searching backward (h.size + 1) stepping has v x h start.at start 0 0

-- where the needle fits into the haystack at all, the comparisons do not wrap
pub few_comparisons : {backward : Bool} {v : Plan} {m n : ℕ} {start s : Cursor} {d t : ℕ} → Keeps backward v m n start s d t → m ≤ n → 4 * n < 2 ^ 63 → d < 2 ^ 64
few_comparisons k short small = let p = k.spent in omega arith

-- every test moved on
pub few_tests : {backward : Bool} {v : Plan} {m n : ℕ} {start s : Cursor} {d t : ℕ} → Keeps backward v m n start s d t → t ≤ n
few_tests k = let p = k.spent in omega arith

module _ {backward stepping : Bool} {has : ℕ → Bool} {v : Plan} {x h : Word} {start s : Cursor} {d t : ℕ}
    (loop : Looping backward stepping has v x h start s d t) where
  -- what a search comes to
  abbrev whole : Searched
  whole = searching backward (h.size + 1) stepping has v x h start.at start 0 0

  -- the rest of it, by how it goes on
  rest : {r : Searched} → r ≡ searching backward (suc (h.size - t)) stepping has v x h start.at s d t → r ≡ whole
  rest e =
      let few = few_tests loop.keeps in
      let fuel : suc (h.size - t) ≡ h.size + 1 - t = omega arith in
      e ∙ rw fuel loop.rule

  pub loop_out : {at : ℕ} {r : Searched} → false ≡ has_room backward s.at x.size h.size → at ≡ far_end backward h.size
      → r ≡ ended Stop.Out (record { at = at; memory = s.memory }) d t → r ≡ whole
  loop_out no_room to q = rest (q ∙ rw to (sym (rw (← no_room) at (goes backward (h.size - t) stepping has v x h start.at s d t))))

  module _ (is_room : true ≡ has_room backward s.at x.size h.size) where
    pub loop_passed : {r : Searched} → (stepping && not (eqb s.at start.at)) ≡ true → r ≡ ended Stop.Passed s d t → r ≡ whole
    loop_passed p q = rest (q ∙ sym (rw (← is_room, p) at (goes backward (h.size - t) stepping has v x h start.at s d t)))

    -- a window, of which the code has u
    module _ {u : Outcome} (made : u ≡ window_of backward has v x h s) (not_passed : (stepping && not (eqb s.at start.at)) ≡ false) where
      stepped : cond u.matched
          (ended (Stop.Hit (window_at backward s.at x.size)) u.next (d + u.comparisons) (t + 1))
          (searching backward (h.size - t) stepping has v x h start.at u.next (d + u.comparisons) (t + 1))
          ≡ whole
      stepped = rest (sym (rw (← is_room, not_passed, ← made) at (goes backward (h.size - t) stepping has v x h start.at s d t)))

      pub loop_hit : {r : Searched} {place spent : ℕ} → place ≡ window_at backward s.at x.size → u.matched ≡ true → r ≡ ended (Stop.Hit place) u.next spent (t + 1)
          → spent ≡ d + u.comparisons → r ≡ whole
      loop_hit at e q counted = q ∙ rw (at, counted) (rw e at stepped)

      pub loop_next : u.matched ≡ false → Keeps backward v x.size h.size start u.next (d + u.comparisons) (t + 1)
          → Looping backward stepping has v x h start u.next (d + u.comparisons) (t + 1)
      loop_next e keeps =
          let fuel : h.size + 1 - (t + 1) ≡ h.size - t = omega arith in
          record { keeps = keeps; rule = rw fuel (rw e at stepped) }

-- ---- what a window keeps

pub forward_keeps : (has : ℕ → Bool) (x h : Word) {v : Plan} {start s : Cursor} {d t : ℕ} {u : Outcome} → Shape v x.size → s.at + x.size ≤ h.size
    → Keeps false v x.size h.size start s d t → u ≡ forward_window has v x h s
    → Keeps false v x.size h.size start u.next (d + u.comparisons) (t + 1)
forward_keeps has x h {v} {start} {s} {d} {t} shape room k made =
    let p = spent_window has v x h shape start.at s d t room k.spent in
    rw made (record { within = p.within; memory = p.memory_fits; spent = p })

-- the mirror's cursor is the mirrored one
mirrored_is : (m n : ℕ) (s s' : Cursor) → MirroredCursor m n s s' → s' ≡ mirrored_cursor m n s
mirrored_is m n s s' t =
    let place : s'.at ≡ n - s.at = omega arith in
    let memories : s'.memory ≡ m - s.memory = omega arith in
    rw (← place, ← memories)

mirrored_room : (at m n : ℕ) → m ≤ at → at ≤ n → n - at + m ≤ n
mirrored_room at m n a b = omega arith

pub backward_keeps : (has : ℕ → Bool) (x h : Word) {v : Plan} {start s : Cursor} {d t : ℕ} {u : Outcome} → BackShape v x.size → Shape (mirrored_plan x.size v) x.size → x.size ≤ s.at
    → Keeps true v x.size h.size start s d t → u ≡ backward_window has v x h s
    → Keeps true v x.size h.size start u.next (d + u.comparisons) (t + 1)
backward_keeps has x h {v} {start} {s} {d} {t} {u} fits shape room k made =
    let m = x.size in
    let n = h.size in
    let s' = mirrored_cursor m n s in
    let w' = forward_window has (mirrored_plan m v) (mirror x) (mirror h) s' in
    let same : MirroredOutcome m n (backward_window has v x h s) w' =
    window_mirrored has v x h s s' fits (mirrored_cursor_is m n s k.within k.memory) (omega arith) room in
    let spent = spent_window has (mirrored_plan m v) (mirror x) (mirror h) shape (n - start.at) s' d t (mirrored_room s.at m n room k.within) k.spent in
    rw made
    (record {
      within = omega arith;
      memory = omega arith;
      spent = rw (same.counts, ← mirrored_is m n (backward_window has v x h s).next w'.next same.nexts) spent;
    })

pub window_keeps : (backward : Bool) (has : ℕ → Bool) (x h : Word) {v : Plan} {start s : Cursor} {d t : ℕ} {u : Outcome}
    → Start backward x.size h.size v start → Room backward s.at x.size h.size
    → Keeps backward v x.size h.size start s d t → u ≡ window_of backward has v x h s
    → Keeps backward v x.size h.size start u.next (d + u.comparisons) (t + 1)
window_keeps true has x h asked room k made = backward_keeps has x h asked.back asked.shape room k made
window_keeps false has x h asked room k made = forward_keeps has x h asked.shape room k made
