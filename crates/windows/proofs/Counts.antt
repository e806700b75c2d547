-- What a forward walk costs, how far it gets and which memory it sets, from the numbers of its plan alone: no premise here is on a letter.
-- Assumes nothing.
use Prim.Native.Nat.{ℕ, zero, suc, ◌+◌, ◌-◌, ◌*◌, ◌<◌, ◌≤◌, max}
use mathlib.Core.Path.{◌≡◌, refl}
use mathlib.Core.Bool.{Bool, true, false}
use mathlib.Core.Logic.{◌⊎◌, inl, inr}
use native.Mathlib.Omega.{arith}
use borrow.Author.Tests.{le-ltb}
use Rattle.words.specs.Word.{Word}
use Rattle.windows.specs.declared.Plan.{Plan}
use Rattle.windows.specs.declared.Cursor.{Cursor}
use Rattle.windows.specs.declared.Outcome.{Outcome}
use Rattle.windows.specs.Window.{outcome, forward_window}
use Rattle.windows.specs.Bounds.{Bounded}
use Rattle.windows.specs.Search.{moved_to, forward_search}
use Rattle.windows.specs.Shape.{Shape}
use Rattle.windows.proofs.Ways.{Way, forward_way}
use Rattle.windows.proofs.Searches.{search_shift, search_keeps}

-- As many comparisons as a walk from place 0 to s can have made. A letter of the haystack meets the needle's right part at most once, in rising order, and its left part at most once:
-- the right part has met at most the letters from c up to position + max(c, memory), the left part at most those before the position.
abbrev pub potential : Plan → Cursor → ℕ
potential v s = 2 * s.at + (max v.split s.memory - v.split)

-- what a window at s does to the numbers, for a needle of m letters
pub record Moves (v : Plan) (m : ℕ) (s : Cursor) (w : Outcome) : Type 0 where
  pub on : s.at < w.next.at
  pub near : w.next.at ≤ s.at + m
  pub memory_fits : w.next.memory ≤ m
  -- the move pays for the comparisons, and they stay inside the window
  pub paid : s.memory ≤ m → w.comparisons + potential v s ≤ potential v w.next
  pub inside : s.memory ≤ m → w.comparisons + potential v s ≤ 2 * s.at + m

-- the memories that a window sets
pub data Sets (v : Plan) (memory : ℕ) : Type 0 where
  cleared : memory ≡ 0 → Sets v memory
  by_difference : memory ≡ v.period_memory → Sets v memory
  by_match : memory ≡ v.shift_memory → Sets v memory

-- What a walk has spent since it stood at a, now that it stands at s, in a haystack of n letters.
pub record Spent (v : Plan) (m n a : ℕ) (s : Cursor) (comparisons tests : ℕ) : Type 0 where
  pub paid : comparisons + 2 * a ≤ potential v s
  -- every test moved on
  pub moved : tests + a ≤ s.at
  pub within : s.at ≤ n
  pub memory_fits : s.memory ≤ m
  pub bounded : Bounded m (n - a) comparisons tests

pub spent_none : (v : Plan) (m n a : ℕ) (s : Cursor) → s.at ≡ a → a ≤ n → s.memory ≤ m → Spent v m n a s 0 0
spent_none v m n a s e ha hm = omega arith

-- the move to the end of the haystack costs nothing
spent_end : (v : Plan) (m n a : ℕ) (s : Cursor) (d t : ℕ) → Spent v m n a s d t → Spent v m n a (moved_to n s) d t
spent_end v m n a s d t p =
    record {
      paid = omega arith;
      moved = omega arith;
      within = omega arith;
      memory_fits = p.memory_fits;
      bounded = p.bounded;
    }

-- the bound after a window at k that had room: the comparisons are those up to its end, and every test before it moved on
bounded_by : (m n a k d t : ℕ) → 0 < m → k + m ≤ n → d + 2 * a ≤ 2 * k + m → t + a ≤ k → Bounded m (n - a) d (t + 1)
bounded_by m n a k d t some room compared moved = omega arith

module _ (has : ℕ → Bool) (v : Plan) (x h : Word) where
  pub window_sets : (s : Cursor) → Sets v (forward_window has v x h s).next.memory
  window_sets s = go (forward_window has v x h s) (forward_way has v x h s)
    where
      go : (w : Outcome) → Way has v x h s w → Sets v w.next.memory
      go w (Way.absent _) = Sets.cleared refl
      go w (Way.right i lo hi _ _) = Sets.cleared refl
      go w (Way.left agreed few _ _) = Sets.by_difference refl
      go w (Way.whole _ _) = Sets.by_match refl

  -- the right part is passed and q letters of the left one are compared: a difference there, or a match
  passed_right : (s : Cursor) (b : Bool) (p k q : ℕ) → v.split < p → k + p ≤ x.size → x.size ≤ p + max v.split k → q ≤ v.split - s.memory
      → Moves v x.size s (outcome b (s.at + p) k (x.size - max v.split s.memory + q))
  passed_right s b p k q ahead fits reach few = omega arith

  module _ (shape : Shape v x.size) where
    pub moves : (s : Cursor) → Moves v x.size s (forward_window has v x h s)
    moves s = go (forward_window has v x h s) (forward_way has v x h s)
      where
        go : (w : Outcome) → Way has v x h s w → Moves v x.size s w
        go w (Way.absent _) = omega arith
        go w (Way.right i lo hi _ _) = omega arith
        go w (Way.left agreed few _ _) = passed_right s false v.period v.period_memory (agreed + 1) shape.ahead shape.period_memory_fits shape.reach (omega arith)
        go w (Way.whole _ _) = passed_right s true v.shift v.shift_memory (v.split - s.memory) shape.shift_ahead shape.shift_memory_fits shape.shift_reach (omega arith)

    -- a window with room spends no more than its move allows
    pub spent_window : (a : ℕ) (s : Cursor) (d t : ℕ) → s.at + x.size ≤ h.size → Spent v x.size h.size a s d t
        → let w = forward_window has v x h s in Spent v x.size h.size a w.next (d + w.comparisons) (t + 1)
    spent_window a s d t room p =
        let w = moves s in
        let paid = w.paid p.memory_fits in
        let inside = w.inside p.memory_fits in
        record {
          paid = omega arith;
          moved = omega arith;
          within = omega arith;
          memory_fits = w.memory_fits;
          bounded = bounded_by x.size h.size a s.at _ t (omega arith) room (omega arith) p.moved;
        }

    module _ (stepping : Bool) (old fuel : ℕ) where
      pub spent_search : (a : ℕ) (s : Cursor) (d t : ℕ) → Spent v x.size h.size a s d t
          → let r = forward_search fuel stepping has v x h old s d t in Spent v x.size h.size a r.cursor r.comparisons r.tests
      spent_search a =
          search_keeps has v x h stepping old (Spent v x.size h.size a) (omega arith) (spent_window a) (spent_end v x.size h.size a) fuel

      -- a call that counts from 0 goes on from what the calls before it spent
      pub spent_call : (a : ℕ) (s : Cursor) (d t : ℕ) → Spent v x.size h.size a s d t
          → let r = forward_search fuel stepping has v x h old s 0 0 in Spent v x.size h.size a r.cursor (d + r.comparisons) (t + r.tests)
      spent_call a s d t p = rw (search_shift has v x h stepping old fuel s d t) at (spent_search a s d t p)

      -- a search neither goes back nor passes the end
      pub search_ends : (s : Cursor) (d t : ℕ) → s.at ≤ h.size
          → let r = forward_search fuel stepping has v x h old s d t in (s.at ≤ r.cursor.at) × (r.cursor.at ≤ h.size)
      search_ends s d t hs =
          search_keeps has v x h stepping old (λ z _ _. (s.at ≤ z.at) × (z.at ≤ h.size)) (omega arith)
          (λ z _ _ room p. let w = moves z in omega arith)
          (λ z _ _ p. omega arith) fuel s d t (omega arith)

      pub memory_kinds : (s : Cursor) (d t : ℕ) → let r = forward_search fuel stepping has v x h old s d t in (r.cursor.memory ≡ s.memory) ⊎ Sets v r.cursor.memory
      memory_kinds s d t =
          search_keeps has v x h stepping old (λ z _ _. (z.memory ≡ s.memory) ⊎ Sets v z.memory) (omega arith)
          (λ z _ _ room p. inr (window_sets z))
          (λ z _ _ p. p) fuel s d t (inl refl)

    -- Every window moves on, so that fuel for the letters left is enough: more of it changes nothing.
    pub search_fuel : (stepping : Bool) (old f g : ℕ) (s : Cursor) (d t : ℕ) → h.size < f + s.at → h.size < g + s.at
        → forward_search f stepping has v x h old s d t ≡ forward_search g stepping has v x h old s d t
    unfolding forward_search
    search_fuel stepping old zero zero s d t hf hg = refl
    search_fuel stepping old zero (suc g) s d t hf hg = rw (le-ltb (s.at + (x.size - 1)) h.size (omega arith))
    search_fuel stepping old (suc f) zero s d t hf hg = rw (le-ltb (s.at + (x.size - 1)) h.size (omega arith))
    search_fuel stepping old (suc f) (suc g) s d t hf hg =
        let w = forward_window has v x h s in
        let on = (moves s).on in
        rw (search_fuel stepping old f g w.next (d + w.comparisons) (t + 1) (omega arith) (omega arith))
