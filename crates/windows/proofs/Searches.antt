-- What holds of every forward search, whatever its windows do: counts handed in are carried along, and what each window keeps is kept.
-- Assumes nothing.
use Prim.Native.Nat.{ℕ, zero, suc, ◌+◌, ◌-◌, ◌<◌, ◌≤◌}
use mathlib.Core.Path.{◌≡◌, refl}
use mathlib.Core.Bool.{Bool, true, false, cond, not, ◌&&◌}
use native.Mathlib.Nat.{add_assoc, add-zero}
use native.Mathlib.Omega.{arith}
use lib.Dec.{ltb, eqb}
use borrow.Author.Tests.{ltb-true}
use Rattle.words.specs.Word.{Word}
use Rattle.windows.specs.declared.Plan.{Plan}
use Rattle.windows.specs.declared.Cursor.{Cursor}
use Rattle.windows.specs.declared.Stop.{Stop}
use Rattle.windows.specs.declared.Searched.{Searched}
use Rattle.windows.specs.Window.{forward_window}
use Rattle.windows.specs.Search.{ended, moved_to, forward_search}

-- a result with its counts added to those of before
abbrev pub counted_on : ℕ → ℕ → Searched → Searched
counted_on d t r = ended r.stop r.cursor (d + r.comparisons) (t + r.tests)

module _ (has : ℕ → Bool) (v : Plan) (x h : Word) where
  -- A search with fuel left, over its three tests: room, middle Reject, match. `on` is the search with one less.
  abbrev chosen : Bool → Bool → Bool → (Cursor → ℕ → ℕ → Searched) → Cursor → ℕ → ℕ → Searched
  chosen room passed matched on s d t =
      let w = forward_window has v x h s in
      let found = ended (Stop.Hit s.at) w.next (d + w.comparisons) (t + 1) in
      let tried = cond matched found (on w.next (d + w.comparisons) (t + 1)) in
      cond room (cond passed (ended Stop.Passed s d t) tried) (ended Stop.Out (moved_to h.size s) d t)

  module _ (stepping : Bool) (old : ℕ) where
    -- by induction on the fuel, over counts that later windows start from
    search_counted : (fuel : ℕ) (s : Cursor) (d t d' t' : ℕ)
        → forward_search fuel stepping has v x h old s (d + d') (t + t') ≡ counted_on d t (forward_search fuel stepping has v x h old s d' t')
    unfolding forward_search
    search_counted zero s d t d' t' = refl
    search_counted (suc more) s d t d' t' =
        go (ltb (s.at + (x.size - 1)) h.size) (stepping && not (eqb s.at old)) (forward_window has v x h s).matched (λ s. search_counted more s d t)
      where
        on : Cursor → ℕ → ℕ → Searched
        on = forward_search more stepping has v x h old

        go : (a b c : Bool) → ((s : Cursor) (d' t' : ℕ) → on s (d + d') (t + t') ≡ counted_on d t (on s d' t'))
            → chosen a b c on s (d + d') (t + t') ≡ counted_on d t (chosen a b c on s d' t')
        go false b c e = refl
        go true true c e = refl
        go true false true e = simp add_assoc
        go true false false e = simp add_assoc (e _ _ _)

    -- counts handed in are added to those that the search makes, and change nothing else
    pub search_shift : (fuel : ℕ) (s : Cursor) (d t : ℕ) → forward_search fuel stepping has v x h old s d t ≡ counted_on d t (forward_search fuel stepping has v x h old s 0 0)
    search_shift fuel s d t = rw (add-zero d, add-zero t) at (search_counted fuel s d t 0 0)

    -- a search keeps what each window with room keeps, and the move to the end
    pub search_keeps : (P : Cursor → ℕ → ℕ → Type 0) → 0 < x.size
        → ((s : Cursor) (d t : ℕ) → s.at + x.size ≤ h.size → P s d t
        → let w = forward_window has v x h s in P w.next (d + w.comparisons) (t + 1))
        → ((s : Cursor) (d t : ℕ) → P s d t → P (moved_to h.size s) d t)
        → (fuel : ℕ) (s : Cursor) (d t : ℕ) → P s d t
        → let r = forward_search fuel stepping has v x h old s d t in P r.cursor r.comparisons r.tests
    unfolding forward_search
    search_keeps P some window end zero s d t p = end s d t p
    search_keeps P some window end (suc more) s d t p =
        go (ltb (s.at + (x.size - 1)) h.size) refl (stepping && not (eqb s.at old)) (forward_window has v x h s).matched (search_keeps P some window end more)
      where
        on : Cursor → ℕ → ℕ → Searched
        on = forward_search more stepping has v x h old

        Ends : Searched → Type 0
        Ends r = P r.cursor r.comparisons r.tests

        go : (a : Bool) → ltb (s.at + (x.size - 1)) h.size ≡ a → (b c : Bool) → ((s : Cursor) (d t : ℕ) → P s d t → Ends (on s d t))
            → Ends (chosen a b c on s d t)
        go false e b c rest = end s d t p
        go true e true c rest = p
        go true e false true rest = window s d t (omega (arith, ltb-true)) p
        go true e false false rest = rest _ _ _ (window s d t (omega (arith, ltb-true)) p)
