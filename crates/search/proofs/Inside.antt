-- A match that a search answers lies inside the haystack, whatever its fuel, its plan and its needle's set, in either direction.
-- Assumes nothing.
use Rattle.std.proofs.Common.{◌≡◌, ℕ, zero, suc, ◌+◌, ◌-◌, ◌^◌, ◌<◌, ◌≤◌, Bool, true, false, cond, not, ◌&&◌, eqb, ltb, List, length, refl, arith, ltb-true}
use Rattle.words.specs.Word.{Word, front}
use Rattle.byteset.specs.Fingerprint.{has}
use Rattle.windows.specs.declared.Plan.{Plan}
use Rattle.windows.specs.declared.Cursor.{Cursor}
use Rattle.windows.specs.declared.Outcome.{Outcome}
use Rattle.windows.specs.declared.Stop.{Stop}
use Rattle.windows.specs.declared.Searched.{Searched}
use Rattle.windows.specs.Window.{forward_window}
use Rattle.windows.specs.Search.{ended, moved_to, forward_search, backward_search}
use Rattle.windows.specs.Mirror.{mirrored_cursor}
use Rattle.windows.specs.Shape.{BackShape}
use Rattle.windows.proofs.Mirror.{MirroredStop, mirrored_cursor_is, search_mirrored}
use Rattle.search.specs.Code.{StopFits, Start, forward_from, backward_from, searched_from}

pub hit_inside : (fuel : ℕ) (stepping : Bool) (has : ℕ → Bool) (v : Plan) (x h : Word) (old : ℕ) (s : Cursor) (d t k : ℕ) → 0 < x.size
    → (forward_search fuel stepping has v x h old s d t).stop ≡ Stop.Hit k → k + x.size ≤ h.size
unfolding forward_search
hit_inside zero stepping has v x h old s d t k some e = let z : ◌≡◌ {A = ℕ} 0 1 = cc in absurd (omega arith)
hit_inside (suc more) stepping has v x h old s d t k some e =
    let w = forward_window has v x h s in
    go (ltb (s.at + (x.size - 1)) h.size) refl (stepping && not (eqb s.at old)) w.matched (hit_inside more stepping has v x h old w.next (d + w.comparisons) (t + 1) k some) e
  where
    w : Outcome
    w = forward_window has v x h s

    on : Searched
    on = forward_search more stepping has v x h old w.next (d + w.comparisons) (t + 1)

    go : (a : Bool) → ltb (s.at + (x.size - 1)) h.size ≡ a → (b c : Bool) → (on.stop ≡ Stop.Hit k → k + x.size ≤ h.size)
        → (cond {A = Searched} a
        (cond b (ended Stop.Passed s d t) (cond c (ended (Stop.Hit s.at) w.next (d + w.comparisons) (t + 1)) on))
        (ended Stop.Out (moved_to h.size s) d t)).stop
        ≡ Stop.Hit k
        → k + x.size ≤ h.size
    go false room b c later e = let z : ◌≡◌ {A = ℕ} 0 1 = cc in absurd (omega arith)
    go true room true c later e = let z : ◌≡◌ {A = ℕ} 0 1 = cc in absurd (omega arith)
    go true room false true later e = let same : k ≡ s.at = cc in omega (arith, ltb-true)
    go true room false false later e = later e

-- backward by the mirror
inside : (m n k : ℕ) (p' : Stop) → MirroredStop m n (Stop.Hit k) p' → k + m ≤ n
inside m n k p' (MirroredStop.hit q) = omega arith

pub hit_inside_back : (fuel : ℕ) (stepping : Bool) (has : ℕ → Bool) (v : Plan) (x h : Word) (old : ℕ) (s : Cursor) (d t k : ℕ) → BackShape v x.size → 0 < x.size
    → x.size < 2 ^ 63 → h.size < 2 ^ 63 → old ≤ h.size → s.at ≤ h.size → s.memory ≤ x.size
    → (backward_search fuel stepping has v x h old s d t).stop ≡ Stop.Hit k → k + x.size ≤ h.size
hit_inside_back fuel stepping has v x h old s d t k fits some needle haystack old_in within memory e =
    let there = search_mirrored stepping has v x h old (h.size - old) fits (omega arith) some needle haystack fuel s (mirrored_cursor x.size h.size s) d t (mirrored_cursor_is x.size h.size s within memory) in
    inside x.size h.size k _ (rw e at there.stops)

-- so its end does not wrap
pub stop_fits : (m n : ℕ) (p : Stop) → ((k : ℕ) → p ≡ Stop.Hit k → k + m ≤ n) → n < 2 ^ 63 → StopFits m p
stop_fits m n (Stop.Hit k) inside small = let e = inside k refl in omega arith
stop_fits m n Stop.Passed inside small = tt
stop_fits m n Stop.Out inside small = tt

-- and that of what a search answers, as its contract says
pub search_stop : (backward stepping : Bool) (set : ℕ) (v : Plan) (needle haystack : List ℕ) (k : Cursor) → 0 < length needle → Start backward (length needle) (length haystack) v k
    → StopFits (length needle) (searched_from backward stepping set v needle haystack k).stop
search_stop true stepping set v needle haystack k some begin =
    stop_fits (length needle) (length haystack) (backward_from stepping set v needle haystack k).stop
    (λ j. hit_inside_back (length haystack + 1) stepping (has set) v (front needle) (front haystack) k.at k 0 0 j begin.back some begin.needle (let small = begin.small in omega arith) begin.within begin.within begin.memory)
    (let small = begin.small in omega arith)
search_stop false stepping set v needle haystack k some begin =
    stop_fits (length needle) (length haystack) (forward_from stepping set v needle haystack k).stop
    (λ j. hit_inside (length haystack + 1) stepping (has set) v (front needle) (front haystack) k.at k 0 0 j some)
    (let small = begin.small in omega arith)
