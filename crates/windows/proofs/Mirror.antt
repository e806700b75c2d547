-- Backward is forward in a mirror: a window and a search by 01's backward rules do what the forward rules do over the words read from the back.
-- What is proved of forward walks is thereby known of backward ones.
-- m is the needle's size and n the haystack's; what has a prime belongs to the forward walk in the mirror.
-- Assumes nothing.
use Prim.Native.Nat.{ℕ, zero, suc, ◌+◌, ◌-◌, ◌^◌, ◌<◌, ◌≤◌, min, max}
use mathlib.Core.Path.{◌≡◌, refl, sym, ◌∙◌, ap}
use mathlib.Core.Bool.{Bool, true, false, cond, not, ◌&&◌, true≢false, false≢true}
use native.Mathlib.Omega.{arith}
use lib.Dec.{ltb, leb, eqb}
use borrow.Author.Tests.{ltb-true, leb-true}
use Rattle.words.specs.Word.{Word, mirror}
use Rattle.words.specs.Choice.{first_from, least}
use Rattle.words.proofs.Tests.{Decides, decides_lt, decides_le, decides_eq, refuted, first_moved}
use Rattle.windows.specs.declared.Plan.{Plan}
use Rattle.windows.specs.declared.Cursor.{Cursor}
use Rattle.windows.specs.declared.Outcome.{Outcome}
use Rattle.windows.specs.declared.Stop.{Stop}
use Rattle.windows.specs.declared.Searched.{Searched}
use Rattle.windows.specs.Window.{outcome, differs, forward_window, backward_window}
use Rattle.windows.specs.Search.{ended, forward_search, backward_search, window_start}
use Rattle.windows.specs.Mirror.{mirrored_plan, mirrored_cursor}
use Rattle.windows.specs.Shape.{BackShape}

-- A backward cursor and a forward one in the mirror that stand at the same place and remember the same letters.
-- As sums, these say too that `end` is at most n and the memory at most m; the walk keeps them, so it keeps that.
pub record MirroredCursor (m n : ℕ) (s s' : Cursor) : Type 0 where
  pub place : s.at + s'.at ≡ n
  pub memories : s.memory + s'.memory ≡ m

pub mirrored_cursor_is : (m n : ℕ) (s : Cursor) → s.at ≤ n → s.memory ≤ m → MirroredCursor m n s (mirrored_cursor m n s)
mirrored_cursor_is m n s a b = omega arith

-- windows that say the same
pub record MirroredOutcome (m n : ℕ) (w w' : Outcome) : Type 0 where
  pub matches : w.matched ≡ w'.matched
  pub nexts : MirroredCursor m n w.next w'.next
  pub counts : w.comparisons ≡ w'.comparisons

-- ends of a search that say the same: the k letters before a match, its own m and the k' behind it are the whole haystack
pub data MirroredStop (m n : ℕ) : Stop → Stop → Type 0 where
  hit : {k k' : ℕ} → k + k' + m ≡ n → MirroredStop m n (Stop.Hit k) (Stop.Hit k')
  passed : MirroredStop m n Stop.Passed Stop.Passed
  out : MirroredStop m n Stop.Out Stop.Out

-- searches that say the same
pub record MirroredSearched (m n : ℕ) (r r' : Searched) : Type 0 where
  pub stops : MirroredStop m n r.stop r'.stop
  pub cursors : MirroredCursor m n r.cursor r'.cursor
  pub counts : r.comparisons ≡ r'.comparisons
  pub tested : r.tests ≡ r'.tests

-- tests of what is equivalent have one answer
same_test : {P Q : Type 0} (a b : Bool) → Decides P a → Decides Q b → (P → Q) × (Q → P) → a ≡ b
same_test true b p q iff = sym (q.complete (iff.0 (p.sound refl)))
same_test false b p q iff = sym (refuted b q (λ y. false≢true (p.complete (iff.1 y))))

-- What relates both branches relates the whole, where the two tests have one answer. The branch of the answer false comes first.
by_cases : {A B : Type 0} (R : A → B → Type 0) {c d : A} {c' d' : B} (a b : Bool) → a ≡ b → R d d' → (a ≡ true → R c c') → R (cond a c d) (cond b c' d')
by_cases R true true e q p = p refl
by_cases R true false e q p = absurd (true≢false e)
by_cases R false true e q p = absurd (false≢true e)
by_cases R false false e q p = q

-- the same for tests of "less", with the fact in place of the answer true
by_less : {A B : Type 0} (R : A → B → Type 0) {c d : A} {c' d' : B} (i j i' j' : ℕ) → (i < j → i' < j') × (i' < j' → i < j) → R d d' → (i < j → R c c')
    → R (cond (ltb i j) c d) (cond (ltb i' j') c' d')
by_less R i j i' j' iff q p =
    by_cases R (ltb i j) (ltb i' j') (same_test (ltb i j) (ltb i' j') (decides_lt i j) (decides_lt i' j') iff) q (λ e. p (ltb-true i j e))

-- A difference in the part that is compared first moves both walks equally far. Of the `upto` letters compared, `agreed` agree; in the mirror they are those from `from` on.
first_move : (m n at at' split upto from agreed i' : ℕ) → at + at' ≡ n → m ≤ at → split ≤ m → upto ≤ split → upto + from ≡ m → agreed < upto → agreed + from ≡ i'
    → at - (split - (upto - (1 + agreed))) + (at' + (i' - (m - split) + 1)) ≡ n
first_move m n at at' split upto from agreed i' a b c d e f g = omega arith

-- One window, where there is room for it.
module _ (has : ℕ → Bool) (v : Plan) (x h : Word) (s s' : Cursor) (fits : BackShape v x.size) (t : MirroredCursor x.size h.size s s')
    (nonempty : 0 < x.size) (room : x.size ≤ s.at) where
  abbrev m : ℕ
  m = x.size

  abbrev n : ℕ
  n = h.size

  -- whether the needle and the window differ at an index
  abbrev apart : ℕ → Bool
  apart = differs x h (s.at - m)

  abbrev apart' : ℕ → Bool
  apart' = differs (mirror x) (mirror h) s'.at

  -- in the mirror the same letters meet, at the index counted from the other end
  apart_mirrored : (i i' : ℕ) → i + i' + 1 ≡ m → apart i ≡ apart' i'
  apart_mirrored i i' e =
      let needle : i ≡ m - (1 + i') = omega arith in
      let haystack : s.at - m + i ≡ n - (1 + (s'.at + i')) = omega arith in
      rw (haystack, needle)

  -- The part that is compared first: backward, the `upto` letters before both the split and what is remembered; in the mirror, those from `from'` on.
  -- The backward rule counts how many of them agree, the forward one finds the index of the difference.
  abbrev upto : ℕ
  upto = min v.split s.memory

  abbrev from' : ℕ
  from' = max (m - v.split) s'.memory

  abbrev first_agreed : ℕ
  first_agreed = least upto (λ d. apart (upto - (1 + d)))

  abbrev first_at' : ℕ
  first_at' = first_from (m - from') from' apart'

  first_part : first_agreed + from' ≡ first_at'
  first_part =
      let moved = first_moved (λ d. apart (upto - (1 + d))) apart' upto (m - from') 0 from' (omega arith) (λ d i lo hi e. apart_mirrored (upto - (1 + d)) i (omega arith)) in
      omega arith

  -- The part that is compared next: backward, the `rest` letters from the split up to what is remembered.
  -- Here the backward rule finds the index, and the forward one counts.
  abbrev rest : ℕ
  rest = s.memory - v.split

  abbrev rest' : ℕ
  rest' = m - v.split - s'.memory

  abbrev next_at : ℕ
  next_at = first_from rest v.split apart

  abbrev next_agreed' : ℕ
  next_agreed' = least rest' (λ d. apart' (m - v.split - (1 + d)))

  next_part : next_at ≡ next_agreed' + v.split
  next_part =
      let moved = first_moved apart (λ d. apart' (m - v.split - (1 + d))) rest rest' v.split 0 (omega arith) (λ i d lo hi e. apart_mirrored i (m - v.split - (1 + d)) (omega arith)) in
      omega arith

  -- a way out of the window, by its numbers
  comes_to : {matched : Bool} {a a' b b' c c' : ℕ} → (a + a' ≡ n) × (b + b' ≡ m) × (c ≡ c') → MirroredOutcome m n (outcome matched a b c) (outcome matched a' b' c')
  comes_to e = record { matches = refl; nexts = record { place = e.0; memories = e.1 }; counts = e.2 }

  pub window_mirrored : MirroredOutcome x.size h.size (backward_window has v x h s) (forward_window has (mirrored_plan x.size v) (mirror x) (mirror h) s')
  unfolding backward_window forward_window
  window_mirrored =
      let R = MirroredOutcome m n in
      let first = first_part in
      let next = next_part in
      by_cases R (has (h.letter (s.at - m))) (has ((mirror h).letter (s'.at + (m - 1)))) (ap (λ i. has (h.letter i)) (omega arith)) (comes_to (omega arith)) λ present.
      by_less R first_agreed upto first_at' m (omega arith)
      (by_less R next_at (v.split + rest) next_agreed' rest' (omega arith) (comes_to (omega arith)) (λ less. comes_to (omega arith)))
      λ less. comes_to (first_move m n s.at s'.at v.split upto from' first_agreed first_at' t.place room fits.split_in (omega arith) (omega arith) less first, omega arith, omega arith)

-- "The window starts at end-m by wrapping subtraction": under the length bounds a wrapped index lies outside the haystack, so "inside the haystack" says that there is room.
module _ (end m n : ℕ) (within : end ≤ n) (haystack : n < 2 ^ 63) (needle : m < 2 ^ 63) where
  pub window_start_room : 0 < m → ltb (window_start end m) n ≡ leb m end
  window_start_room nonempty =
      same_test (ltb (window_start end m) n) (leb m end) (decides_lt (window_start end m) n) (decides_le m end) (omega arith)

-- a way out of the search, by its parts
ends : {m n tests c c' : ℕ} {p p' : Stop} {s s' : Cursor} → MirroredStop m n p p' → MirroredCursor m n s s' → c ≡ c' → MirroredSearched m n (ended p s c tests) (ended p' s' c' tests)
ends p t e = record { stops = p; cursors = t; counts = e; tested = refl }

-- A whole search. Each test that decides how it goes on has one answer in both, and so has the next window.
module _ (stepping : Bool) (has : ℕ → Bool) (v : Plan) (x h : Word) (old old' : ℕ) (fits : BackShape v x.size) (olds : old + old' ≡ h.size)
    (nonempty : 0 < x.size) (needle : x.size < 2 ^ 63) (haystack : h.size < 2 ^ 63) where
  pub search_mirrored : (fuel : ℕ) (s s' : Cursor) (comparisons tests : ℕ) → MirroredCursor x.size h.size s s'
      → MirroredSearched x.size h.size
      (backward_search fuel stepping has v x h old s comparisons tests)
      (forward_search fuel stepping has (mirrored_plan x.size v) (mirror x) (mirror h) old' s' comparisons tests)
  unfolding backward_search forward_search
  search_mirrored zero s s' comparisons tests t = ends MirroredStop.out (omega arith) refl
  search_mirrored (suc more) s s' comparisons tests t =
      let R = MirroredSearched x.size h.size in
      let end = s.at in
      let last' = s'.at + (x.size - 1) in
      let w = backward_window has v x h s in
      let w' = forward_window has (mirrored_plan x.size v) (mirror x) (mirror h) s' in
      let room = window_start_room end x.size h.size (omega arith) haystack needle nonempty in
      let rooms = same_test (leb x.size end) (ltb last' h.size) (decides_le x.size end) (decides_lt last' h.size) (omega arith) in
      let stays = same_test (eqb end old) (eqb s'.at old') (decides_eq end old) (decides_eq s'.at old') (omega arith) in
      by_cases R (ltb (window_start end x.size) h.size) (ltb last' h.size) (room ∙ rooms) (ends MirroredStop.out (omega arith) refl) λ inside.
      let fit = leb-true x.size end (sym room ∙ inside) in
      let same = window_mirrored has v x h s s' fits t nonempty fit in
      by_cases R (stepping && not (eqb end old)) (stepping && not (eqb s'.at old')) (ap (λ b. stepping && not b) stays)
      (by_cases R w.matched w'.matched same.matches
      (rw (← same.counts) (search_mirrored more w.next w'.next (comparisons + w.comparisons) (tests + 1) same.nexts))
      λ matched. ends (MirroredStop.hit (omega arith)) same.nexts (omega arith))
      λ moved. ends MirroredStop.passed t refl
