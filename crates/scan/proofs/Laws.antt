-- What a scan's answer is and means, in either direction, once its first x, or the end, is known: proofs/Passes.antt has the way there.
-- Assumes nothing.
use Prim.Native.Nat.{ℕ, ◌+◌, ◌-◌, ◌<◌, ◌≤◌}
use mathlib.Core.Path.{◌≡◌, refl, sym, ◌∙◌, ap}
use mathlib.Core.Bool.{Bool, true, false, cond}
use mathlib.Core.List.{List, [], ◌∷◌}
use Rattle.std.specs.Prelude.{Option, None, Some}
use native.Mathlib.Omega.{arith}
use lib.Dec.{ltb}
use lib.ListN.{length, get_or}
use borrow.Author.Tests.{lt-ltb, le-ltb, ltb-true, ltb-false, eqb-true, eqb-false}
use Rattle.words.specs.Word.{Word, front, back}
use Rattle.words.specs.Choice.{FindsLeast, FindsGreatest}
use Rattle.words.specs.Occurs.{Occurs}
use Rattle.scan.proofs.Passes.{first, read, start}
use Rattle.scan.specs.Scanned.{before, scanned, from_front, from_back, scan_of}
use Rattle.scan.specs.declared.Scan.{Scan}

-- w has k letters, and none of its first k is x
record Missed (x : ℕ) (w : Word) (k : ℕ) : Type 0 where
  inside : k ≤ w.size
  other : (j : ℕ) → j < k → w.letter j ≡ x → ⊥

module _ (x : ℕ) (w : Word) (place : ℕ → ℕ) where
  -- a scan that has passed all letters before the first x, and stands at it
  scanned_hit : {k : ℕ} → k ≤ before x w → before x w < k + 1 → k < w.size → scanned x w place ≡ record { found = Some (place k); comparisons = k + 1 }
  unfolding scanned
  scanned_hit {k} low high h = let here : before x w ≡ k = omega arith in rw (here, lt-ltb k w.size h)

  -- and one that has passed them all
  scanned_miss : w.size ≤ before x w → scanned x w place ≡ record { found = None; comparisons = w.size }
  unfolding scanned
  scanned_miss h = rw (le-ltb (before x w) w.size h)

  -- a scan reports at most one comparison for each letter
  pub scan_few : (scanned x w place).comparisons ≤ w.size
  unfolding scanned
  scan_few = go (ltb (before x w) w.size) refl
    where
      go : (b : Bool) → ltb (before x w) w.size ≡ b
          → (cond {A = Scan} b (record { found = Some (place (before x w)); comparisons = before x w + 1 }) (record { found = None; comparisons = w.size })).comparisons ≤ w.size
      go true e = let h = ltb-true (before x w) w.size e in omega arith
      go false e = omega arith

  -- what the rule's answer means, for any reading M of a place: a hit and a miss have to be shown
  means : (M : Option ℕ → Type 0) → ((k : ℕ) → k < w.size → w.letter k ≡ x → Missed x w k → M (Some (place k))) → (Missed x w w.size → M None)
      → M (scanned x w place).found
  unfolding scanned
  means M hit miss = go (ltb (before x w) w.size) refl
    where
      go : (b : Bool) → ltb (before x w) w.size ≡ b
          → M (cond {A = Scan} b (record { found = Some (place (before x w)); comparisons = before x w + 1 }) (record { found = None; comparisons = w.size })).found
      go true e =
          let h = ltb-true (before x w) w.size e in
          hit (before x w) h (eqb-true _ _ ((first x w).found (omega arith))) (record { inside = omega arith; other = λ j hj. eqb-false _ _ ((first x w).missed j (omega arith) hj) })
      go false e =
          let h = ltb-false (before x w) w.size e in
          miss (record { inside = omega arith; other = λ j hj. eqb-false _ _ ((first x w).missed j (omega arith) (omega arith)) })

module _ (x : ℕ) (text : List ℕ) where
  abbrev Stands : ℕ → Type 0
  Stands k = Occurs (front (x ∷ [])) (front text) k

  stands : (k : ℕ) → k < length text → get_or text k 0 ≡ x → Stands k
  stands k h e =
      record {
        fits = omega arith;
        same = λ i j hi q.
            let first : i ≡ 0 = omega arith in
            let there : k ≡ j = omega arith in
            rw (first, ← there) (sym e);
      }

  is_letter : (k : ℕ) → Stands k → get_or text k 0 ≡ x
  is_letter k o = sym (o.same 0 k (omega arith) (omega arith))

  -- find gives the least position, and nothing exactly if there is none, of one byte
  pub front_means : FindsLeast Stands (from_front x text).found
  front_means =
      means x (front text) (λ k. k) (FindsLeast Stands)
      (λ k h e m. record { holds = stands k h e; none_before = λ j hj o. m.other j hj (is_letter j o) })
      (λ m j o. let f = o.fits in m.other j (omega arith) (is_letter j o))

  -- rfind the greatest
  pub back_means : FindsGreatest Stands (from_back x text).found
  back_means =
      means x (back text) (λ k. length text - (1 + k)) (FindsGreatest Stands)
      (λ k h e m. record {
        holds = stands (length text - (1 + k)) (omega arith) e;
        none_after = λ j hj o. let f = o.fits in m.other (length text - (1 + j)) (omega arith) (ap (λ (y : ℕ). get_or text y 0) (omega arith) ∙ is_letter j o);
      })
      (λ m j o. let f = o.fits in m.other (length text - (1 + j)) (omega arith) (ap (λ (y : ℕ). get_or text y 0) (omega arith) ∙ is_letter j o))

  -- What each return of the code shows: behind k letters passed it stands at the first x, at `at` of the text, or no letter is left.
  pub hit : (backward : Bool) {k at count : ℕ} → k ≤ before x (read text backward) → before x (read text backward) < k + 1 → k < length text
      → at ≡ start text backward 1 k → count ≡ k + 1 → record { found = Some at; comparisons = count } ≡ scan_of backward x text
  hit true {k} {at} low high h e n =
      let there : at ≡ length text - (1 + k) = omega arith in
      rw (there, n) (sym (scanned_hit x (back text) (λ i. length text - (1 + i)) low high h))
  hit false low high h e n = rw (e, n) (sym (scanned_hit x (front text) (λ i. i) low high h))

  pub miss : (backward : Bool) {count : ℕ} → length text ≤ before x (read text backward) → count ≡ length text
      → record { found = None; comparisons = count } ≡ scan_of backward x text
  miss true h n = rw n (sym (scanned_miss x (back text) (λ i. length text - (1 + i)) h))
  miss false h n = rw n (sym (scanned_miss x (front text) (λ i. i) h))
