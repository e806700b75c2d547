-- What a forward search means, for a plan that guides it: a hit is the least occurrence from the cursor on, and what is passed over holds none.
-- So the hits of a whole walk are the greedy leftmost list. Assumes nothing.
use Prim.Native.Nat.{ℕ, zero, suc, ◌+◌, ◌-◌, ◌<◌, ◌≤◌}
use mathlib.Core.Path.{◌≡◌, refl, sym, ◌∙◌, subst}
use mathlib.Core.Bool.{Bool, true, false, cond, not, ◌&&◌, false≢true}
use mathlib.Core.List.{List, ◌∷◌}
use native.Mathlib.Omega.{arith}
use native.Mathlib.Decide.{dec_lt}
use lib.Dec.{ltb, eqb}
use borrow.Author.Tests.{ltb-true, ltb-false, eqb-true, eqb-false}
use Rattle.words.specs.Word.{Word}
use Rattle.words.specs.Choice.{Least, Nowhere, FindsLeast}
use Rattle.words.specs.Occurs.{OccursFrom, Leftmost}
use Rattle.words.proofs.Tests.{least_same}
use Rattle.windows.specs.declared.Plan.{Plan}
use Rattle.windows.specs.declared.Cursor.{Cursor}
use Rattle.windows.specs.declared.Outcome.{Outcome}
use Rattle.windows.specs.declared.Stop.{Stop}
use Rattle.windows.specs.declared.Searched.{Searched}
use Rattle.windows.specs.Window.{forward_window}
use Rattle.windows.specs.Search.{ended, moved_to, forward_search}
use Rattle.windows.specs.Meaning.{Guides, Gap, place}
use Rattle.windows.proofs.Windows.{Sound, Skips, WindowMeans, window_means}

-- What each end of a search from a says, where the cursor then stands at b.
-- Only a step (`stepping` is true) ends between two windows, and then it has moved; so its hit is where it started.
abbrev pub Meant : Plan → Word → Word → Bool → ℕ → ℕ → ℕ → Stop → Type 0
Meant v x h stepping old a b (Stop.Hit k) = Least (OccursFrom x h a) k × (b ≡ k + v.shift) × (stepping ≡ true → k ≡ old)
Meant v x h stepping old a b Stop.Passed = Skips x h a b × (stepping ≡ true) × (b ≡ old → ⊥)
Meant v x h stepping old a b Stop.Out = Nowhere (OccursFrom x h a) × (b ≡ h.size)

-- what the result r of a search from a means
pub record SearchMeans (v : Plan) (x h : Word) (stepping : Bool) (old a : ℕ) (r : Searched) : Type 0 where
  pub onward : a ≤ r.cursor.at
  pub sound : Sound x h r.cursor
  pub meant : Meant v x h stepping old a r.cursor.at r.stop

-- Where no occurrence starts from a on and before b, those from a on are those from b on.
module _ {x h : Word} {a b : ℕ} (on : a ≤ b) (skips : Skips x h a b) where
  from_later : (j : ℕ) → OccursFrom x h b j → OccursFrom x h a j
  from_later j o = let lo = o.0 in (omega arith, o.1)

  from_earlier : (j : ℕ) → OccursFrom x h a j → OccursFrom x h b j
  from_earlier j o = elim (dec_lt j b) [ yes y ↦ absurd (skips j o.0 y o.1) | no y ↦ (omega arith, o.1) ]

  -- a search from b means the same from a
  search_skip : {v : Plan} {stepping : Bool} {old : ℕ} {r : Searched} → SearchMeans v x h stepping old b r → SearchMeans v x h stepping old a r
  search_skip {v} {stepping} {old} {r} m =
      let later = m.onward in
      record { onward = omega arith; sound = m.sound; meant = go r.stop m.meant }
    where
      go : (t : Stop) → Meant v x h stepping old b r.cursor.at t → Meant v x h stepping old a r.cursor.at t
      go (Stop.Hit k) n = (least_same from_later from_earlier n.0, n.1, n.2)
      go Stop.Passed n = (λ j lo hi o. n.0 j (from_earlier j (lo, o)).0 hi o, n.1, n.2)
      go Stop.Out n = (λ j o. n.0 j (from_earlier j o), n.1)

  -- so they have the same list
  pub leftmost_skip : {gap : ℕ} {ks : List ℕ} → Leftmost x h gap b ks → Leftmost x h gap a ks
  leftmost_skip (Leftmost.over m) = Leftmost.over (λ j o. m j (from_earlier j o))
  leftmost_skip (Leftmost.hit l rest) = Leftmost.hit (least_same from_later from_earlier l) rest

module _ {has : ℕ → Bool} {v : Plan} {x : Word} (g : Guides has v x) (h : Word) (stepping : Bool) (old : ℕ) where
  -- Each window moves on, so with one for each place from the cursor to the haystack's end, that end included, no search is cut short.
  pub search_means : (fuel : ℕ) (s : Cursor) (comparisons tests : ℕ) → Sound x h s → h.size < fuel + s.at
      → SearchMeans v x h stepping old s.at (forward_search fuel stepping has v x h old s comparisons tests)
  unfolding forward_search
  search_means zero s comparisons tests ok enough = let inside = ok.inside in absurd (omega arith)
  search_means (suc more) s comparisons tests ok enough =
      by_room
      (λ room. let m = shown room in let on = m.onward in search_means more w.next (comparisons + w.comparisons) (tests + 1) m.sound (omega arith))
      (ltb (s.at + (x.size - 1)) h.size)
      refl
    where
      w : Outcome
      w = forward_window has v x h s

      rest : Searched
      rest = forward_search more stepping has v x h old w.next (comparisons + w.comparisons) (tests + 1)

      tried : Bool → Searched
      tried b = cond b (ended (Stop.Hit s.at) w.next (comparisons + w.comparisons) (tests + 1)) rest

      Means : Searched → Type 0
      Means r = SearchMeans v x h stepping old s.at r

      shown : s.at + x.size ≤ h.size → WindowMeans v x h s w
      shown room = window_means g h s room ok.remembers

      by_match : WindowMeans v x h s w → SearchMeans v x h stepping old w.next.at rest → (b : Bool) → w.matched ≡ b → (stepping ≡ true → s.at ≡ old) → Means (tried b)
      by_match m later true e here =
          let on = m.onward in
          let first : Least (OccursFrom x h s.at) s.at = record { holds = (omega arith, m.occurs e); none_before = λ j hj o. let lo = o.0 in omega arith } in
          record { onward = omega arith; sound = m.sound; meant = (first, m.shifts e, here) }
      by_match m later false e here = let on = m.onward in search_skip (omega arith) (m.skips e) later

      by_stepping : ((stepping ≡ true → s.at ≡ old) → Means (tried w.matched)) → (b o : Bool) → stepping ≡ b → eqb s.at old ≡ o → Means (cond (b && not o) (ended Stop.Passed s comparisons tests) (tried w.matched))
      by_stepping m true false e f =
          record {
            onward = omega arith;
            sound = ok;
            meant = (λ j lo hi o. absurd (omega arith), e, eqb-false s.at old f);
          }
      by_stepping m true true e f = m (λ y. eqb-true s.at old f)
      by_stepping m false o e f = m (λ y. absurd (false≢true (sym e ∙ y)))

      by_room : (s.at + x.size ≤ h.size → SearchMeans v x h stepping old w.next.at rest) → (b : Bool) → ltb (s.at + (x.size - 1)) h.size ≡ b
          → Means (cond b (cond (stepping && not (eqb s.at old)) (ended Stop.Passed s comparisons tests) (tried w.matched)) (ended Stop.Out (moved_to h.size s) comparisons tests))
      by_room later true e =
          let fits = ltb-true (s.at + (x.size - 1)) h.size e in
          let split = g.split_inside in
          let room : s.at + x.size ≤ h.size = omega arith in
          by_stepping (by_match (shown room) (later room) w.matched refl) stepping (eqb s.at old) refl refl
      by_room later false e =
          let none = ltb-false (s.at + (x.size - 1)) h.size e in
          let split = g.split_inside in
          let inside = ok.inside in
          record {
            onward = inside;
            sound = record { inside = omega arith; memory_fits = ok.memory_fits; remembers = λ room. absurd (omega arith) };
            meant = (λ j o. let lo = o.0 in let fits = o.1.fits in absurd (omega arith), refl);
          }

-- What follows from the meaning of a search, once its end is known.
module _ {v : Plan} {x h : Word} {stepping : Bool} {old a : ℕ} {r : Searched} (m : SearchMeans v x h stepping old a r) where
  pub meant_at : {t : Stop} → r.stop ≡ t → Meant v x h stepping old a r.cursor.at t
  meant_at e = subst (Meant v x h stepping old a r.cursor.at) e m.meant

  -- a hit stands in front of the list from the cursor on
  pub leftmost_hit : {gap k : ℕ} {ks : List ℕ} → Gap v x gap → r.stop ≡ Stop.Hit k → Leftmost x h gap r.cursor.at ks → Leftmost x h gap a (k ∷ ks)
  leftmost_hit {gap} {k} {ks} between e rest =
      let n = meant_at e in
      let within = between.within in
      let here : Leftmost x h gap (k + v.shift) ks = rw (← n.1) rest in
      Leftmost.hit n.0 (leftmost_skip (omega arith) (λ j. between.between h k j n.0.holds.1) here)

  -- what was passed over adds nothing to that list
  pub leftmost_passed : {gap : ℕ} {ks : List ℕ} → r.stop ≡ Stop.Passed → Leftmost x h gap r.cursor.at ks → Leftmost x h gap a ks
  leftmost_passed e = leftmost_skip m.onward (meant_at e).0

-- A next match gives the least occurrence, or nothing exactly if there is none.
module _ {v : Plan} {x h : Word} {old a : ℕ} {r : Searched} (m : SearchMeans v x h false old a r) where
  pub next_least : FindsLeast (OccursFrom x h a) (place r.stop)
  next_least = go r.stop m.meant
    where
      go : (t : Stop) → Meant v x h false old a r.cursor.at t → FindsLeast (OccursFrom x h a) (place t)
      go (Stop.Hit k) n = n.0
      go Stop.Passed n = absurd (false≢true n.1)
      go Stop.Out n = n.0
