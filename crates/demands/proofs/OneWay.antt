-- A walk in one direction, over words: searches in a row, each from where the one before ended. What it costs and what its matches are.
-- A backward walk is such a walk over the mirrored words, so both demands are argued here, once for both directions.
-- Assumes nothing.
use Prim.Native.Nat.{ℕ, ◌+◌, ◌<◌, ◌≤◌}
use mathlib.Core.Path.{◌≡◌, refl, ◌∙◌, subst}
use mathlib.Core.Bool.{Bool, true, false}
use mathlib.Core.List.{List, [], ◌∷◌, ◌++◌, append_assoc}
use mathlib.Core.Logic.{◌⊎◌, inl, inr, ⊎_elim}
use native.Mathlib.Omega.{arith}
use Rattle.words.specs.Word.{Word}
use Rattle.words.specs.Choice.{FindsLeast}
use Rattle.words.specs.Occurs.{Occurs, OccursFrom, Leftmost}
use Rattle.windows.specs.declared.Plan.{Plan}
use Rattle.windows.specs.declared.Cursor.{Cursor}
use Rattle.windows.specs.declared.Stop.{Stop}
use Rattle.windows.specs.declared.Searched.{Searched}
use Rattle.windows.specs.Search.{forward_search}
use Rattle.windows.specs.Meaning.{Guides, Gap, place}
use Rattle.windows.specs.Shape.{Shape}
use Rattle.windows.proofs.Windows.{Sound, Skips, sound_start}
use Rattle.windows.proofs.Meaning.{Meant, SearchMeans, search_means, leftmost_hit, leftmost_passed, leftmost_skip, meant_at, next_least}
use Rattle.windows.proofs.Matches.{Follows}
use Rattle.windows.proofs.Counts.{Sets, Spent, spent_none, spent_call, memory_kinds}
use Rattle.search.specs.Calls.{walking}
use Rattle.demands.specs.Reached.{Made, nothing_made, and_made}

-- one search from a cursor, with room for every window
abbrev pub searched : (ℕ → Bool) → Plan → Word → Word → Bool → Cursor → Searched
searched has v x h stepping s = forward_search (h.size + 1) stepping has v x h s.at s 0 0

-- the matches of a search
abbrev pub hits : Stop → List ℕ
hits (Stop.Hit k) = k ∷ []
hits Stop.Passed = []
hits Stop.Out = []

-- what was given and made, with one search more
abbrev pub and_searched : Made → Searched → Made
and_searched made r = and_made made (hits r.stop) (walking r.comparisons r.tests)

-- a walk from `start` on: where it stands, and what it has given and made
pub data Walked (has : ℕ → Bool) (v : Plan) (x h : Word) (start : Cursor) : Cursor → Made → Type 0 where
  begun : Walked has v x h start start nothing_made
  on : {s : Cursor} {made : Made} (stepping : Bool) → Walked has v x h start s made
      → Walked has v x h start (searched has v x h stepping s).cursor (and_searched made (searched has v x h stepping s))

-- ---- where it goes and what it costs: no premise is on the letters

-- the memories that a walk can have, where a match clears it or sets the one that a difference sets
abbrev pub Remembered : Plan → ℕ → Type 0
Remembered v k = (k ≡ 0) ⊎ (k ≡ v.period_memory)

pub follows_remembered : {v : Plan} {m : ℕ} → Follows v m → Remembered v v.shift_memory
follows_remembered (Follows.past_needle s k) = inl k
follows_remembered (Follows.by_period s k) = inr k

pub searched_memory : (has : ℕ → Bool) {v : Plan} (x h : Word) (stepping : Bool) (s : Cursor) → Shape v x.size → Remembered v v.shift_memory → Remembered v s.memory
    → Remembered v (searched has v x h stepping s).cursor.memory
searched_memory has {v} x h stepping s shape by_match known = ⊎_elim (λ e. rw e known) by_window (memory_kinds has v x h shape stepping s.at (h.size + 1) s 0 0)
  where
    by_window : {k : ℕ} → Sets v k → Remembered v k
    by_window (Sets.cleared e) = inl e
    by_window (Sets.by_difference e) = inr e
    by_window (Sets.by_match e) = rw e by_match

module _ {has : ℕ → Bool} {v : Plan} {x h : Word} {start : Cursor} (shape : Shape v x.size) (inside : start.at ≤ h.size) (memory_fits : start.memory ≤ x.size) where
  pub walked_spent : {s : Cursor} {made : Made} → Walked has v x h start s made → Spent v x.size h.size start.at s made.comparisons made.tests
  walked_spent Walked.begun = spent_none v x.size h.size start.at start refl inside memory_fits
  walked_spent (Walked.on {s} {made} stepping w) =
      spent_call has v x h shape stepping s.at (h.size + 1) start.at s made.comparisons made.tests (walked_spent w)

-- ---- what its matches are

-- What holds of a walk between any two searches, where it stands at s and has given the matches ks since it stood at a.
pub record Holds (has : ℕ → Bool) (v : Plan) (x h : Word) (gap a : ℕ) (s : Cursor) (ks : List ℕ) : Type 0 where
  -- no window passes over an occurrence, and a match moves on by the gap, or further where nothing is missed
  pub guides : Guides has v x
  pub gaps : Gap v x gap
  -- the memory is true
  pub sound : Sound x h s
  -- the matches so far, and then the greedy list from s on, are the greedy list from a on
  pub lists : (ls : List ℕ) → Leftmost x h gap s.at ls → Leftmost x h gap a (ks ++ ls)

module _ {v : Plan} {x h : Word} where
  -- the matches of a search stand in front of the list from where it ends on
  search_lists : {gap : ℕ} {stepping : Bool} {old a : ℕ} {r : Searched} → Gap v x gap → SearchMeans v x h stepping old a r → (ls : List ℕ)
      → Leftmost x h gap r.cursor.at ls → Leftmost x h gap a (hits r.stop ++ ls)
  search_lists {gap = gap} {a = a} {r = r} gaps m ls later = go r.stop refl
    where
      go : (t : Stop) → r.stop ≡ t → Leftmost x h gap a (hits t ++ ls)
      go (Stop.Hit k) e = leftmost_hit m gaps e later
      go Stop.Passed e = leftmost_passed m e later
      go Stop.Out e = leftmost_skip m.onward (λ j lo hi o. (meant_at m e).0 j (lo, o)) later

module _ {has : ℕ → Bool} {v : Plan} {x h : Word} where
  pub searched_means : (g : Guides has v x) (stepping : Bool) (s : Cursor) → Sound x h s → SearchMeans v x h stepping s.at s.at (searched has v x h stepping s)
  searched_means g stepping s sound = search_means g h stepping s.at (h.size + 1) s 0 0 sound (omega arith)

  holds_start : {gap : ℕ} {s : Cursor} → Guides has v x → Gap v x gap → Sound x h s → Holds has v x h gap s.at s []
  holds_start g gaps sound = record { guides = g; gaps = gaps; sound = sound; lists = λ ls l. l }

  holds_search : (stepping : Bool) {gap a : ℕ} {s : Cursor} {ks : List ℕ} → Holds has v x h gap a s ks
      → let r = searched has v x h stepping s in Holds has v x h gap a r.cursor (ks ++ hits r.stop)
  holds_search stepping {s = s} i =
      let m = searched_means i.guides stepping s i.sound in
      record {
        guides = i.guides;
        gaps = i.gaps;
        sound = m.sound;
        lists = λ ls l. rw append_assoc (i.lists _ (search_lists i.gaps m ls l));
      }

  walked_holds : {gap : ℕ} {start s : Cursor} {made : Made} → Guides has v x → Gap v x gap → Sound x h start → Walked has v x h start s made
      → Holds has v x h gap start.at s made.matches
  walked_holds g gaps sound Walked.begun = holds_start g gaps sound
  walked_holds g gaps sound (Walked.on stepping w) = holds_search stepping (walked_holds g gaps sound w)

  -- a whole walk: from the haystack's end on, with nothing remembered
  pub whole_holds : {gap : ℕ} {start s : Cursor} {made : Made} → Guides has v x → Gap v x gap → start ≡ record { at = 0; memory = 0 } → Walked has v x h start s made
      → Holds has v x h gap 0 s made.matches
  whole_holds {s = s} {made = made} g gaps e w =
      walked_holds g gaps (sound_start x h 0 (omega arith)) (subst (λ (start : Cursor). Walked has v x h start s made) e w)

-- What a step has settled that started at a, before the haystack's end, and now stands at b: a match at a, or that no occurrence starts in between.
abbrev pub Settled : Plan → Word → Word → ℕ → ℕ → Stop → Type 0
Settled v x h a b (Stop.Hit k) = (k ≡ a) × (b ≡ a + v.shift) × Occurs x h a
Settled v x h a b Stop.Passed = (a < b) × Skips x h a b
Settled v x h a b Stop.Out = (a < b) × Skips x h a b

module _ {has : ℕ → Bool} {v : Plan} {x h : Word} {gap a : ℕ} {s : Cursor} {ks : List ℕ} (i : Holds has v x h gap a s ks) where
  pub holds_next : FindsLeast (OccursFrom x h s.at) (place (searched has v x h false s).stop)
  holds_next = next_least (searched_means i.guides false s i.sound)

  pub holds_step : (s.at ≡ h.size → ⊥) → let r = searched has v x h true s in Settled v x h s.at r.cursor.at r.stop
  holds_step more =
      let r = searched has v x h true s in
      let m = searched_means i.guides true s i.sound in
      go r.cursor.at r.stop m.onward m.meant
    where
      go : (b : ℕ) (t : Stop) → s.at ≤ b → Meant v x h true s.at s.at b t → Settled v x h s.at b t
      go b (Stop.Hit k) up n =
          let here = n.2 refl in
          (here, n.1 ∙ omega arith, rw here at n.0.holds.1)
      go b Stop.Passed up n = let moved = n.2 in (omega arith, n.0)
      go b Stop.Out up n = let inside = i.sound.inside in (let e = n.1 in omega arith, λ j lo hi o. n.0 j (lo, o))
